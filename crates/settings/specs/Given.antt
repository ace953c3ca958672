-- Document 01, "Letters, k and mirror": what a caller gives.
use Rattle.std.specs.Prelude.{ℕ, List}
use Rattle.settings.specs.declared.Settings.{Settings}

-- The settings of a survey: the letters, k, and the mirror's number.
pub record Given : Type 0 where
  pub letters : List ℕ
  pub k : ℕ
  pub mirror : ℕ

-- Three such values as settings.
abbrev pub the_settings : List ℕ → ℕ → ℕ → Given
the_settings letters k mirror = record { letters = letters; k = k; mirror = mirror }

-- What a function is given as settings.
abbrev pub as_given : Settings → Given
as_given settings = the_settings settings.letters.now settings.k settings.mirror
