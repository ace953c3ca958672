-- What the functions of the program promise each other; no claim rests on it.
use Rattle.std.specs.Prelude.{◌≡◌, ℕ, ◌≤◌, List, length, Result, MatchResult}
use Rattle.settings.specs.Grounds.{ground_of}
use Rattle.settings.specs.declared.Refusal.{Refusal}
use Rattle.texts.specs.declared.Writer.{Writer}
use Rattle.texts.specs.Needs.{Writes}
use Rattle.program.specs.Program.{refused_line}

-- A text was written, for which 2 MiB are room enough; or it is a refusal's line, and nothing was written.
abbrev pub WritesOrRefuses : (text : List ℕ) (w w' : Writer) → Result Unit Refusal → Type 0
WritesOrRefuses text w w' r =
    MatchResult r (λ _. Writes w w' text × (length text ≤ 2097152)) (λ f. (text ≡ refused_line (ground_of f)) × (w' ≡ w))
