-- Document 01, "Listing and counter program", and document 02, K6: the survey line as we print it.
use Rattle.std.specs.Prelude.{ℕ, zero, suc, List, [], ◌∷◌, ◌++◌}
use Rattle.laws.specs.Text.{bytes}
use Rattle.settings.specs.Settings.{settings_of}
use Rattle.texts.specs.Decimals.{decimal}
use Rattle.survey.specs.Forms.{form, settings_forms, line_of}
use Rattle.settings.specs.Given.{Given}

-- "`reversal` is 0, `complement` 1"
abbrev pub mirror_name : (mirror : ℕ) → List ℕ
mirror_name zero = bytes "reversal"
mirror_name (suc m) = bytes "complement"

-- "we print letters, k, mirror": the settings' forms as we print them.
abbrev pub printed_forms : (settings : Given) → List (List ℕ)
printed_forms settings = settings_forms settings.letters (decimal settings.k) (mirror_name settings.mirror)

-- "The survey line that we print gains a last inner form" (document 02, K6), the number of classes:
-- (survey (letters ACGT) (k 2) (mirror complement) (classes 10)) and LF.
unfoldable pub survey_line : (settings : Given) → List ℕ
survey_line settings =
    line_of (printed_forms settings ++ (form (bytes "classes") (decimal (settings_of settings).classes) ∷ [])) ++ bytes "\n"
