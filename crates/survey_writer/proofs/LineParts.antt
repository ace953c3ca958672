-- The survey line as its parts are written. From survey's law of the line that we print.
use Rattle.std.proofs.Common.{◌≡◌, ℕ, List, ◌++◌, append_assoc, append-nil}
use Rattle.laws.specs.Text.{bytes}
use Rattle.settings.specs.Settings.{settings_of}
use Rattle.texts.specs.Decimals.{decimal}
use Rattle.survey.specs.Line.{mirror_name, survey_line}
use Rattle.survey.proofs.Written.{printed_line}
use Rattle.settings.specs.Given.{Given}

-- The survey line as its parts are written, one after the other.
pub survey_parts : (s : Given) {n : ℕ} → n ≡ (settings_of s).classes
    → bytes "(survey (letters " ++ (s.letters ++ (bytes ") (k " ++ (decimal s.k ++ ((bytes ") (mirror " ++ mirror_name s.mirror)
    ++ (bytes ") (classes " ++ (decimal n ++ bytes "))\n"))))))
    ≡ survey_line s
survey_parts s e = rw (e, printed_line s) (simp (append_assoc, append-nil))
