-- Document 01, "Codes along a sequence": the codes of the windows of letters in a row.
use Rattle.std.specs.Prelude.{List, map, ℕ}
use Rattle.laws.specs.Windows.{windows}
use Rattle.encoding.specs.Words.{Mirror}
use Rattle.encoding.specs.Codes.{code}

-- The codes of all windows of a list of ranks.
abbrev pub window_codes : ℕ → Mirror → ℕ → List ℕ → List ℕ
window_codes s m k ranks = map (code s m k) (windows k ranks)
