-- A number as the program and the listing print it.
use Rattle.std.specs.Prelude.{ℕ, zero, suc, ◌+◌, ◌/◌, ◌%◌, cond, List, [], ◌∷◌, ◌++◌, ltb}

-- The digits of n, the last one first worked out; `steps` bounds how many there are.
unfoldable pub decimal_from : (steps n : ℕ) → List ℕ
decimal_from zero n = []
decimal_from (suc steps) n = cond (ltb n 10) ((48 + n) ∷ []) (decimal_from steps (n / 10) ++ ((48 + n % 10) ∷ []))

-- A number in decimal with no leading zero. A number has no more digits than suc n.
unfoldable pub decimal : ℕ → List ℕ
decimal n = decimal_from (suc n) n
