-- What functions ask of each other; no sentence of document 02 rests on it.
use Rattle.std.specs.Prelude.{◌≡◌, false, List, ◌++◌, ℕ, length, Option, None, Some}
use Rattle.std.specs.Borrow.{Bor}
use Rattle.loading.specs.Shapes.{same_text, inner}

-- What stands in a text between a front and a back, with that front and back.
abbrev pub framed : (front back l : List ℕ) → List ℕ
framed front back l = front ++ (inner (length front) (length back) l ++ back)

-- What a line is where something stands between a front and a back; it has not both of them where nothing does.
abbrev pub Between : (front back l : List ℕ) → Option (Bor (List ℕ)) → Type 0
Between front back l None = same_text l (framed front back l) ≡ false
Between front back l (Some inside) = l ≡ front ++ (inside.now ++ back)
