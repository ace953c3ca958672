-- A line by the bytes in front of its LF: where LF is none of them, it is one line (`ended_by`), and that it is none is shown part by part (`past`). From the
-- definition of a byte being in a text.
use Rattle.std.proofs.Common.{◌≡◌, refl, false, List, [], ◌∷◌, ◌++◌, ℕ, eqb}
use borrow.Author.Tests.{eqb-false}
use mathlib.Mathlib.Data.Bool.Basic.{or-eq-false-eq-eq-false-and-eq-false}
use Rattle.settings.specs.Settings.{is_in}
use Rattle.lines.proofs.Lines.{Ended, ended_more}
use Rattle.lines.proofs.Lines.Ended.{lf}

-- Bytes other than LF, and then an LF.
pub ended_by : (u : List ℕ) → is_in 10 u ≡ false → Ended (u ++ (10 ∷ []))
unfolding is_in
ended_by [] e = lf
ended_by (b ∷ u) e =
    let h = (or-eq-false-eq-eq-false-and-eq-false (eqb b 10) (is_in 10 u)).0 e in
    ended_more (eqb-false b 10 h.0) (ended_by u h.1)

-- A byte is in no part of a text: it is in what follows or not at all.
pub past : (b : ℕ) (u v : List ℕ) → is_in b u ≡ false → is_in b (u ++ v) ≡ is_in b v
unfolding is_in
past b [] v e = refl
past b (c ∷ u) v e =
    let h = (or-eq-false-eq-eq-false-and-eq-false (eqb c b) (is_in b u)).0 e in
    rw h.0 (past b u v h.1)
