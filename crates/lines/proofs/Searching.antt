-- The search for the first byte that fails a test, block by block and byte by byte (`block_passed`), and the line's end that it finds where the test is that a
-- byte is no LF (`lf_found`, `no_lf_found`).
use Rattle.std.proofs.Common.{◌≡◌, refl, sym, ap, ◌∙◌, Bool, true, false, List, ℕ, ◌+◌, ◌-◌, ◌<◌, ◌≤◌, arith, length, drop, get_or, length-drop, get_or-drop, get_or-take, leb, leb-true, leb-false}
use Rattle.std.specs.Array.{IsFirstChunk}
use Rattle.lines.specs.Needs.{NoLf, LineEnd, AllPass}

-- A block of 16 bytes that all pass, behind bytes that all pass.
pub block_passed : (test : ℕ → Bool → Type 0) (f : List ℕ) (i : ℕ) (rest block : List ℕ) → i ≤ length f → rest ≡ drop i f → AllPass test f i
    → IsFirstChunk rest block 16 → AllPass test block 16 → (i + 16 ≤ length f) × AllPass test f (i + 16)
block_passed test f i rest block h e before C all = (omega (arith, C.enough, ap length e, length-drop i f), λ j y. below_or j y (leb i j) refl)
  where
    same : (k : ℕ) → k < 16 → get_or block k 0 ≡ get_or f (i + k) 0
    same k x = rw (C.same, e) (get_or-take 16 (drop i f) k 0 x ∙ get_or-drop i f k 0)

    below_or : (j : ℕ) → j < i + 16 → (c : Bool) → leb i j ≡ c → test (get_or f j 0) true
    below_or j y true g =
        let x = leb-true i j g in
        let at : i + (j - i) ≡ j = omega arith in
        let here = same (j - i) (omega arith) ∙ ap (λ (k : ℕ). get_or f k 0) at in
        rw here at (all (j - i) (omega arith))
    below_or j y false g = before j (leb-false i j g)

-- The first LF of the bytes from a place on, or their end.
module _ (f : List ℕ) (i : ℕ) (rest : List ℕ) (h : i ≤ length f) (e : rest ≡ drop i f) where
  long : length rest + i ≡ length f
  long = rw e (omega (arith, length-drop i f))

  here : (j : ℕ) → i ≤ j → get_or rest (j - i) 0 ≡ get_or f j 0
  here j x = let z : i + (j - i) ≡ j = omega arith in rw e (get_or-drop i f (j - i) 0 ∙ ap (λ (k : ℕ). get_or f k 0) z)

  none_up_to : (k : ℕ) → k ≤ length rest → ((j : ℕ) → j < k → get_or rest j 0 ≡ 10 → ⊥) → NoLf f i (i + k)
  none_up_to k w none =
      record { on = omega arith; inside = λ _. omega (arith, long); bytes = λ j x y g. none (j - i) (omega arith) (here j x ∙ g) }

  pub lf_found : (p : ℕ) → p < length rest → get_or rest p 0 ≡ 10 → ((j : ℕ) → j < p → get_or rest j 0 ≡ 10 → ⊥) → LineEnd f i (i + p)
  lf_found p w lf none =
      let z : i + p - i ≡ p = omega arith in
      record { none_before = none_up_to p (omega arith) none; there = λ _. sym (here (i + p) (omega arith)) ∙ ap (λ (j : ℕ). get_or rest j 0) z ∙ lf }

  pub no_lf_found : ((j : ℕ) → j < length rest → get_or rest j 0 ≡ 10 → ⊥) → LineEnd f i (length f)
  no_lf_found none =
      let z : i + length rest ≡ length f = omega (arith, long) in
      record { none_before = rw z at (none_up_to (length rest) (omega arith) none); there = λ g. absurd (omega arith) }
