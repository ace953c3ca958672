-- What the search for the first byte that fails a test finds is the first failing byte of the definitions (`fails_nowhere`, `fails_at`). By induction over
-- the bytes.
use Rattle.std.proofs.Common.{◌≡◌, refl, Bool, true, false, None, Some, List, [], ◌∷◌, ℕ, zero, suc, ◌+◌, ◌<◌, arith, length, get_or}
use Rattle.fastq.specs.Fastq.{first_failing}

module _ (test : ℕ → Bool) where
  -- Where all bytes pass, none fails.
  pub fails_nowhere : (at : ℕ) (l : List ℕ) → ((k : ℕ) → k < length l → test (get_or l k 0) ≡ true) → first_failing test at l ≡ None
  unfolding first_failing
  fails_nowhere at [] all = refl
  fails_nowhere at (b ∷ l) all = rw (all 0 (omega arith)) (fails_nowhere (suc at) l (λ k h. all (suc k) (omega arith)))

  -- The first that fails, behind bytes that pass.
  pub fails_at : (at : ℕ) (l : List ℕ) (p : ℕ) → p < length l → test (get_or l p 0) ≡ false → ((k : ℕ) → k < p → test (get_or l k 0) ≡ true)
      → first_failing test at l ≡ Some (at + p)
  unfolding first_failing
  fails_at at [] p h fails all = absurd (omega arith)
  fails_at at (b ∷ l) zero h fails all = let z : at + 0 ≡ at = omega arith in rw (fails, z)
  fails_at at (b ∷ l) (suc p) h fails all =
      let z : at + suc p ≡ suc at + p = omega arith in
      rw (all 0 (omega arith), z) (fails_at (suc at) l p (omega arith) fails (λ k x. all (suc k) (omega arith)))
