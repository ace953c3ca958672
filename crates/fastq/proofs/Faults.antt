-- What is known of the first fault of a FASTQ file: a property of the grounds 15, 10, 16 and 17 with a P of at most the file's length is one of that fault
-- (`fastq_has`). Record by record, from the definitions.
use Rattle.std.proofs.Common.{◌≡◌, ap, Bool, true, false, cond, Some, List, [], ◌∷◌, ◌++◌, ℕ, suc, ◌+◌, ◌<◌, ◌≤◌, arith, length, length-append, eqb}
use Rattle.lines.specs.Lines.{lines, text_of, first_byte_is}
use Rattle.lines.specs.Needs.{joined}
use Rattle.lines.proofs.Lines.{joined-lines}
use Rattle.lines.proofs.Texts.{text_short}
use Rattle.settings.specs.Grounds.{Ground, ground_at, ◌or_else◌}
use Rattle.settings.proofs.FirstGround.{Has, none_has, some_has, place_has, then_has}
use Rattle.fasta.specs.File.{is_letter}
use Rattle.fastq.specs.Fastq.{is_there, unless_at, first_failing, is_quality, record_fault, fastq_fault}

-- What a ground with a P of at most n has, the ground of a test has that fails at such a place.
pub unless_has : (Q : Ground → Type 0) {n : ℕ} (i : ℕ) → ((p : ℕ) → p ≤ n → Q (i, p)) → (t : Bool) (at : ℕ) → at ≤ n → Has Q (ground_at i (unless_at t at))
unfolding unless_at
unless_has Q i q true at h = none_has Q
unless_has Q i q false at h = some_has Q (i, at) (q at h)

failing_below : (test : ℕ → Bool) (at : ℕ) (l : List ℕ) (p : ℕ) → first_failing test at l ≡ Some p → p < at + length l
unfolding first_failing
failing_below test at [] p e = absurd (let z : ◌≡◌ {A = ℕ} 0 1 = cc in omega arith)
failing_below test at (b ∷ l) p e = go (test b) e (failing_below test (suc at) l p)
  where
    go : (t : Bool) → cond t (first_failing test (suc at) l) (Some at) ≡ Some p → (first_failing test (suc at) l ≡ Some p → p < suc at + length l)
        → p < at + suc (length l)
    go true f h = omega (arith, h f)
    go false f h = let z : at ≡ p = cc in omega arith

module _ (Q : Ground → Type 0) (n : ℕ) (bad_record : (p : ℕ) → p ≤ n → Q (15, p)) (stray : (p : ℕ) → p < n → Q (10, p))
    (quality-length : (p : ℕ) → p ≤ n → Q (16, p)) (quality-byte : (p : ℕ) → p < n → Q (17, p)) where
  failing_has : (i : ℕ) → ((p : ℕ) → p < n → Q (i, p)) → (test : ℕ → Bool) (at : ℕ) (l : List ℕ) → at + length l ≤ n
      → Has Q (ground_at i (first_failing test at (text_of l)))
  failing_has i q test at l h =
      place_has Q i (first_failing test at (text_of l)) (λ p e. q p (omega (arith, failing_below test at (text_of l) p e, text_short l)))

  record_has : (at : ℕ) (h s p q : List ℕ) → at + length h + length s + length p + length q ≤ n → Has Q (record_fault at h s p q)
  unfolding record_fault
  record_has at h s p q le =
      let second = at + length h in
      let third = second + length s in
      let fourth = third + length p in
      let g1 = ground_at 15 (unless_at (first_byte_is 64 h) at) in
      let g2 = ground_at 15 (unless_at (first_byte_is 43 p) third) in
      let g3 = ground_at 15 (unless_at (is_there q) fourth) in
      let g4 = ground_at 10 (first_failing is_letter second (text_of s)) in
      let g5 = ground_at 16 (unless_at (eqb (length (text_of q)) (length (text_of s))) fourth) in
      let g6 = ground_at 17 (first_failing is_quality fourth (text_of q)) in
      then_has Q g1 (g2 or_else g3 or_else g4 or_else g5 or_else g6) (unless_has Q 15 bad_record (first_byte_is 64 h) at (omega arith))
      (λ _. then_has Q g2 (g3 or_else g4 or_else g5 or_else g6) (unless_has Q 15 bad_record (first_byte_is 43 p) third (omega arith))
      (λ _. then_has Q g3 (g4 or_else g5 or_else g6) (unless_has Q 15 bad_record (is_there q) fourth (omega arith))
      (λ _. then_has Q g4 (g5 or_else g6) (failing_has 10 stray is_letter second s (omega arith))
      (λ _. then_has Q g5 g6 (unless_has Q 16 quality-length (eqb (length (text_of q)) (length (text_of s))) fourth (omega arith))
      (λ _. failing_has 17 quality-byte is_quality fourth q (omega arith))))))

  lines_has : (at : ℕ) (ls : List (List ℕ)) → at + length (joined ls) ≤ n → Has Q (fastq_fault at ls)
  unfolding fastq_fault joined
  lines_has at [] le = none_has Q
  lines_has at (h ∷ []) le = record_has at h [] [] [] (omega (arith, length-append h []))
  lines_has at (h ∷ s ∷ []) le = record_has at h s [] [] (omega (arith, length-append h (s ++ []), length-append s []))
  lines_has at (h ∷ s ∷ p ∷ []) le =
      record_has at h s p [] (omega (arith, length-append h (s ++ (p ++ [])), length-append s (p ++ []), length-append p []))
  lines_has at (h ∷ s ∷ p ∷ q ∷ ls) le =
      let a = length-append h (s ++ (p ++ (q ++ joined ls))) in
      let b = length-append s (p ++ (q ++ joined ls)) in
      let c = length-append p (q ++ joined ls) in
      let d = length-append q (joined ls) in
      let after = at + length h + length s + length p + length q in
      then_has Q (record_fault at h s p q) (fastq_fault after ls) (record_has at h s p q (omega arith)) (λ _. lines_has after ls (omega arith))

  -- Of a file of at most n bytes.
  pub fastq_has : (f : List ℕ) → length f ≤ n → Has Q (fastq_fault 0 (lines f))
  fastq_has f le = lines_has 0 (lines f) (omega (arith, ap length (joined-lines f)))
