-- Copies with T for U (document 02, K2) of FASTQ files: bytes and their copy have the same first fault (`same_fastq_fault`). Line by line, from the grounds of
-- a record, which take U for T everywhere.
use Rattle.std.proofs.Common.{◌≡◌, refl, ap, ◌∙◌, Bool, List, [], ◌∷◌, map, ℕ, suc, ◌+◌, length, eqb}
use lib.ListN.{length-map}
use Rattle.lines.specs.Lines.{lines, text_of}
use Rattle.lines.proofs.Mapped.{first_mapped, lines_mapped, text_mapped}
use Rattle.settings.specs.Copies.{t_for_u, CopyWithT}
use Rattle.settings.proofs.Copies.{same_at, same_lf, same_of_copies}
use Rattle.fasta.specs.File.{is_letter}
use Rattle.fastq.specs.Fastq.{is_there, first_failing, is_quality, record_fault, fastq_fault}

-- A line of the copy.
abbrev copied : List ℕ → List ℕ
copied = map t_for_u

there_copied : (l : List ℕ) → is_there (copied l) ≡ is_there l
unfolding is_there
there_copied [] = refl
there_copied (b ∷ l) = refl

text_copied : (l : List ℕ) → text_of (copied l) ≡ copied (text_of l)
text_copied = text_mapped t_for_u same_lf (same_at (λ (b : ℕ). eqb b 13) refl refl)

-- Where a test takes U for T, and u for t, the first byte that fails it, in the copy of a line's text, has the same place.
module _ (test : ℕ → Bool) (capital : test 85 ≡ test 84) (small : test 117 ≡ test 116) where
  failing_copied : (at : ℕ) (l : List ℕ) → first_failing test at (copied l) ≡ first_failing test at l
  unfolding first_failing
  failing_copied at [] = refl
  failing_copied at (b ∷ l) = rw (same_at test capital small b, failing_copied (suc at) l)

  failing_in_text : (at : ℕ) (l : List ℕ) → first_failing test at (text_of (copied l)) ≡ first_failing test at (text_of l)
  failing_in_text at l = ap (first_failing test at) (text_copied l) ∙ failing_copied at (text_of l)

record_copied : (at : ℕ) (h s p q : List ℕ) → record_fault at (copied h) (copied s) (copied p) (copied q) ≡ record_fault at h s p q
unfolding record_fault is_letter is_quality
record_copied at h s p q =
    rw (
      length-map h t_for_u,
      length-map s t_for_u,
      length-map p t_for_u,
      first_mapped t_for_u 64 (same_at (λ (b : ℕ). eqb b 64) refl refl) h,
      first_mapped t_for_u 43 (same_at (λ (b : ℕ). eqb b 43) refl refl) p,
      there_copied q,
      failing_in_text is_letter refl refl (at + length h) s,
      failing_in_text is_quality refl refl (at + length h + length s + length p) q,
      text_copied q,
      text_copied s,
      length-map (text_of q) t_for_u,
      length-map (text_of s) t_for_u,
    )

lines_copied : (at : ℕ) (ls : List (List ℕ)) → fastq_fault at (map copied ls) ≡ fastq_fault at ls
unfolding fastq_fault
lines_copied at [] = refl
lines_copied at (h ∷ []) = record_copied at h [] [] []
lines_copied at (h ∷ s ∷ []) = record_copied at h s [] []
lines_copied at (h ∷ s ∷ p ∷ []) = record_copied at h s p []
lines_copied at (h ∷ s ∷ p ∷ q ∷ ls) =
    rw (
      record_copied at h s p q,
      length-map h t_for_u,
      length-map s t_for_u,
      length-map p t_for_u,
      length-map q t_for_u,
      lines_copied (at + length h + length s + length p + length q) ls,
    )

pub same_fastq_fault : {bytes copy : List ℕ} → CopyWithT bytes copy → fastq_fault 0 (lines bytes) ≡ fastq_fault 0 (lines copy)
same_fastq_fault =
    same_of_copies (λ (l : List ℕ). fastq_fault 0 (lines l))
    (λ l. ap (fastq_fault 0) (lines_mapped t_for_u same_lf l) ∙ lines_copied 0 (lines l))
