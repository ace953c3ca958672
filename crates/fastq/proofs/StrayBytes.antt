-- A sequence line that ends in LF has its first stray item at the first byte of its text that is no letter (`stray_is`): ground 10 of FASTQ is that of FASTA.
-- By induction over the line.
use Rattle.std.proofs.Common.{◌≡◌, refl, Bool, true, false, cond, ◌&&◌, Some, List, [], ◌∷◌, ℕ, suc, eqb, ne_eqb}
use mathlib.Core.Bool.{and-false}
use Rattle.lines.specs.Lines.{lf_next, text_of}
use Rattle.lines.proofs.Lines.{Ended}
use Rattle.lines.proofs.Lines.Ended.{lf, more}
use Rattle.lines.proofs.Texts.{text_on, no_lf}
use Rattle.settings.specs.Grounds.{ground_at}
use Rattle.fasta.specs.declared.Item.{Item}
use Rattle.fasta.specs.declared.Item.TheVariants.{Skip, Stray, Letter}
use Rattle.fasta.specs.declared.Mode.TheVariants.{FastqSequence}
use Rattle.fasta.specs.File.{is_letter, line_item, item, next, items_from, fault_from}
use Rattle.fastq.specs.Fastq.{first_failing}

letter_step : (b p : ℕ) (is : List Item) (bs : List ℕ) → fault_from true (suc p) is ≡ ground_at 10 (first_failing is_letter (suc p) bs)
    → fault_from true p (cond (is_letter b) (Letter b) Stray ∷ is) ≡ ground_at 10 (first_failing is_letter p (b ∷ bs))
unfolding first_failing fault_from
letter_step b p is bs ih = go (is_letter b)
  where
    go : (c : Bool) → fault_from true p (cond c (Letter b) Stray ∷ is) ≡ ground_at 10 (cond c (first_failing is_letter (suc p) bs) (Some p))
    go true = ih
    go false = refl

-- The item of a byte other than LF before one other than LF.
pub items-on : (b : ℕ) (m : List ℕ) → (b ≡ 10 → ⊥) → lf_next m ≡ false → items_from FastqSequence (b ∷ m) ≡ cond (is_letter b) (Letter b) Stray ∷ items_from FastqSequence m
unfolding items_from item next line_item
items-on b m ne e = rw (ne_eqb b 10 ne, e, and-false (eqb b 13))

-- Such a byte, where the rest is known.
stray_on : (p b : ℕ) (m : List ℕ) → (b ≡ 10 → ⊥) → lf_next m ≡ false
    → fault_from true (suc p) (items_from FastqSequence m) ≡ ground_at 10 (first_failing is_letter (suc p) (text_of m))
    → fault_from true p (items_from FastqSequence (b ∷ m)) ≡ ground_at 10 (first_failing is_letter p (text_of (b ∷ m)))
stray_on p b m ne e ih = rw (items-on b m ne e, text_on b m ne e) (letter_step b p (items_from FastqSequence m) (text_of m) ih)

-- A line's first fault is the first byte of its text that is no letter.
pub stray_is : (p : ℕ) {l : List ℕ} → Ended l → fault_from true p (items_from FastqSequence l) ≡ ground_at 10 (first_failing is_letter p (text_of l))
unfolding text_of items_from item next line_item first_failing fault_from lf_next
stray_is p lf = refl
stray_is p (more {b} ne lf) = rw (ne_eqb b 10 ne) (go (eqb b 13))
  where
    go : (c : Bool) → fault_from true p (cond (c && true) Skip (cond (is_letter b) (Letter b) Stray) ∷ Skip ∷ [])
        ≡ ground_at 10 (first_failing is_letter p (cond (c && true) [] (b ∷ [])))
    go true = refl
    go false = letter_step b p (Skip ∷ []) [] refl
stray_is p (more {b} ne (more {b = c} {c = d} {l = l} ne' E)) =
    stray_on p b (c ∷ d ∷ l) ne (no_lf c (d ∷ l) ne') (stray_is (suc p) (more ne' E))
