-- "Only the sequence counts" (document 02, K1): in a file to which no ground of FASTQ applies, the items that count are those of its sequence lines
-- (`only_the_sequence`). So its windows and its five numbers are theirs (`sequence_windows`, `sequence_numbers`), and a scan of its items meets no fault
-- (`clean_items`): what follows the items is one for both kinds of file. Line by line, from the grounds of a record and the items of its bytes.
use Rattle.std.proofs.Common.{◌≡◌, refl, sym, ap, ◌∙◌, ℕ, suc, ◌+◌, Bool, true, false, cond, ◌&&◌, Option, None, Some, List, [], ◌∷◌, ◌++◌, map, append-nil, length, eqb, ne_eqb}
use Rattle.std.proofs.lemmas.Option.{none-some}
use Rattle.lines.specs.Lines.{lf_next, lines, text_of, first_byte_is}
use Rattle.lines.specs.Needs.{joined}
use Rattle.lines.proofs.Lines.{Ended, Open, Lines, joined-lines, lines-good}
use Rattle.lines.proofs.Lines.Ended.{lf, more}
use Rattle.lines.proofs.Lines.Open.{done, more as free}
use Rattle.lines.proofs.Lines.Lines.{last, then}
use Rattle.lines.proofs.Texts.{text_on, no_lf}
use Rattle.settings.specs.Grounds.{ground_at}
use Rattle.settings.proofs.Outcomes.{first_none, later_none, nowhere_met}
use Rattle.fasta.specs.declared.Item.{Item}
use Rattle.fasta.specs.declared.Item.TheVariants.{Opens, Skip, Stray, Letter}
use Rattle.fasta.specs.declared.Mode.{Mode}
use Rattle.fasta.specs.declared.Mode.TheVariants.{FastqStart, FastqHeader, FastqSequence, FastqPlus, FastqQuality}
use Rattle.fasta.specs.Items.{records_in, letters_in, one_if_foreign, foreign_in, marks, runs, windows_of, windows_in, numbers_in}
use Rattle.fasta.specs.File.{is_letter, line_item, item, next, items_from, fault_from}
use Rattle.fasta.specs.Needs.{is_passed_over}
use Rattle.fasta.proofs.Skipping.{passed_item, passed_next}
use Rattle.fastq.specs.Fastq.{is_there, unless_at, first_failing, record_fault, fastq_fault, sequence_items}
use Rattle.fastq.proofs.StrayBytes.{items-on}

-- ---- items that count

-- Some items without those that count for nothing.
unfoldable pub counted : List Item → List Item
counted [] = []
counted (Opens ∷ is) = Opens ∷ counted is
counted (Skip ∷ is) = counted is
counted (Stray ∷ is) = Stray ∷ counted is
counted (Letter b ∷ is) = Letter b ∷ counted is

records_counted : (is : List Item) → records_in (counted is) ≡ records_in is
unfolding counted records_in
records_counted [] = refl
records_counted (Opens ∷ is) = ap suc (records_counted is)
records_counted (Skip ∷ is) = records_counted is
records_counted (Stray ∷ is) = records_counted is
records_counted (Letter b ∷ is) = records_counted is

letters_counted : (is : List Item) → letters_in (counted is) ≡ letters_in is
unfolding counted letters_in
letters_counted [] = refl
letters_counted (Opens ∷ is) = letters_counted is
letters_counted (Skip ∷ is) = letters_counted is
letters_counted (Stray ∷ is) = letters_counted is
letters_counted (Letter b ∷ is) = ap suc (letters_counted is)

foreign_counted : (rank : ℕ → Option ℕ) (is : List Item) → foreign_in rank (counted is) ≡ foreign_in rank is
unfolding counted foreign_in
foreign_counted rank [] = refl
foreign_counted rank (Opens ∷ is) = foreign_counted rank is
foreign_counted rank (Skip ∷ is) = foreign_counted rank is
foreign_counted rank (Stray ∷ is) = foreign_counted rank is
foreign_counted rank (Letter b ∷ is) = ap (λ (n : ℕ). one_if_foreign (rank b) + n) (foreign_counted rank is)

marks-counted : (rank : ℕ → Option ℕ) (is : List Item) → marks rank (counted is) ≡ marks rank is
unfolding counted marks
marks-counted rank [] = refl
marks-counted rank (Opens ∷ is) = ap (λ (ms : List (Option ℕ)). None ∷ ms) (marks-counted rank is)
marks-counted rank (Skip ∷ is) = marks-counted rank is
marks-counted rank (Stray ∷ is) = marks-counted rank is
marks-counted rank (Letter b ∷ is) = ap (λ (ms : List (Option ℕ)). rank b ∷ ms) (marks-counted rank is)

-- A scan goes by the items that count, but for the places.
fault_counted : (o : Bool) (p p' : ℕ) (is : List Item) → fault_from o p' (counted is) ≡ None → fault_from o p is ≡ None
unfolding counted fault_from
fault_counted o p p' [] e = refl
fault_counted o p p' (Opens ∷ is) e = fault_counted true (suc p) (suc p') is e
fault_counted o p p' (Skip ∷ is) e = fault_counted o (suc p) p' is e
fault_counted o p p' (Stray ∷ is) e = absurd (none-some (10, p') (sym e))
fault_counted true p p' (Letter b ∷ is) e = fault_counted true (suc p) (suc p') is e
fault_counted false p p' (Letter b ∷ is) e = absurd (none-some (11, p') (sym e))

-- ---- the items of a line

-- A letter more in front of the text of a sequence line.
letter_step : (b p : ℕ) (is rest : List Item) (bs : List ℕ) → first_failing is_letter p (b ∷ bs) ≡ None
    → (first_failing is_letter (suc p) bs ≡ None → counted is ≡ map Letter bs ++ rest)
    → counted (cond (is_letter b) (Letter b) Stray ∷ is) ≡ map Letter (b ∷ bs) ++ rest
unfolding first_failing counted
letter_step b p is rest bs e ih = go (is_letter b) e
  where
    go : (c : Bool) → cond c (first_failing is_letter (suc p) bs) (Some p) ≡ None
        → counted (cond c (Letter b) Stray ∷ is) ≡ Letter b ∷ (map Letter bs ++ rest)
    go true f = ap (λ (js : List Item). Letter b ∷ js) (ih f)
    go false f = absurd (none-some p (sym f))

-- The same of the bytes of the line, of which the next is no LF.
sequence_on : (p b : ℕ) (m n : List ℕ) (rest : List Item) → (b ≡ 10 → ⊥) → lf_next m ≡ false → lf_next n ≡ false
    → first_failing is_letter p (text_of (b ∷ n)) ≡ None
    → (first_failing is_letter (suc p) (text_of n) ≡ None → counted (items_from FastqSequence m) ≡ map Letter (text_of n) ++ rest)
    → counted (items_from FastqSequence (b ∷ m)) ≡ map Letter (text_of (b ∷ n)) ++ rest
sequence_on p b m n rest ne e f h ih =
    rw (items-on b m ne e, text_on b n ne f) (letter_step b p (items_from FastqSequence m) rest (text_of n) (rw (text_on b n ne f) at h) ih)

-- A header line's first byte, and the others.
header_on : (b : ℕ) (m : List ℕ) → (b ≡ 10 → ⊥) → items_from FastqStart (b ∷ m) ≡ Opens ∷ items_from FastqHeader m
unfolding items_from item next
header_on b m ne = rw (ne_eqb b 10 ne)

module _ (rest : List ℕ) where
  -- A line that is passed over counts for nothing.
  passed_line : (m : Mode) → is_passed_over m ≡ true → {l : List ℕ} → Ended l → counted (items_from m (l ++ rest)) ≡ counted (items_from (next m 10) rest)
  unfolding counted items_from
  passed_line m F lf = rw (passed_item m F 10 (lf_next rest))
  passed_line m F (more {b} {c} {l} ne E) = rw (passed_item m F b (lf_next (c ∷ l ++ rest)), passed_next m F b ne) (passed_line m F E)

  -- A header line opens a record.
  header_line : {l : List ℕ} → Ended l → counted (items_from FastqStart (l ++ rest)) ≡ Opens ∷ counted (items_from FastqSequence rest)
  unfolding counted items_from item next
  header_line lf = refl
  header_line (more {b} {c} {l} ne E) = ap counted (header_on b (c ∷ l ++ rest) ne) ∙ ap (λ (is : List Item). Opens ∷ is) (passed_line FastqHeader refl E)

  -- A sequence line without a stray byte is the letters of its text.
  sequence_line : (p : ℕ) {l : List ℕ} → Ended l → first_failing is_letter p (text_of l) ≡ None
      → counted (items_from FastqSequence (l ++ rest)) ≡ map Letter (text_of l) ++ counted (items_from FastqPlus rest)
  unfolding counted items_from item next text_of lf_next line_item
  sequence_line p lf e = refl
  sequence_line p (more {b} ne lf) e = rw (ne_eqb b 10 ne) (go (eqb b 13) (rw (ne_eqb b 10 ne) at e))
    where
      go : (c : Bool) → first_failing is_letter p (cond (c && true) [] (b ∷ [])) ≡ None
          → counted (cond (c && true) Skip (cond (is_letter b) (Letter b) Stray) ∷ Skip ∷ items_from FastqPlus rest)
          ≡ map Letter (cond (c && true) [] (b ∷ [])) ++ counted (items_from FastqPlus rest)
      go true f = refl
      go false f = letter_step b p (Skip ∷ items_from FastqPlus rest) (counted (items_from FastqPlus rest)) [] f (λ _. refl)
  sequence_line p (more {b} ne (more {b = c} {c = d} {l = l} ne' E)) e =
      sequence_on p b (c ∷ d ∷ l ++ rest) (c ∷ d ∷ l) (counted (items_from FastqPlus rest)) ne (no_lf c (d ∷ l ++ rest) ne') (no_lf c (d ∷ l) ne') e
      (λ f. sequence_line (suc p) (more ne' E) f)

-- The quality line of the last record may lack its end.
quality_open : {l : List ℕ} → Open l → counted (items_from FastqQuality l) ≡ []
unfolding counted items_from item next
quality_open done = refl
quality_open (free {b} ne O) = rw (ne_eqb b 10 ne) (quality_open O)

-- ---- a record without fault

-- Its sequence line has no stray byte.
no_stray : (at : ℕ) (h s p q : List ℕ) → record_fault at h s p q ≡ None → first_failing is_letter (at + length h) (text_of s) ≡ None
unfolding record_fault
no_stray at h s p q e =
    let a = later_none (ground_at 15 (unless_at (first_byte_is 64 h) at)) _ e in
    let b = later_none (ground_at 15 (unless_at (first_byte_is 43 p) (at + length h + length s))) _ a in
    let c = later_none (ground_at 15 (unless_at (is_there q) (at + length h + length s + length p))) _ b in
    nowhere_met 10 _ (first_none (ground_at 10 (first_failing is_letter (at + length h) (text_of s))) _ c)

-- Its third line is there, and its fourth.
no_plus : (at : ℕ) (h s q : List ℕ) → record_fault at h s [] q ≡ None → ⊥
unfolding record_fault first_byte_is unless_at
no_plus at h s q e = none-some (15, at + length h + length s) (sym (later_none (ground_at 15 (unless_at (first_byte_is 64 h) at)) _ e))

no_quality : (at : ℕ) (h s p : List ℕ) → record_fault at h s p [] ≡ None → ⊥
unfolding record_fault is_there unless_at
no_quality at h s p e =
    let a = later_none (ground_at 15 (unless_at (first_byte_is 64 h) at)) _ e in
    none-some (15, at + length h + length s + length p) (sym (later_none (ground_at 15 (unless_at (first_byte_is 43 p) (at + length h + length s))) _ a))

-- ---- all lines

-- What a record's lines are, given those behind it.
abbrev opened : List ℕ → List Item → List Item
opened s is = Opens ∷ (map Letter (text_of s) ++ is)

sequence_lines : (at : ℕ) (ls : List (List ℕ)) → Lines ls → fastq_fault at ls ≡ None → counted (items_from FastqStart (joined ls)) ≡ sequence_items ls
unfolding fastq_fault joined items_from counted sequence_items next
sequence_lines at [] L e = refl
sequence_lines at (h ∷ []) L e = absurd (no_plus at h [] [] e)
sequence_lines at (h ∷ s ∷ []) L e = absurd (no_plus at h s [] e)
sequence_lines at (h ∷ s ∷ p ∷ []) L e = absurd (no_quality at h s p e)
sequence_lines at (h ∷ s ∷ p ∷ q ∷ []) (then H (then S (then P (last Q)))) e =
    rw (append-nil q)
    (header_line (s ++ (p ++ q)) H
    ∙ ap (λ (is : List Item). Opens ∷ is) (sequence_line (p ++ q) (at + length h) S (no_stray at h s p q (first_none _ _ e)))
    ∙ ap (opened s) (passed_line q FastqPlus refl P ∙ quality_open Q))
sequence_lines at (h ∷ s ∷ p ∷ q ∷ ls) (then H (then S (then P (then Q L)))) e =
    let after = at + length h + length s + length p + length q in
    header_line (s ++ (p ++ (q ++ joined ls))) H
    ∙ ap (λ (is : List Item). Opens ∷ is)
    (sequence_line (p ++ (q ++ joined ls)) (at + length h) S (no_stray at h s p q (first_none _ (fastq_fault after ls) e)))
    ∙ ap (opened s)
    (passed_line (q ++ joined ls) FastqPlus refl P ∙ passed_line (joined ls) FastqQuality refl Q ∙ sequence_lines after ls L (later_none (record_fault at h s p q) _ e))

module _ (f : List ℕ) (e : fastq_fault 0 (lines f) ≡ None) where
  -- The items that count are those of the sequence lines.
  only_the_sequence : counted (items_from FastqStart f) ≡ sequence_items (lines f)
  only_the_sequence =
      ap (λ (x : List ℕ). counted (items_from FastqStart x)) (sym (joined-lines f)) ∙ sequence_lines 0 (lines f) (lines-good f) e

  -- So are the windows, for every k and every rank of letters.
  pub sequence_windows : (rank : ℕ → Option ℕ) (k : ℕ) → windows_in rank k (items_from FastqStart f) ≡ windows_in rank k (sequence_items (lines f))
  sequence_windows rank k =
      ap (λ (ms : List (Option ℕ)). windows_of k (runs ms)) (sym (marks-counted rank (items_from FastqStart f)))
      ∙ ap (windows_in rank k) only_the_sequence

  -- And the five numbers.
  pub sequence_numbers : (rank : ℕ → Option ℕ) (k : ℕ) → numbers_in rank k (items_from FastqStart f) ≡ numbers_in rank k (sequence_items (lines f))
  sequence_numbers rank k =
      let is = items_from FastqStart f in
      rw (sym (records_counted is), sym (letters_counted is), sym (foreign_counted rank is), sym (marks-counted rank is), only_the_sequence)

-- ---- the scan

letters_pass : (p : ℕ) (bs : List ℕ) (is : List Item) → ((q : ℕ) → fault_from true q is ≡ None) → fault_from true p (map Letter bs ++ is) ≡ None
unfolding fault_from
letters_pass p [] is h = h p
letters_pass p (b ∷ bs) is h = letters_pass (suc p) bs is h

sequence_faultless : (o : Bool) (p : ℕ) (ls : List (List ℕ)) → fault_from o p (sequence_items ls) ≡ None
unfolding fault_from sequence_items
sequence_faultless o p [] = refl
sequence_faultless o p (h ∷ []) = refl
sequence_faultless o p (h ∷ s ∷ []) = refl
sequence_faultless o p (h ∷ s ∷ t ∷ []) = refl
sequence_faultless o p (h ∷ s ∷ t ∷ q ∷ ls) = letters_pass (suc p) (text_of s) (sequence_items ls) (λ r. sequence_faultless true r ls)

-- A scan meets neither 10 nor 11 in a file to which no ground of FASTQ applies.
pub clean_items : (f : List ℕ) → fastq_fault 0 (lines f) ≡ None → fault_from false 0 (items_from FastqStart f) ≡ None
clean_items f e =
    fault_counted false 0 0 (items_from FastqStart f) (ap (fault_from false 0) (only_the_sequence f e) ∙ sequence_faultless false 0 (lines f))
