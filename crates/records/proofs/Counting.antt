-- The scan and the reader agree on what a record is: a FASTA file has as many records by its items, "records (header lines)", as the reader
-- gives. A byte opens a record by the one exactly where a header starts by the other.
use Rattle.std.proofs.Common.{◌≡◌, refl, sym, ◌∙◌, ℕ, zero, suc, ◌+◌, ◌-◌, add-one, arith, Bool, true, false, cond, ◌&&◌, ◌||◌, List, ◌∷◌, length, get_or, drop, eqb, ne_eqb}
use mathlib.Core.Bool.{and-false}
use lib.ListN.{length-map}
use Rattle.fasta.specs.declared.Item.{Item}
use Rattle.fasta.specs.declared.Item.TheVariants.{Opens}
use Rattle.fasta.specs.declared.Mode.{Mode}
use Rattle.fasta.specs.declared.Mode.TheVariants.{Start, Header, Sequence}
use Rattle.fasta.specs.Items.{records_in}
use Rattle.fasta.specs.File.{lf_next, line_item, item, next, items_from}
use Rattle.records.specs.Records.{is_header, headers_from, record_of, all_records}
use Rattle.fasta.proofs.Bytes.{line_cases}
use Rattle.fasta.proofs.Scans.{items_step, items_end}

-- The modes of a FASTA file, and whether a line starts there.
data InFasta : Mode → Type 0 where
  start : InFasta Start
  header : InFasta Header
  sequence : InFasta Sequence

at_start : {m : Mode} → InFasta m → Bool
at_start start = true
at_start header = false
at_start sequence = false

line_opens_none : (b : ℕ) (lf : Bool) (is : List Item) → records_in (line_item b lf ∷ is) ≡ records_in is
unfolding records_in
line_opens_none b lf is = line_cases (λ (it : Item). records_in (it ∷ is) ≡ records_in is) b lf refl refl (λ e. refl)

-- A byte opens a record where it is a > at a line's start.
opens : {m : Mode} (F : InFasta m) (b : ℕ) (lf : Bool) (is : List Item)
    → records_in (item m b lf ∷ is) ≡ cond (eqb b 62 && at_start F) (suc (records_in is)) (records_in is)
unfolding item records_in at_start
opens header b lf is = rw (and-false (eqb b 62))
opens sequence b lf is = line_opens_none b lf is ∙ rw (and-false (eqb b 62))
opens start b lf is = go (eqb b 62)
  where
    go : (t : Bool) → records_in (cond t Opens (line_item b lf) ∷ is) ≡ cond (t && true) (suc (records_in is)) (records_in is)
    go true = refl
    go false = line_opens_none b lf is

-- A line starts after LF and nowhere else.
next_start : {m : Mode} → InFasta m → (b : ℕ) → (F : InFasta (next m b)) × (at_start F ≡ eqb b 10)
unfolding next at_start
next_start start b = go (eqb b 10) (eqb b 62)
  where
    go : (s t : Bool) → (F : InFasta (cond s Start (cond t Header Sequence))) × (at_start F ≡ s)
    go true t = (start, refl)
    go false true = (header, refl)
    go false false = (sequence, refl)
next_start header b = go (eqb b 10)
  where
    go : (s : Bool) → (F : InFasta (cond s Start Header)) × (at_start F ≡ s)
    go true = (start, refl)
    go false = (header, refl)
next_start sequence b = go (eqb b 10)
  where
    go : (s : Bool) → (F : InFasta (cond s Start Sequence)) × (at_start F ≡ s)
    go true = (start, refl)
    go false = (sequence, refl)

cond-length : (t : Bool) (p : ℕ) (l : List ℕ) → length (cond t (p ∷ l) l) ≡ cond t (suc (length l)) (length l)
cond-length true p l = refl
cond-length false p l = refl

-- From a place p on, in a mode that says whether a line starts there.
agree : (file : List ℕ) (n p : ℕ) (m : Mode) (F : InFasta m) → n + p ≡ length file → at_start F ≡ (eqb p 0 || eqb (get_or file (p - 1) 0) 10)
    → records_in (items_from m (drop p file)) ≡ length (headers_from file p n)
unfolding headers_from records_in is_header
agree file zero p m F h s = rw (items_end file p m (omega arith))
agree file (suc n) p m F h s =
    let b = get_or file p 0 in
    let e : p + 1 - 1 ≡ p = omega arith in
    let N = next_start F b in
    let s' : at_start N.0 ≡ (eqb (p + 1) 0 || eqb (get_or file (p + 1 - 1) 0) 10) = rw (ne_eqb (p + 1) 0 (λ z. omega arith), e) N.1 in
    let ih : records_in (items_from (next m b) (drop (p + 1) file)) ≡ length (headers_from file (suc p) n) =
    rw (← add-one p) (agree file n (p + 1) (next m b) N.0 (omega arith) s') in
    rw (items_step file p m (omega arith), opens F b (lf_next (drop (p + 1) file)) (items_from (next m b) (drop (p + 1) file)), s, ih)
    (sym (cond-length (is_header file p) p (headers_from file (suc p) n)))

-- A FASTA file has as many records by its items as the reader gives.
pub records_agree : (file : List ℕ) → records_in (items_from Start file) ≡ length (all_records file)
unfolding at_start
records_agree file =
    let e : length file - 0 ≡ length file = omega arith in
    rw e (agree file (length file) 0 Start start (omega arith) refl ∙ sym (length-map (headers_from file 0 (length file)) (record_of file)))
