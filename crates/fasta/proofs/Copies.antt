-- Copies with T for U (document 02, K2), by what their bytes are: only letters' bytes differ (`items-copied`), so bytes and their copy have the same fault
-- (`same_fault`) and, where U has T's rank, the same windows and the same five numbers (`same_windows`, `same_numbers`). Byte by byte and item by item.
use Rattle.std.proofs.Common.{◌≡◌, refl, sym, ap, ◌∙◌, Bool, true, false, Option, List, [], ◌∷◌, map, ℕ, suc}
use Rattle.lines.proofs.Mapped.{lf_mapped}
use Rattle.settings.specs.Copies.{t_for_u, CopyWithT}
use Rattle.settings.proofs.Copies.{byte_cases, same_at, same_lf, same_of_copies}
use Rattle.fasta.specs.declared.Item.{Item}
use Rattle.fasta.specs.declared.Item.TheVariants.{Opens, Skip, Stray, Letter}
use Rattle.fasta.specs.declared.Mode.{Mode}
use Rattle.fasta.specs.declared.Mode.TheVariants.{Start, Header, Sequence, FastqStart, FastqHeader, FastqSequence, FastqPlus, FastqQuality}
use Rattle.fasta.specs.Items.{records_in, letters_in, foreign_in, marks, runs, windows_of, windows_in, numbers_in}
use Rattle.fasta.specs.File.{is_letter, lf_next, line_item, item, next, items_from, fault_from}
use Rattle.fasta.proofs.Bytes.{item-cases}

-- ---- what a copy's bytes are

-- An item of the copy: a letter's byte with T for U.
abbrev copied : Item → Item
copied Opens = Opens
copied Skip = Skip
copied Stray = Stray
copied (Letter b) = Letter (t_for_u b)

-- U and T, u and t, are letters in a sequence line, and alike everywhere else.
item-of_U : (m : Mode) (lf : Bool) → (item m 84 lf ≡ copied (item m 85 lf)) × (item m 116 lf ≡ copied (item m 117 lf))
unfolding item line_item is_letter t_for_u
item-of_U Start lf = (refl, refl)
item-of_U Header lf = (refl, refl)
item-of_U Sequence lf = (refl, refl)
item-of_U FastqStart lf = (refl, refl)
item-of_U FastqHeader lf = (refl, refl)
item-of_U FastqSequence lf = (refl, refl)
item-of_U FastqPlus lf = (refl, refl)
item-of_U FastqQuality lf = (refl, refl)

item-copied : (m : Mode) (lf : Bool) (b : ℕ) → item m (t_for_u b) lf ≡ copied (item m b lf)
unfolding t_for_u
item-copied m lf =
    byte_cases (λ (b : ℕ). item m (t_for_u b) lf ≡ copied (item m b lf)) (item-of_U m lf).0 (item-of_U m lf).1
    (λ b e. ap (λ (c : ℕ). item m c lf) e ∙ item-cases (λ (i : Item). i ≡ copied i) m b lf refl refl refl (λ _. ap Letter (sym e)))

next-of_U : (m : Mode) → (next m 85 ≡ next m 84) × (next m 117 ≡ next m 116)
unfolding next
next-of_U Start = (refl, refl)
next-of_U Header = (refl, refl)
next-of_U Sequence = (refl, refl)
next-of_U FastqStart = (refl, refl)
next-of_U FastqHeader = (refl, refl)
next-of_U FastqSequence = (refl, refl)
next-of_U FastqPlus = (refl, refl)
next-of_U FastqQuality = (refl, refl)

next-copied : (m : Mode) (b : ℕ) → next m (t_for_u b) ≡ next m b
next-copied m = same_at (next m) (next-of_U m).0 (next-of_U m).1

items-copied : (m : Mode) (bytes : List ℕ) → items_from m (map t_for_u bytes) ≡ map copied (items_from m bytes)
unfolding items_from
items-copied m [] = refl
items-copied m (b ∷ bytes) =
    rw (lf_mapped t_for_u same_lf bytes, next-copied m b, items-copied (next m b) bytes)
    (ap (λ (i : Item). i ∷ map copied (items_from (next m b) bytes)) (item-copied m (lf_next bytes) b))

-- ---- what is counted in it

fault_copied : (opened : Bool) (at : ℕ) (is : List Item) → fault_from opened at (map copied is) ≡ fault_from opened at is
unfolding fault_from
fault_copied opened at [] = refl
fault_copied opened at (Opens ∷ is) = fault_copied true (suc at) is
fault_copied opened at (Skip ∷ is) = fault_copied opened (suc at) is
fault_copied opened at (Stray ∷ is) = refl
fault_copied true at (Letter b ∷ is) = fault_copied true (suc at) is
fault_copied false at (Letter b ∷ is) = refl

records_copied : (is : List Item) → records_in (map copied is) ≡ records_in is
unfolding records_in
records_copied [] = refl
records_copied (Opens ∷ is) = ap suc (records_copied is)
records_copied (Skip ∷ is) = records_copied is
records_copied (Stray ∷ is) = records_copied is
records_copied (Letter b ∷ is) = records_copied is

letters_copied : (is : List Item) → letters_in (map copied is) ≡ letters_in is
unfolding letters_in
letters_copied [] = refl
letters_copied (Opens ∷ is) = letters_copied is
letters_copied (Skip ∷ is) = letters_copied is
letters_copied (Stray ∷ is) = letters_copied is
letters_copied (Letter b ∷ is) = ap suc (letters_copied is)

-- The same fault of bytes that stand behind a header or not.
pub same_fault : (m : Mode) (opened : Bool) (at : ℕ) {bytes copy : List ℕ} → CopyWithT bytes copy
    → fault_from opened at (items_from m bytes) ≡ fault_from opened at (items_from m copy)
same_fault m opened at =
    same_of_copies (λ (l : List ℕ). fault_from opened at (items_from m l))
    (λ l. ap (fault_from opened at) (items-copied m l) ∙ fault_copied opened at (items_from m l))

module _ (rank : ℕ → Option ℕ) (same_rank : (b : ℕ) → rank (t_for_u b) ≡ rank b) where
  foreign_copied : (is : List Item) → foreign_in rank (map copied is) ≡ foreign_in rank is
  unfolding foreign_in
  foreign_copied [] = refl
  foreign_copied (Opens ∷ is) = foreign_copied is
  foreign_copied (Skip ∷ is) = foreign_copied is
  foreign_copied (Stray ∷ is) = foreign_copied is
  foreign_copied (Letter b ∷ is) = rw (same_rank b, foreign_copied is)

  marks_copied : (is : List Item) → marks rank (map copied is) ≡ marks rank is
  unfolding marks
  marks_copied [] = refl
  marks_copied (Opens ∷ is) = rw (marks_copied is)
  marks_copied (Skip ∷ is) = marks_copied is
  marks_copied (Stray ∷ is) = marks_copied is
  marks_copied (Letter b ∷ is) = rw (same_rank b, marks_copied is)

  module _ (k : ℕ) (m : Mode) {bytes copy : List ℕ} (C : CopyWithT bytes copy) where
    pub same_windows : windows_in rank k (items_from m bytes) ≡ windows_in rank k (items_from m copy)
    same_windows =
        same_of_copies (λ (l : List ℕ). windows_in rank k (items_from m l))
        (λ l. ap (windows_in rank k) (items-copied m l) ∙ ap (λ (ms : List (Option ℕ)). windows_of k (runs ms)) (marks_copied (items_from m l))) C

    pub same_numbers : numbers_in rank k (items_from m bytes) ≡ numbers_in rank k (items_from m copy)
    same_numbers =
        same_of_copies (λ (l : List ℕ). numbers_in rank k (items_from m l))
        (λ l. let is = items_from m l in
        ap (numbers_in rank k) (items-copied m l) ∙ rw (records_copied is, letters_copied is, foreign_copied is, marks_copied is)) C
