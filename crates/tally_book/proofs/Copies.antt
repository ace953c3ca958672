-- "There a file and its copy with T for U must now give equal tables" (document 02, K2): where the settings have T and no U, an add of a file and an add of its
-- copy to the same table give the same answer, numbers or refusal and P, and leave the same table, and two withdrawals likewise (`copy_called`); and so do
-- two lists of adds and withdrawals, the one with copies in place of some or all of the other's files (`copies_called`). From the laws of copies in the crate
-- files; for lists call by call, by `same_calls`.
use Rattle.std.proofs.Common.{◌≡◌, refl, sym, ap₂, ◌∙◌, true, List, ◌∷◌, ℕ, length}
use mathlib.Core.List.{Forall₂}
use Rattle.settings.specs.Grounds.{Outcome}
use Rattle.settings.specs.Settings.{reads_u_as_t}
use Rattle.settings.proofs.Copies.{same_length}
use Rattle.fasta.specs.declared.Numbers.{Numbers}
use Rattle.files.specs.File.{File}
use Rattle.settings.specs.Limits.{too_long}
use Rattle.files.specs.Copies.{FileCopy}
use Rattle.files.proofs.Copies.{same_file_fault, same_file_windows, same_file_numbers}
use Rattle.tally_book.specs.Table.{windows_of_file, ready_ground, call_ground, Call, call_file, last_ground, table_ground, table_after, Called}
use Rattle.tally_book.specs.Demand.{Calls, TableCalls}
use Rattle.tally_book.specs.Copies.{CallCopy}
use Rattle.tally_book.specs.Copies.CallCopy.{of_add, of_withdrawal}
use Rattle.tally_book.specs.Demand.Calls.{done, then}
use Rattle.settings.specs.Given.{the_settings}

-- ---- a list of calls

-- Two lists of calls from the same table. Where calls with related arguments, on the same table, give the same answer and leave the same table, so do lists of
-- such calls.
pub same_calls : {C A : Type 0} (Step : List ℕ → C → A → List ℕ → Type 0) (R : C → C → Type 0)
    → ((t : List ℕ) (c d : C) (a b : A) (t' u' : List ℕ) → R c d → Step t c a t' → Step t d b u' → (a ≡ b) × (t' ≡ u'))
    → {cs ds : List C} → Forall₂ R cs ds
    → {t t' u' : List ℕ} {answers answers' : List A} → Calls Step t cs answers t' → Calls Step t ds answers' u' → (answers ≡ answers') × (t' ≡ u')
same_calls Step R same Forall₂.nil done done = (refl, refl)
same_calls Step R same (Forall₂.cons {a = c} {b = d} {l₂ = ds} r rs) (then {t} {t'} {a = a} h calls) (then {t' = u'} {t'' = u''} {a = b} {later = later} g others) =
    let first = same t c d a b t' u' r h g in
    let others-too : Calls Step t' ds later u'' = rw first.1 others in
    let rest = same_calls Step R same rs calls others-too in
    (ap₂ (λ x xs. x ∷ xs) first.0 rest.0, rest.1)

-- ---- adds and withdrawals

module _ (letters : List ℕ) (k : ℕ) {file copy : File} (C : FileCopy file copy) where
  pub same_windows_of_file : reads_u_as_t letters ≡ true → windows_of_file letters k file ≡ windows_of_file letters k copy
  unfolding windows_of_file
  same_windows_of_file reads = same_file_windows C letters reads k

  -- The grounds before the file is read, whatever the letters are.
  pub same_ready_ground : (m room : ℕ) → ready_ground (the_settings letters k m) room file.bytes ≡ ready_ground (the_settings letters k m) room copy.bytes
  unfolding ready_ground too_long
  same_ready_ground m room = rw (same_length C.bytes)

-- The files of two calls on a file and its copy.
pub copied_file : {c d : Call} → CallCopy c d → FileCopy (call_file c) (call_file d)
copied_file (of_add C) = C
copied_file (of_withdrawal C) = C

module _ (letters : List ℕ) (reads : reads_u_as_t letters ≡ true) (k m : ℕ) where
  -- What the last ground reads of two such calls, and what they make of the table.
  pub same_last : {c d : Call} → CallCopy c d → (t : List ℕ) → last_ground (the_settings letters k m) t c ≡ last_ground (the_settings letters k m) t d
  same_last (of_add C) t = rw (same_windows_of_file letters k C reads)
  same_last (of_withdrawal C) t = rw (same_windows_of_file letters k C reads)

  pub same_after : {c d : Call} → CallCopy c d → (t : List ℕ) → table_after (the_settings letters k m) t c ≡ table_after (the_settings letters k m) t d
  same_after (of_add C) t = rw (same_windows_of_file letters k C reads)
  same_after (of_withdrawal C) t = rw (same_windows_of_file letters k C reads)

  same_ground : {c d : Call} → CallCopy c d → (t : List ℕ) → table_ground (the_settings letters k m) t c ≡ table_ground (the_settings letters k m) t d
  unfolding call_ground
  same_ground C t = rw (same_last C t, same_ready_ground letters k (copied_file C) m (length t), same_file_fault (copied_file C))

  pub copy_called : {c d : Call} → CallCopy c d
      → {t t' u' : List ℕ} {answer answer' : Outcome Numbers} → Called (the_settings letters k m) t c answer t' → Called (the_settings letters k m) t d answer' u'
      → (answer ≡ answer') × (t' ≡ u')
  copy_called C {t} A B = (
    A.answers ∙ rw (same_ground C t, same_file_numbers (copied_file C) letters reads k) (sym B.answers),
    A.leaves ∙ rw (same_ground C t, same_after C t) (sym B.leaves),
  )

  pub copies_called : {calls copies : List Call} → Forall₂ CallCopy calls copies
      → {t t' u' : List ℕ} {answers answers' : List (Outcome Numbers)} → TableCalls (the_settings letters k m) t calls answers t' → TableCalls (the_settings letters k m) t copies answers' u'
      → (answers ≡ answers') × (t' ≡ u')
  copies_called = same_calls (Called (the_settings letters k m)) CallCopy (λ t c d a b t' u' C A B. copy_called C A B)
