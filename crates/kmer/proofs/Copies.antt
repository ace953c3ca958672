-- Copies with T for U (document 02, K2) through the C calls: where the settings have T and no U, a `kmer_add` of a file and one of its copy, on the same table
-- and with the same lent list, return the same number and leave the same list and the same table, and so do two `kmer_withdraw` (`copy_called_into`); so do two
-- lists of such calls, the one with copies in place of some or all of the other's files (`copies_from_c`). From the laws of copies in the crates files and
-- tally_book, since what a call returns and leaves is said by its grounds and the file's windows and numbers.
use Rattle.std.proofs.Common.{◌≡◌, sym, ap₂, ◌∙◌, true, Option, List, ℕ, length}
use mathlib.Core.List.{Forall₂}
use Rattle.settings.specs.Grounds.{Ground, overwritten}
use Rattle.settings.specs.Settings.{reads_u_as_t}
use Rattle.fasta.specs.declared.Numbers.{Numbers}
use Rattle.files.proofs.Copies.{same_file_fault, same_file_numbers}
use Rattle.tally_book.specs.Table.{Call}
use Rattle.tally_book.specs.Copies.{CallCopy}
use Rattle.tally_book.proofs.Copies.{same_calls, copied_file, same_last, same_after, same_ready_ground}
use Rattle.returned.specs.FileNumbers.{five_numbers}
use Rattle.kmer.specs.FileCalls.{into_ground, CallsInto}
use Rattle.kmer.specs.Demand.{Asked, Told, FileCalls}
use Rattle.kmer.specs.Copies.{AskedAlike}
use Rattle.settings.specs.Given.{the_settings}

module _ (letters : List ℕ) (reads : reads_u_as_t letters ≡ true) (k m : ℕ) where
  module _ {c d : Call} (C : CallCopy c d) where
    same_ground : (t : List ℕ) (room : ℕ) → into_ground (the_settings letters k m) t c room ≡ into_ground (the_settings letters k m) t d room
    unfolding into_ground
    same_ground t room =
        let file = copied_file C in
        rw (same_last letters reads k m C t, same_ready_ground letters k file m (length t), same_file_fault file)

    -- Of one call, with a lent list of any length.
    pub copy_called_into : {t lent t' u' new new' : List ℕ} {r r' : ℕ} → CallsInto (the_settings letters k m) t c lent r t' new → CallsInto (the_settings letters k m) t d lent r' u' new'
        → (r ≡ r') × (new ≡ new') × (t' ≡ u')
    copy_called_into {t} {lent} A B =
        let ground = same_ground t (length lent) in
        let numbers = same_file_numbers (copied_file C) letters reads k in
        let list = ap₂ (λ (g : Option Ground) (n : Numbers). overwritten g (five_numbers n) lent) ground numbers in (
          A.returns ∙ rw ground (sym B.returns),
          A.answer_left ∙ list ∙ sym B.answer_left,
          A.table_left ∙ rw (ground, same_after letters reads k m C t) (sym B.table_left),
        )

  call_alike : (t : List ℕ) (c d : Asked) (a b : Told) (t' u' : List ℕ) → AskedAlike c d
      → CallsInto (the_settings letters k m) t c.call c.lent a.number t' a.list
      → CallsInto (the_settings letters k m) t d.call d.lent b.number u' b.list
      → (a ≡ b) × (t' ≡ u')
  call_alike t c d a b t' u' C A B =
      let other : CallsInto (the_settings letters k m) t d.call c.lent b.number u' b.list = rw C.1 B in
      let (number, list, table) = copy_called_into C.0 A other in
      (ap₂ (λ (x : ℕ) (l : List ℕ). record { number = x; list = l }) number list, table)

  pub copies_from_c : {asked asked' : List Asked} → Forall₂ AskedAlike asked asked'
      → {t t' u' : List ℕ} {told told' : List Told} → FileCalls (the_settings letters k m) t asked told t' → FileCalls (the_settings letters k m) t asked' told' u'
      → (told ≡ told') × (t' ≡ u')
  copies_from_c = same_calls _ AskedAlike call_alike
