-- "Adding a file that is taken in and withdrawing it next gives the table back." From the contract `Called` of both calls.
use Rattle.std.proofs.Common.{◌≡◌, sym, ap, ◌∙◌, ℕ, ◌≤◌, arith, false, Option, None, List, length, take, length-take-le, get_or-take}
use Rattle.settings.specs.Grounds.{Ground, Outcome, given, ground, outcome, unless_refused}
use Rattle.settings.specs.Settings.{rank_in}
use Rattle.settings.proofs.Outcomes.{passed, first_none, later_none}
use Rattle.fasta.specs.declared.Numbers.{Numbers}
use Rattle.files.specs.File.{File, file_numbers, file_fault}
use Rattle.tally_book.specs.Table.{class_count, places, one_more, ready_ground, call_ground, add, withdraw, table_lacks, table_ground, table_after, Called}
use Rattle.tally_book.proofs.Changes.{length_changes, get_d_more, given_back}
use Rattle.tally_book.proofs.Lacks.{none_lacking}
use Rattle.tally_book.proofs.Ready.{ready_room}
use Rattle.settings.specs.Given.{the_settings}

module _ (letters : List ℕ) (k m : ℕ) where
  -- Where no ground but the last can apply, the last one is the call's.
  only_last : (room : ℕ) (file : File) (last last' : Option Ground) → call_ground (the_settings letters k m) room file last ≡ None
      → call_ground (the_settings letters k m) room file last' ≡ last'
  unfolding call_ground
  only_last room file last last' e =
      let ready = ready_ground (the_settings letters k m) room file.bytes in
      rw (first_none ready _ e, first_none (file_fault file) last (later_none ready _ e))

  -- No class has a smaller count than the file has windows of it, once they were counted.
  none_lacks : (t : List ℕ) (file : File) → class_count (the_settings letters k m) ≤ length t → table_lacks (the_settings letters k m) (table_after (the_settings letters k m) t (add file)) file ≡ false
  none_lacks t file h =
      let n = class_count (the_settings letters k m) in
      let qs = places (the_settings letters k m) file in
      let after = table_after (the_settings letters k m) t (add file) in
      let as_many : length (take n after) ≡ n = length-take-le n after (omega (arith, length_changes one_more qs t)) in
      none_lacking (take n after) qs (λ q l. omega (arith, get_or-take n after q 0 (omega arith), get_d_more qs t q (omega arith)))

  room_of : (room : ℕ) (file : File) (last : Option Ground) → call_ground (the_settings letters k m) room file last ≡ None → class_count (the_settings letters k m) ≤ room
  unfolding call_ground
  room_of room file last e = ready_room letters k m room file.bytes (first_none (ready_ground (the_settings letters k m) room file.bytes) _ e)

  withdrawal_ground : (t : List ℕ) (file : File) → table_ground (the_settings letters k m) t (add file) ≡ None
      → table_ground (the_settings letters k m) (table_after (the_settings letters k m) t (add file)) (withdraw file) ≡ None
  withdrawal_ground t file e =
      ap (λ (room : ℕ). call_ground (the_settings letters k m) room file (ground 18 (table_lacks (the_settings letters k m) (table_after (the_settings letters k m) t (add file)) file)))
      (length_changes one_more (places (the_settings letters k m) file) t)
      ∙ only_last (length t) file _ _ e
      ∙ ap (ground 18) (none_lacks t file (room_of (length t) file _ e))

  pub given_back_whole : {t t' t'' : List ℕ} {file : File} {n : Numbers} {a : Outcome Numbers} → Called (the_settings letters k m) t (add file) (given n) t'
      → Called (the_settings letters k m) t' (withdraw file) a t''
      → (a ≡ given n) × (t'' ≡ t)
  given_back_whole {t} {t'} {t''} {file} {n} {a} A W =
      let P = passed (file_numbers (rank_in letters) k file) (table_ground (the_settings letters k m) t (add file)) A.answers in
      let e = P.none_applies_lem in
      let grown : t' ≡ table_after (the_settings letters k m) t (add file) =
      A.leaves ∙ ap (λ (g : Option Ground). unless_refused g (table_after (the_settings letters k m) t (add file)) t) e in
      let f : table_ground (the_settings letters k m) t' (withdraw file) ≡ None =
      ap (λ (x : List ℕ). table_ground (the_settings letters k m) x (withdraw file)) grown ∙ withdrawal_ground t file e in (
        W.answers ∙ ap (λ (g : Option Ground). outcome g (file_numbers (rank_in letters) k file)) f ∙ ap given (sym P.value),
        W.leaves
            ∙ ap (λ (g : Option Ground). unless_refused g (table_after (the_settings letters k m) t' (withdraw file)) t') f
            ∙ ap (λ (x : List ℕ). table_after (the_settings letters k m) x (withdraw file)) grown
            ∙ given_back t (places (the_settings letters k m) file),
      )
