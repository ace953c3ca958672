-- The numbers of the refusals that the table calls give. From the definitions of their grounds. "Refusal 3 then never occurs" (document 02, K10).
use Rattle.std.proofs.Common.{refl, Bool, ◌||◌, List, [], ◌∷◌, ℕ, eq-eqb}
use Rattle.settings.specs.Grounds.{Ground, ground, ◌or_else◌}
use Rattle.settings.specs.Settings.{is_in, RefusedOnlyBy}
use Rattle.settings.proofs.FirstGround.{Has, NumberIn, in_behind, test_has, then_has, sizes_has}
use Rattle.files.specs.File.{File, file_fault}
use Rattle.settings.specs.Limits.{too_long}
use Rattle.files.specs.declared.Kind.{Kind}
use Rattle.files.proofs.FaultNumbers.{fault_numbers, fault_numbers_lem}
use Rattle.tally_book.specs.Table.{class_count, too_many, ready_ground, call_ground, clear_ground}
use Rattle.settings.specs.Given.{the_settings}

-- A clearing is refused 1, 2, 4, 6 or 7.
abbrev pub clear_numbers : List ℕ
clear_numbers = 1 ∷ 2 ∷ 4 ∷ 6 ∷ 7 ∷ []

pub clear_numbers_lem : (letters : List ℕ) (k m room : ℕ) → RefusedOnlyBy clear_numbers (clear_ground (the_settings letters k m) room)
unfolding is_in clear_ground
clear_numbers_lem letters k m room =
    sizes_has (NumberIn clear_numbers) letters k m (too_many (class_count (the_settings letters k m))) room (class_count (the_settings letters k m)) refl refl refl refl
    (λ _ _ _ _. refl)

-- So is an add or a withdrawal before its file is read.
pub ready_has : (Q : Ground → Type 0) (letters : List ℕ) (k m room : ℕ) (bytes : List ℕ) → Q (1, 0) → Q (2, 0) → Q (4, 0) → Q (6, 0) → ((p : ℕ) → Q (7, p))
    → Has Q (ready_ground (the_settings letters k m) room bytes)
unfolding ready_ground
ready_has Q letters k m room bytes one two four six seven =
    sizes_has Q letters k m (too_long bytes || too_many (class_count (the_settings letters k m))) room (class_count (the_settings letters k m)) one two four six (λ _ _ p _. seven p)

pub ready_numbers : (letters : List ℕ) (k m room : ℕ) (bytes : List ℕ) → RefusedOnlyBy clear_numbers (ready_ground (the_settings letters k m) room bytes)
unfolding is_in
ready_numbers letters k m room bytes = ready_has (NumberIn clear_numbers) letters k m room bytes refl refl refl refl (λ _. refl)

-- An add or a withdrawal is refused by these, by its last ground, which is 12 or 18, or by the numbers of its kind of file.
abbrev pub call_numbers : (last : ℕ) → Kind → List ℕ
call_numbers last kind = 1 ∷ 2 ∷ 4 ∷ 6 ∷ 7 ∷ last ∷ fault_numbers kind

-- After 7 comes the file's fault, then the last ground.
pub file_numbers_lem : (last : ℕ) (applies : Bool) (file : File) → RefusedOnlyBy (call_numbers last file.kind) (file_fault file or_else ground last applies)
unfolding is_in
file_numbers_lem last applies file =
    let Q = NumberIn (call_numbers last file.kind) in
    then_has Q (file_fault file) (ground last applies)
    (λ f e. in_behind f.0 (1 ∷ 2 ∷ 4 ∷ 6 ∷ 7 ∷ last ∷ []) (fault_numbers file.kind) (fault_numbers_lem file f e))
    (λ _. test_has Q last applies (in_behind last (1 ∷ 2 ∷ 4 ∷ 6 ∷ 7 ∷ []) (last ∷ fault_numbers file.kind) (rw (eq-eqb last last refl))))

pub call_numbers_lem : (letters : List ℕ) (k m room : ℕ) (file : File) (last : ℕ) (applies : Bool)
    → RefusedOnlyBy (call_numbers last file.kind) (call_ground (the_settings letters k m) room file (ground last applies))
unfolding is_in call_ground
call_numbers_lem letters k m room file last applies =
    let Q = NumberIn (call_numbers last file.kind) in
    then_has Q (ready_ground (the_settings letters k m) room file.bytes) (file_fault file or_else ground last applies)
    (ready_has Q letters k m room file.bytes refl refl refl refl (λ _. refl)) (λ _. file_numbers_lem last applies file)
