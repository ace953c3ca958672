-- The numbers of the refusals that each C call gives, as include/kmer.h lists them: 3 is none of them. "Refusal 3 then never occurs" (document 02,
-- K10). From the definitions of the calls' grounds; kmer_clear's are `clear_numbers_lem` of tally_book, kmer_load's `load_numbers_lem` of loading.
use Rattle.std.proofs.Common.{refl, not, List, [], ◌∷◌, ℕ, ltb, length}
use Rattle.laws.specs.Windows.{windows}
use Rattle.settings.specs.Grounds.{ground, ground_at, too_short, ◌or_else◌}
use Rattle.settings.specs.Settings.{is_in, mirror_of, classes, settings_ground, RefusedOnlyBy}
use Rattle.settings.proofs.FirstGround.{NumberIn, test_has, place_has, then_has, settings_has, sizes_has}
use Rattle.encoding.specs.Calls.{wrong_length, foreign_from, code_ground, read_ground, mirror_ground}
use Rattle.sequence.specs.Sequences.{sequence_ground}
use Rattle.files.specs.File.{file_fault}
use Rattle.settings.specs.Limits.{too_long}
use Rattle.tally_book.specs.Table.{ready_ground, clear_ground, Call, add, withdraw, call_file, table_full, table_lacks, last_ground}
use Rattle.tally_book.proofs.RefusalNumbers.{clear_numbers, clear_numbers_lem, call_numbers, ready_has, file_numbers_lem}
use Rattle.listing.specs.Listing.{listing, listing_ground}
use Rattle.testload.specs.TestLoad.{generate_ground}
use Rattle.kmer.specs.FileCalls.{into_ground}
use Rattle.settings.specs.Given.{the_settings}

-- kmer_code: 1, 2, 4, 5 or 9.
pub code-numbers : (letters : List ℕ) (k m : ℕ) (word : List ℕ) → RefusedOnlyBy (1 ∷ 2 ∷ 4 ∷ 5 ∷ 9 ∷ []) (code_ground (the_settings letters k m) word)
unfolding is_in code_ground
code-numbers letters k m word =
    let Q = NumberIn (1 ∷ 2 ∷ 4 ∷ 5 ∷ 9 ∷ []) in
    let g5 = ground 5 (wrong_length k word) in
    let g9 = ground_at 9 (foreign_from letters 0 word) in
    then_has Q (settings_ground (the_settings letters k m)) (g5 or_else g9) (settings_has Q letters k m refl refl refl)
    (λ _. then_has Q g5 g9 (test_has Q 5 (wrong_length k word) refl) (λ _. place_has Q 9 (foreign_from letters 0 word) (λ _ _. refl)))

-- kmer_word: 1, 2, 4, 7 or 8.
pub read_numbers : (letters : List ℕ) (k m q room : ℕ) → RefusedOnlyBy (1 ∷ 2 ∷ 4 ∷ 7 ∷ 8 ∷ []) (read_ground (the_settings letters k m) q room)
unfolding is_in read_ground
read_numbers letters k m q room =
    let Q = NumberIn (1 ∷ 2 ∷ 4 ∷ 7 ∷ 8 ∷ []) in
    let no-class = not (ltb q (classes (length letters) (mirror_of m) k)) in
    let g7 = ground_at 7 (too_short room k) in
    then_has Q (settings_ground (the_settings letters k m)) (g7 or_else ground 8 no-class) (settings_has Q letters k m refl refl refl)
    (λ _. then_has Q g7 (ground 8 no-class) (place_has Q 7 (too_short room k) (λ _ _. refl)) (λ _. test_has Q 8 no-class refl))

-- kmer_mirror: 1, 2, 4, 5, 7 or 9.
pub mirror-numbers : (letters : List ℕ) (k m : ℕ) (word : List ℕ) (room : ℕ)
    → RefusedOnlyBy (1 ∷ 2 ∷ 4 ∷ 5 ∷ 7 ∷ 9 ∷ []) (mirror_ground (the_settings letters k m) word room)
unfolding is_in mirror_ground
mirror-numbers letters k m word room =
    let Q = NumberIn (1 ∷ 2 ∷ 4 ∷ 5 ∷ 7 ∷ 9 ∷ []) in
    let g5 = ground 5 (wrong_length k word) in
    let g7 = ground_at 7 (too_short room k) in
    let g9 = ground_at 9 (foreign_from letters 0 word) in
    then_has Q (settings_ground (the_settings letters k m)) (g5 or_else g7 or_else g9) (settings_has Q letters k m refl refl refl)
    (λ _. then_has Q g5 (g7 or_else g9) (test_has Q 5 (wrong_length k word) refl)
    (λ _. then_has Q g7 g9 (place_has Q 7 (too_short room k) (λ _ _. refl)) (λ _. place_has Q 9 (foreign_from letters 0 word) (λ _ _. refl))))

-- kmer_codes and kmer_codes_two_bit: 1, 2, 4, 6 or 7.
pub sequence_numbers : (letters : List ℕ) (k m : ℕ) (sequence : List ℕ) (room : ℕ)
    → RefusedOnlyBy (1 ∷ 2 ∷ 4 ∷ 6 ∷ 7 ∷ []) (sequence_ground (the_settings letters k m) sequence room)
unfolding is_in sequence_ground
sequence_numbers letters k m sequence room =
    sizes_has (NumberIn (1 ∷ 2 ∷ 4 ∷ 6 ∷ 7 ∷ [])) letters k m (too_long sequence) room (length (windows k sequence)) refl refl refl refl
    (λ _ _ _ _. refl)

-- The number of a call's last ground.
abbrev pub last_number : Call → ℕ
last_number (add file) = 12
last_number (withdraw file) = 18

last_numbers : (letters : List ℕ) (k m : ℕ) (t : List ℕ) (c : Call)
    → RefusedOnlyBy (call_numbers (last_number c) (call_file c).kind) (file_fault (call_file c) or_else last_ground (the_settings letters k m) t c)
last_numbers letters k m t (add file) = file_numbers_lem 12 (table_full (the_settings letters k m) t file) file
last_numbers letters k m t (withdraw file) = file_numbers_lem 18 (table_lacks (the_settings letters k m) t file) file

-- kmer_add: 1, 2, 4, 6, 7 or 12; kmer_withdraw: 18 in place of 12; of FASTA 10 or 11, of FASTQ 10, 15, 16 or 17.
pub into_numbers : (letters : List ℕ) (k m : ℕ) (t : List ℕ) (c : Call) (room : ℕ)
    → RefusedOnlyBy (call_numbers (last_number c) (call_file c).kind) (into_ground (the_settings letters k m) t c room)
unfolding is_in into_ground
into_numbers letters k m t c room =
    let Q = NumberIn (call_numbers (last_number c) (call_file c).kind) in
    let bytes = (call_file c).bytes in
    let g7 = ground_at 7 (too_short room 5) in
    let rest = file_fault (call_file c) or_else last_ground (the_settings letters k m) t c in
    then_has Q (ready_ground (the_settings letters k m) (length t) bytes) (g7 or_else rest) (ready_has Q letters k m (length t) bytes refl refl refl refl (λ _. refl))
    (λ _. then_has Q g7 rest (place_has Q 7 (too_short room 5) (λ _ _. refl)) (λ _. last_numbers letters k m t c))

-- kmer_listing: 1, 2, 4, 6 or 7.
pub listing-numbers : (letters : List ℕ) (k m : ℕ) (table : List ℕ) (room : ℕ) → RefusedOnlyBy clear_numbers (listing_ground (the_settings letters k m) table room)
unfolding is_in listing_ground
listing-numbers letters k m table room =
    let Q = NumberIn clear_numbers in
    let needed = too_short room (length (listing (the_settings letters k m) table)) in
    then_has Q (clear_ground (the_settings letters k m) (length table)) (ground_at 7 needed) (clear_numbers_lem letters k m (length table)) (λ _. place_has Q 7 needed (λ _ _. refl))

-- kmer_generate: 1, 2, 4, 6 or 7.
pub generate_numbers : (letters : List ℕ) (k m : ℕ) (text : List ℕ) (room : ℕ) → RefusedOnlyBy clear_numbers (generate_ground (the_settings letters k m) text room)
unfolding is_in generate_ground
generate_numbers letters k m text room =
    sizes_has (NumberIn clear_numbers) letters k m (too_long text) room (length text) refl refl refl refl (λ _ _ _ _. refl)
