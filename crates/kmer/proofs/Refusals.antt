-- How large the P of each call but `kmer_load` can be, so that it fits beside the number of its refusal. From the definitions of the calls' grounds.
use Rattle.std.proofs.Common.{◌≡◌, Bool, Option, None, Some, List, [], ◌∷◌, ℕ, suc, ◌+◌, ◌<◌, ◌≤◌, arith, ltb, length, eqb-true}
use borrow.Author.Tests.{not-false}
use Rattle.laws.specs.Windows.{windows}
use Rattle.laws.proofs.Windows.{length-windows}
use Rattle.settings.specs.Grounds.{ground, ground_at, too_short, ◌or_else◌}
use Rattle.settings.specs.Settings.{rank_in, settings_ground}
use Rattle.settings.proofs.Outcomes.{test_fails, not_too_large}
use Rattle.settings.proofs.SettingsGrounds.{good_settings}
use Rattle.settings.proofs.FirstGround.{PlaceUpTo, Small, test_small, place_small, then_small, room_small, settings_small, sizes_has}
use Rattle.encoding.specs.Calls.{here_or, foreign_from, wrong_length, mirror_ground}
use Rattle.sequence.specs.Sequences.{sequence_ground}
use Rattle.settings.specs.Limits.{too_long}
use Rattle.tally_book.specs.Table.{class_count, too_many, clear_ground}
use Rattle.testload.specs.TestLoad.{generate_ground}
use Rattle.settings.specs.Given.{the_settings}

-- ---- the P of a refused mirroring is at most 62

foreign_small : (letters : List ℕ) (n : ℕ) (word : List ℕ) (p : ℕ) → foreign_from letters n word ≡ Some p → p < n + length word
unfolding foreign_from
foreign_small letters n [] p e = absurd (let z : ◌≡◌ {A = ℕ} 0 1 = cc in omega arith)
foreign_small letters n (b ∷ bs) p e = go (rank_in letters b) (foreign_small letters (suc n) bs p) e
  where
    go : (o : Option ℕ) → (foreign_from letters (suc n) bs ≡ Some p → p < suc n + length bs) → here_or o n (foreign_from letters (suc n) bs) ≡ Some p
        → p < n + length (b ∷ bs)
    go None ih f = let z : n ≡ p = cc in omega arith
    go (Some rank) ih f = omega (arith, ih f)

pub mirror-small : (letters : List ℕ) (k m : ℕ) (word : List ℕ) (room : ℕ) → Small 62 (mirror_ground (the_settings letters k m) word room)
unfolding mirror_ground
mirror-small letters k m word room =
    let g5 = ground 5 (wrong_length k word) in
    let g7 = ground_at 7 (too_short room k) in
    let g9 = ground_at 9 (foreign_from letters 0 word) in
    then_small 62 (settings_ground (the_settings letters k m)) (g5 or_else g7 or_else g9) (settings_small letters k m 62)
    (λ passed.
    let k-small = (good_settings letters k m passed).short_k in
    then_small 62 g5 (g7 or_else g9) (test_small 62 5 (wrong_length k word))
    (λ right.
    let l : length word ≡ k = eqb-true (length word) k (not-false _ (test_fails 5 (wrong_length k word) right)) in
    then_small 62 g7 g9 (place_small 62 7 (too_short room k) (λ p e. omega (arith, room_small room k p e)))
    (λ _. place_small 62 9 (foreign_from letters 0 word) (λ p e. omega (arith, foreign_small letters 0 word p e)))))

-- ---- the P of a refused call along a sequence, of a refused clearing and of a refused test load is at most 16,777,216

-- After the settings' grounds come ground 6 by some test, and ground 7, where what is needed is at most 16,777,216 if the test fails.
pub sizes_small : (letters : List ℕ) (k m : ℕ) (large : Bool) (room needed : ℕ)
    → (settings_ground (the_settings letters k m) ≡ None → ground 6 large ≡ None → needed ≤ 16777216)
    → Small 16777216 (settings_ground (the_settings letters k m) or_else ground 6 large or_else ground_at 7 (too_short room needed))
sizes_small letters k m large room needed fits =
    sizes_has (PlaceUpTo 16777216) letters k m large room needed (omega arith) (omega arith) (omega arith) (omega arith)
    (λ passed few p e. omega (arith, room_small room needed p e, fits passed few))

pub sequence_small : (letters : List ℕ) (k m : ℕ) (sequence : List ℕ) (room : ℕ) → Small 16777216 (sequence_ground (the_settings letters k m) sequence room)
unfolding sequence_ground too_long
sequence_small letters k m sequence room =
    sizes_small letters k m (too_long sequence) room (length (windows k sequence))
    (λ passed short.
    let some_k = (good_settings letters k m passed).some_k in
    omega (arith, length-windows k some_k sequence, not_too_large (length sequence) short))

pub clear_small : (letters : List ℕ) (k m room : ℕ) → Small 16777216 (clear_ground (the_settings letters k m) room)
unfolding clear_ground too_many
clear_small letters k m room =
    sizes_small letters k m (too_many (class_count (the_settings letters k m))) room (class_count (the_settings letters k m)) (λ _ few. not_too_large (class_count (the_settings letters k m)) few)

pub generate_small : (letters : List ℕ) (k m : ℕ) (text : List ℕ) (room : ℕ) → Small 16777216 (generate_ground (the_settings letters k m) text room)
unfolding generate_ground too_long
generate_small letters k m text room =
    sizes_small letters k m (ltb 16777216 (length text)) room (length text) (λ _ short. not_too_large (length text) short)
