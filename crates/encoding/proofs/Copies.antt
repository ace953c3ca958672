-- Copies with T for U (document 02, K2) of words: where the settings have T and no U, a word and its copy are coded, mirrored and picked alike, refusals and
-- their P included (`same_coding`, `same_mirroring`, `same_pick`), since their ranks are the same (`same_ranks`). Byte by byte.
use Rattle.std.proofs.Common.{◌≡◌, refl, true, List, [], ◌∷◌, map, ℕ, suc}
use Rattle.settings.specs.Settings.{reads_u_as_t}
use Rattle.settings.specs.Copies.{t_for_u, CopyWithT}
use Rattle.settings.proofs.Copies.{same_rank, same_of_copies, same_length}
use Rattle.encoding.specs.Calls.{ranks_of, foreign_from, code_ground, mirror_ground, pick_ground, coding, mirror_bytes, first_picked}
use Rattle.settings.specs.Given.{the_settings}

module _ (letters : List ℕ) (reads : reads_u_as_t letters ≡ true) where
  pub ranks_copied : (word : List ℕ) → ranks_of letters (map t_for_u word) ≡ ranks_of letters word
  unfolding ranks_of
  ranks_copied [] = refl
  ranks_copied (b ∷ word) = rw (same_rank letters reads b, ranks_copied word)

  foreign_copied : (n : ℕ) (word : List ℕ) → foreign_from letters n (map t_for_u word) ≡ foreign_from letters n word
  unfolding foreign_from
  foreign_copied n [] = refl
  foreign_copied n (b ∷ word) = rw (same_rank letters reads b, foreign_copied (suc n) word)

  module _ {word copy : List ℕ} (C : CopyWithT word copy) where
    same_ranks : ranks_of letters word ≡ ranks_of letters copy
    same_ranks = same_of_copies (ranks_of letters) ranks_copied C

    same_foreign : foreign_from letters 0 word ≡ foreign_from letters 0 copy
    same_foreign = same_of_copies (foreign_from letters 0) (foreign_copied 0) C

    code_ground_lem : (k m : ℕ) → code_ground (the_settings letters k m) word ≡ code_ground (the_settings letters k m) copy
    unfolding code_ground
    code_ground_lem k m = rw (same_length C, same_foreign)

    -- The code, or the refusal.
    pub same_coding : (k m : ℕ) → coding (the_settings letters k m) word ≡ coding (the_settings letters k m) copy
    unfolding coding
    same_coding k m = rw (code_ground_lem k m, same_ranks)

    -- The refusal of a call that mirrors the word, and the bytes that it writes.
    pub same_mirroring : (k m room : ℕ)
        → (mirror_ground (the_settings letters k m) word room ≡ mirror_ground (the_settings letters k m) copy room) × (mirror_bytes letters m word ≡ mirror_bytes letters m copy)
    unfolding mirror_ground mirror_bytes
    same_mirroring k m room = (rw (same_length C, same_foreign), rw same_ranks)

  -- Of two words, each or its copy.
  pub same_pick : (k m : ℕ) {first first' second second' : List ℕ} → CopyWithT first first' → CopyWithT second second'
      → (pick_ground (the_settings letters k m) first second ≡ pick_ground (the_settings letters k m) first' second') × (first_picked letters first second ≡ first_picked letters first' second')
  unfolding pick_ground first_picked
  same_pick k m C D = (rw (code_ground_lem C k m, code_ground_lem D k m), rw (same_ranks C, same_ranks D))
