-- Copies with T for U (document 02, K2) of sequences: where the settings have T and no U, a call along a sequence and one along its copy answer and leave the
-- same, on both paths, of which the contract is one (`same_sequence`). Byte by byte and window by window.
use Rattle.std.proofs.Common.{◌≡◌, refl, sym, ap, ◌∙◌, true, List, [], ◌∷◌, map, ℕ, length}
use lib.ListN.{length-map}
use Rattle.laws.specs.Windows.{windows}
use Rattle.laws.proofs.Windows.{windows-mapped}
use Rattle.settings.specs.Grounds.{Outcome}
use Rattle.settings.specs.Limits.{too_long}
use Rattle.settings.specs.Settings.{reads_u_as_t}
use Rattle.settings.specs.Copies.{t_for_u, CopyWithT}
use Rattle.settings.proofs.Copies.{same_rank, same_of_copies, same_length}
use Rattle.encoding.proofs.Copies.{ranks_copied}
use Rattle.sequence.specs.Sequences.{all_letters, code_or_none, sequence_codes, sequence_ground, FillsCodes}
use Rattle.settings.specs.Given.{the_settings}

module _ (letters : List ℕ) (reads : reads_u_as_t letters ≡ true) (k m : ℕ) where
  letters_copied : (word : List ℕ) → all_letters letters (map t_for_u word) ≡ all_letters letters word
  unfolding all_letters
  letters_copied [] = refl
  letters_copied (b ∷ word) = rw (same_rank letters reads b, letters_copied word)

  codes_copied : (words : List (List ℕ)) → map (code_or_none (the_settings letters k m)) (map (map t_for_u) words) ≡ map (code_or_none (the_settings letters k m)) words
  unfolding code_or_none
  codes_copied [] = refl
  codes_copied (word ∷ words) = rw (letters_copied word, ranks_copied letters reads word, codes_copied words)

  -- How many windows there are, the grounds and the codes.
  module _ {sequence copy : List ℕ} (C : CopyWithT sequence copy) where
    same_count : length (windows k sequence) ≡ length (windows k copy)
    same_count = same_of_copies (λ (l : List ℕ). length (windows k l)) (λ l. rw (windows-mapped t_for_u k l) (length-map (windows k l) (map t_for_u))) C

    same_ground : (room : ℕ) → sequence_ground (the_settings letters k m) sequence room ≡ sequence_ground (the_settings letters k m) copy room
    unfolding sequence_ground too_long
    same_ground room = rw (same_count, same_length C)

    same_codes : sequence_codes (the_settings letters k m) sequence ≡ sequence_codes (the_settings letters k m) copy
    unfolding sequence_codes
    same_codes =
        same_of_copies (λ (l : List ℕ). map (code_or_none (the_settings letters k m)) (windows k l))
        (λ l. ap (map (code_or_none (the_settings letters k m))) (windows-mapped t_for_u k l) ∙ codes_copied (windows k l)) C

    -- Two calls with the same lent list, one along the sequence and one along the copy, refused or not: the same answer, and the same list left.
    pub same_sequence : (r r' : Outcome ℕ) {old new new' : List ℕ} → FillsCodes (the_settings letters k m) sequence old r new → FillsCodes (the_settings letters k m) copy old r' new'
        → (r ≡ r') × (new ≡ new')
    same_sequence r r' {old} F G = (
      F.answers ∙ rw (same_ground (length old), same_count) (sym G.answers),
      F.leaves ∙ rw (same_ground (length old), same_codes) (sym G.leaves),
    )
