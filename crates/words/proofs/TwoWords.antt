-- The ranks of a word of letters, and their mirror, as `word_code`, `write_mirror` and `plain_of` have them.
use Rattle.std.proofs.Common.{refl, ◌≡◌, ◌∙◌, ap, List, ◌++◌, ℕ, ◌≤◌, arith, length, drop}
use Rattle.settings.specs.Limits.{Limits}
use Rattle.settings.proofs.Limits.{k_at_most}
use Rattle.encoding.specs.Calls.{ranks_of, in_capitals}
use Rattle.encoding.specs.Codes.{code}
use Rattle.ranks.specs.Needs.{FitWord}
use Rattle.encoding.specs.Words.{Mirror, mirror, Ranks}
use Rattle.encoding.proofs.Canonical.{Ranks-mirror}
use Rattle.encoding.proofs.Ends.{length-mirror}
use Rattle.words.proofs.LetterLoops.{ranks_below, length-ranks_of}

as_word : (letters word : List ℕ) → Limits (length letters) (length word) → FitWord (length letters) (ranks_of letters word)
as_word letters word f =
    record { two = f.two; ranks = ranks_below letters word (omega (arith, f.two)); small = rw (length-ranks_of letters word) f.small }

-- Its ranks, as `word_ranks` gives them, and their mirror.
module _ (letters word : List ℕ) {own : List ℕ} (f : Limits (length letters) (length word)) (is : own ≡ ranks_of letters word) where
  pub ranks_fit : FitWord (length letters) own
  ranks_fit = rw is (as_word letters word f)

  ranks_long : length own ≡ length word
  ranks_long = ap length is ∙ length-ranks_of letters word

  pub ranks_short : length own ≤ 64
  ranks_short = omega (arith, ranks_long, k_at_most f)

  -- The code of these is that of the word.
  pub ranks_coded : (m : Mirror) {r : ℕ} → r ≡ code (length letters) m (length own) own → r ≡ code (length letters) m (length word) (ranks_of letters word)
  ranks_coded m e = e ∙ rw (ranks_long, is)

  module _ (m : Mirror) {mirrored : List ℕ} (mirror_is : mirrored ≡ mirror (length letters) m own) where
    pub mirrored_long : length mirrored ≡ length word
    mirrored_long = ap length mirror_is ∙ length-mirror (length letters) m own ∙ ranks_long

    pub mirrored_ranks : Ranks (length letters) mirrored
    mirrored_ranks = rw mirror_is (Ranks-mirror (length letters) m (length own) own refl ranks_fit.ranks)

    -- The mirror in capitals, as `write_mirror` leaves it.
    pub mirror_written : (old new : List ℕ) → new ≡ in_capitals letters mirrored ++ drop (length mirrored) old
        → new ≡ in_capitals letters (mirror (length letters) m (ranks_of letters word)) ++ drop (length word) old
    mirror_written old new x = x ∙ rw (mirrored_long, mirror_is, is)
