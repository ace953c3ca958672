-- What the functions of this crate ask of each other and laws speak of; no sentence of document 01 rests on it: where the scan of a word stops, words and codes
-- that fit 62 bits.
use Rattle.std.specs.Prelude.{cond, List, ℕ, suc, ◌+◌, ◌-◌, ◌*◌, ◌<◌, ◌≤◌, length, leb}
use Rattle.settings.specs.Settings.{classes}
use Rattle.settings.specs.Limits.{Limits}
use Rattle.encoding.specs.Words.{Mirror, mirror, plain}
use Rattle.ranks.specs.Needs.{FitWord}

-- ---- the scan

-- The pair, from 1, that differs in a word of k letters with p equal outer pairs; 0 where p is the middle.
unfoldable pub pair_after : ℕ → ℕ → ℕ
pair_after k p = cond (leb (2 * suc p) k) (suc p) 0

-- ---- what fits

-- A canonical word whose code fits.
pub record FitCanonical (s : ℕ) (m : Mirror) (w : List ℕ) : Type 0 where
  pub word : FitWord s w
  pub few : s ≤ 16
  pub least : plain s w ≤ plain s (mirror s m w)

-- A word of two letters or more, with a pair of ranks l < r for its ends.
pub record FitDiffering (s : ℕ) (w : List ℕ) (l r : ℕ) : Type 0 where
  pub word : FitWord s w
  pub few : s ≤ 16
  pub long : 2 ≤ length w
  pub less : l < r
  pub rank : r < s

-- R is below s(s - 1)/2, so it is the rank of a pair.
abbrev pub RankOfPair : ℕ → ℕ → Type 0
RankOfPair s R = (1 < s) × (2 * R + s < s * s) × (s ≤ 16)

-- A code of a word as long as w that is q above those of the words with equal outer letters.
pub record FitHighCode (s : ℕ) (m : Mirror) (w : List ℕ) (q : ℕ) : Type 0 where
  pub limits : Limits s (length w)
  pub long : 2 ≤ length w
  pub below : s * classes s m (length w - 2) + q < classes s m (length w)
