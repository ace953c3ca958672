-- A word of ranks w and its mirror: the one of lower plain rank is canonical, and its code is that of w. From the encoding's laws of the canonical word.
use Rattle.std.proofs.Common.{refl, ◌≡◌, ◌∙◌, ap, List, ℕ, ◌≤◌, ◌<◌, arith, length, leb}
use Rattle.settings.specs.Limits.{Limits}
use Rattle.encoding.specs.Words.{Mirror, mirror, plain}
use Rattle.encoding.specs.Codes.{code, code_of_canonical}
use Rattle.encoding.proofs.Canonical.{Ranks-mirror, mirror-mirror}
use Rattle.encoding.proofs.Codes.{canonical-low, canonical-high}
use Rattle.encoding.proofs.Ends.{length-mirror}
use Rattle.ranks.specs.Needs.{FitWord}
use Rattle.codes.specs.Needs.{FitCanonical}

-- A word whose plain rank fits, of at most 16 letters, is within the limits.
pub fit_limits : {s : ℕ} {w : List ℕ} → FitWord s w → s ≤ 16 → Limits s (length w)
fit_limits F few = record { two = F.two; few = few; small = F.small }

-- The word w and its mirror, with their plain ranks p and q.
module _ {s : ℕ} (m : Mirror) {w mirrored : List ℕ} (F : FitWord s w) (few : s ≤ 16) (is : mirrored ≡ mirror s m w) where
  mirror_fits : FitWord s (mirror s m w)
  mirror_fits = record { two = F.two; ranks = Ranks-mirror s m (length w) w refl F.ranks; small = rw (length-mirror s m w) F.small }

  pub mirrored_fits : FitWord s mirrored
  mirrored_fits = rw is mirror_fits

  module _ {p q : ℕ} (p_is : p ≡ plain s w) (q-by : q ≡ plain s mirrored) where
    q_is : q ≡ plain s (mirror s m w)
    q_is = q-by ∙ ap (plain s) is

    -- The word itself is the canonical one.
    module _ (h : p ≤ q) where
      own_low : plain s w ≤ plain s (mirror s m w)
      own_low = omega (arith, p_is, q_is)

      pub own_least : FitCanonical s m w
      own_least = record { word = F; few = few; least = own_low }

      pub own_answer : (r : ℕ) → r ≡ code_of_canonical s m (length w) w → r ≡ code s m (length w) w
      unfolding code
      own_answer r x = x ∙ rw (canonical-low s m w own_low)

    -- Its mirror is.
    module _ (h : q < p) where
      other_low : plain s (mirror s m w) < plain s w
      other_low = omega (arith, p_is, q_is)

      pub other_least : FitCanonical s m mirrored
      other_least =
          rw is
          (record { word = mirror_fits; few = few; least = rw (mirror-mirror s m (length w) w refl F.ranks) (omega (arith, other_low)) })

      pub other_answer : (r : ℕ) → r ≡ code_of_canonical s m (length mirrored) mirrored → r ≡ code s m (length w) w
      unfolding code
      other_answer r x =
          x
          ∙ ap (λ (l : List ℕ). code_of_canonical s m (length l) l) is
          ∙ rw (canonical-high s m w other_low, length-mirror s m w)

    pub lower_first : leb p q ≡ leb (plain s w) (plain s (mirror s m w))
    lower_first = rw (p_is, q_is)
