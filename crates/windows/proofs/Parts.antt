-- Parts of a list of ranks: their plain rank and their mirror's with a letter more at either end.
use Rattle.std.proofs.Common.{◌≡◌, ap, ◌∙◌, List, ℕ, suc, ◌+◌, ◌*◌, ◌^◌, ◌<◌, ◌≤◌, arith, length, get_or}
use Rattle.encoding.specs.Words.{Mirror, Ranks, mirror_rank, mirror, plain}
use Rattle.encoding.proofs.Ends.{plain-snoc, length-mirror, mirror-cons, mirror-snoc}
use Rattle.encoding.proofs.Canonical.{plain-below, Ranks-mirror}
pub use Rattle.ranks.proofs.WordParts.{ranks_at, ranks_part, length_part, part-cons, part-snoc, part-ends}
use Rattle.ranks.specs.Needs.{part}

-- ---- plain ranks

module _ (s i n : ℕ) (w : List ℕ) where
  pub plain_more : i + n < length w → plain s (part i (suc n) w) ≡ plain s (part i n w) * s + get_or w (i + n) 0
  plain_more h = ap (plain s) (part-snoc i n w h) ∙ plain-snoc s (get_or w (i + n) 0) (part i n w)

  pub plain_first : i + n < length w → plain s (part i (suc n) w) ≡ get_or w i 0 * s ^ n + plain s (part (suc i) n w)
  unfolding plain
  plain_first h = ap (plain s) (part-cons i n w (omega arith)) ∙ rw (length_part (suc i) n w (omega arith))

  pub part_lt : Ranks s w → i + n ≤ length w → plain s (part i n w) < s ^ n
  part_lt h g = plain-below s n (part i n w) (length_part i n w g) (ranks_part s i n w h)

-- ---- plain ranks of mirrors

module _ (s : ℕ) (m : Mirror) (i n : ℕ) (w : List ℕ) where
  pub back_more : i + n < length w
      → plain s (mirror s m (part i (suc n) w)) ≡ mirror_rank s m (get_or w (i + n) 0) * s ^ n + plain s (mirror s m (part i n w))
  unfolding plain
  back_more h =
      ap (λ (l : List ℕ). plain s (mirror s m l)) (part-snoc i n w h)
      ∙ rw (mirror-snoc s m (get_or w (i + n) 0) (part i n w), length-mirror s m (part i n w), length_part i n w (omega arith))

  pub back_first : i + n < length w
      → plain s (mirror s m (part i (suc n) w)) ≡ plain s (mirror s m (part (suc i) n w)) * s + mirror_rank s m (get_or w i 0)
  back_first h =
      ap (λ (l : List ℕ). plain s (mirror s m l)) (part-cons i n w (omega arith))
      ∙ rw (mirror-cons s m (get_or w i 0) (part (suc i) n w)) (plain-snoc s (mirror_rank s m (get_or w i 0)) (mirror s m (part (suc i) n w)))

  pub back_lt : Ranks s w → i + n ≤ length w → plain s (mirror s m (part i n w)) < s ^ n
  back_lt h g =
      plain-below s n (mirror s m (part i n w)) (length-mirror s m (part i n w) ∙ length_part i n w g)
      (Ranks-mirror s m n (part i n w) (length_part i n w g) (ranks_part s i n w h))
