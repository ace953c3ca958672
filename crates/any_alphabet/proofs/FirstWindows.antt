-- The first window, letter by letter, as the kernel for every alphabet takes it in: i of the n letters from place j are in its plain rank u and in its
-- mirror's v.
use Rattle.std.proofs.Common.{◌≡◌, refl, sym, ◌∙◌, List, ℕ, suc, ◌+◌, ◌*◌, ◌^◌, ◌<◌, ◌≤◌, lt_of_lt_of_le, add-one, arith, length, get_or}
use Rattle.encoding.specs.Words.{Mirror, Ranks, mirror_rank, mirror, plain}
use Rattle.ranks.specs.Needs.{part}
use Rattle.ranks.proofs.WordParts.{ranks_at}
use Rattle.windows.proofs.Parts.{plain_more, part_lt, back_more, back_lt}

pub record Opened (s : ℕ) (m : Mirror) (d : List ℕ) (j n u v i : ℕ) : Type 0 where
  pub upto : i ≤ n
  pub ahead : u ≡ plain s (part j i d)
  pub behind : v ≡ plain s (mirror s m (part j i d))

pub open_none : (s : ℕ) (m : Mirror) (d : List ℕ) (j n : ℕ) → Opened s m d j n 0 0 0
unfolding plain mirror
open_none s m d j n = record { upto = omega arith; ahead = refl; behind = refl }

-- The next letter, x at place p, whose power of s fits the kernel's numbers.
pub record Letter (s : ℕ) (m : Mirror) (d : List ℕ) (j n u v i p x : ℕ) : Type 0 where
  pub opened : Opened s m d j n u v i
  pub more : i < n
  pub ranks : Ranks s d
  pub inside : j + i < length d
  pub place : p ≡ j + i
  pub is : x ≡ get_or d p 0
  pub fits : s ^ suc i ≤ 2 ^ 62

module _ {s : ℕ} {m : Mirror} {d : List ℕ} {j n u v i p x : ℕ} (L : Letter s m d j n u v i p x) where
  x_is : x ≡ get_or d (j + i) 0
  x_is = L.is ∙ rw L.place

  inside_more : j + suc i ≤ length d
  inside_more = omega (arith, L.inside)

  pub open_lt : x < s
  open_lt = rw x_is (ranks_at s d (j + i) L.ranks L.inside)

  ahead_more : u * s + x ≡ plain s (part j (suc i) d)
  ahead_more = rw (L.opened.ahead, x_is) (sym (plain_more s j i d L.inside))

  pub open_ahead : u * s + x < 2 ^ 62
  open_ahead = rw ahead_more (lt_of_lt_of_le (part_lt s j (suc i) d L.ranks inside_more) L.fits)

  -- It enters the mirror's plain rank as y, which is what the mirror shows of it.
  module _ {y q : ℕ} (ey : y ≡ mirror_rank s m x) (eq : q ≡ s ^ i) where
    behind_more : v + y * q ≡ plain s (mirror s m (part j (suc i) d))
    behind_more = rw (L.opened.behind, ey, x_is, eq) (omega (arith, back_more s m j i d L.inside))

    pub open_behind : v + y * q < 2 ^ 62
    open_behind = rw behind_more (lt_of_lt_of_le (back_lt s m j (suc i) d L.ranks inside_more) L.fits)

    pub open_more : Opened s m d j n (u * s + x) (v + y * q) (i + 1)
    open_more = record { upto = omega (arith, L.more); ahead = ahead_more ∙ rw add-one; behind = behind_more ∙ rw add-one }
