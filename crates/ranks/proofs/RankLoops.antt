-- The plain rank and the mirror of a word of ranks, a letter at a time: the loops of `plain_rank` and `fill_mirror`.
use Rattle.std.proofs.Common.{◌≡◌, refl, sym, ◌∙◌, ap, List, [], reverse, ◌++◌, ℕ, ◌<◌, ◌+◌, ◌*◌, ◌^◌, ◌≤◌, add-one, zero-add, arith, length, take, drop, get_or, set, take-suc, length-take-le}
use native.Mathlib.Nat.{pow-le-pow_right}
use lib.ListN.{length-reverse}
use Rattle.std.specs.List.{enumerate_from}
use Rattle.std.proofs.lemmas.List.FromFn.{length-enumerate_from, get_or-enumerate_from}
use Rattle.std.proofs.lemmas.Grind.{get_or_default_zero}
use Rattle.laws.proofs.Lists.{get_d_map_in}
use Rattle.laws.proofs.Buffers.{Written, written_next, written_all}
use Rattle.encoding.specs.Words.{plain, Mirror, mirror, mirror_rank}
use Rattle.encoding.proofs.Canonical.{plain-below}
use Rattle.encoding.proofs.Ends.{plain-snoc, ranks_take, length-mirror}
use Rattle.ranks.specs.Needs.{FitWord}

pub plain-none : (s : ℕ) → 0 ≡ plain s []
unfolding plain
plain-none s = refl

-- One letter more: p is the plain rank of the first i letters.
module _ {s : ℕ} {w : List ℕ} (f : FitWord s w) {i p : ℕ} (h : i < length w) (e : p ≡ plain s (take i w)) where
  pub plain_next : p * s + get_or w i 0 ≡ plain s (take (i + 1) w)
  plain_next = rw (e, add-one i, take-suc w i 0 h) (sym (plain-snoc s (get_or w i 0) (take i w)))

  pub next_fits : p * s + get_or w i 0 < 2 ^ 62
  next_fits =
      let below = plain-below s (i + 1) (take (i + 1) w) (length-take-le (i + 1) w (omega arith)) (ranks_take s (i + 1) w f.ranks) in
      let up : s ^ (i + 1) ≤ s ^ length w = pow-le-pow_right (omega (arith, f.two)) (omega arith) in
      omega (arith, plain_next, below, up, f.small)

-- ---- the mirror: a loop over the places and letters of a word read backwards

-- The turn after n others, at the place i and the letter a.
abbrev pub BackwardsTurn : List ℕ → (n i a : ℕ) → Type 0
BackwardsTurn w n i a =
    let here : ℕ × ℕ = (i, a) in
    (n < length (enumerate_from 0 (reverse w))) × (here ≡ get_or (enumerate_from 0 (reverse w)) n here)

module _ (w : List ℕ) {n i a : ℕ} (turn : BackwardsTurn w n i a) where
  turn_within : n < length (reverse w)
  turn_within = omega (arith, turn.0, length-enumerate_from 0 (reverse w))

  turn_is : let here : ℕ × ℕ = (i, a) in let there : ℕ × ℕ = (0 + n, get_or (reverse w) n a) in here ≡ there
  turn_is = turn.1 ∙ get_or-enumerate_from 0 (reverse w) n (i, a) turn_within

  turn_place : i ≡ n
  turn_place = ap (λ (p : ℕ × ℕ). p.0) turn_is ∙ zero-add n

  turn_letter : a ≡ get_or (reverse w) n 0
  turn_letter = ap (λ (p : ℕ × ℕ). p.1) turn_is ∙ get_or_default_zero (reverse w) n a turn_within

mirror-at : (s : ℕ) (m : Mirror) (w : List ℕ) (n : ℕ) → n < length (reverse w) → get_or (mirror s m w) n 0 ≡ mirror_rank s m (get_or (reverse w) n 0)
unfolding mirror
mirror-at s m w n h = get_d_map_in (mirror_rank s m) (reverse w) n h

module _ (s : ℕ) (m : Mirror) (w : List ℕ) {o out : List ℕ} {n : ℕ} (W : Written (mirror s m w) o n out) where
  pub mirror_turn : {i a r : ℕ} → BackwardsTurn w n i a → r ≡ mirror_rank s m a → Written (mirror s m w) o (n + 1) (set out i r)
  mirror_turn {i} {a} {r} turn e =
      rw (turn_place w turn)
      (written_next W r (omega (arith, turn_within w turn, length-mirror s m w, length-reverse w))
      (e ∙ ap (mirror_rank s m) (turn_letter w turn) ∙ sym (mirror-at s m w n (turn_within w turn))))

  pub mirror_end : n ≡ length (enumerate_from 0 (reverse w)) → out ≡ mirror s m w ++ drop (length w) o
  mirror_end e =
      written_all W (omega (arith, e, length-enumerate_from 0 (reverse w), length-reverse w, length-mirror s m w))
      ∙ ap (λ (k : ℕ). mirror s m w ++ drop k o) (length-mirror s m w)
