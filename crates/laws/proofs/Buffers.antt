-- A lent list that is written from its start with the numbers of a list C, one after the other or several at once. Its later places stay as
-- they were before the first was written. Then a property of each place that is written, and the front of an array that was so written.
use mathlib.Core.Path.{◌≡◌, refl, sym, ap, ◌∙◌}
use mathlib.Core.List.{List, [], ◌∷◌, ◌++◌, append_assoc, append-nil}
use Prim.Native.Nat.{ℕ, suc, ◌+◌, ◌<◌, ◌≤◌}
use native.Mathlib.Decide.{ℕ_discrete}
use native.Mathlib.Numerals.{add-one}
use native.Mathlib.Omega.{arith}
use lib.ListN.{length, get_or, take, drop, set, length-append, length-drop, length-set, drop_of_length-le}
use lib.Seq.{drop-cons, append_snoc, set_at, take-suc, take_all, take_at, drop_at, take-add, drop-drop, drop-set-lt, length-take-le, get_or-set_same, get_or-set_other}

-- The first n places of out hold the first n numbers of C, the others what the list o held before.
pub record Written (C o : List ℕ) (n : ℕ) (out : List ℕ) : Type 0 where
  pub is : out ≡ take n C ++ drop n o
  pub upto : n ≤ length C
  pub room : length C ≤ length o

-- A buffer d that is written from its start, u so far: the next place is set.
write_next : (u d : List ℕ) (i a : ℕ) → length u ≡ i → i < length d → set (u ++ drop i d) i a ≡ (u ++ (a ∷ [])) ++ drop (i + 1) d
write_next u d i a l h = rw (add-one i, drop-cons d i 0 h) (set_at u (get_or d i 0) (drop (suc i) d) a i l ∙ sym (append_snoc u a (drop (suc i) d)))

-- Before the first is written.
pub written_none : (C o : List ℕ) → length C ≤ length o → Written C o 0 o
written_none C o h = record { is = refl; upto = omega arith; room = h }

module _ {C o : List ℕ} {n : ℕ} {out : List ℕ} (W : Written C o n out) where
  head_length : length (take n C) ≡ n
  head_length = length-take-le n C W.upto

  pub written_length : length out ≡ length o
  written_length = ap length W.is ∙ omega (arith, length-append (take n C) (drop n o), head_length, length-drop n o, W.upto, W.room)

  -- One number more.
  pub written_next : (x : ℕ) → n < length C → x ≡ get_or C n 0 → Written C o (n + 1) (set out n x)
  written_next x h e =
      record {
        is =
            ap (λ (l : List ℕ). set l n x) W.is
            ∙ write_next (take n C) o n x head_length (omega (arith, W.room))
            ∙ rw (e, add-one n, take-suc C n 0 h);
        upto = omega arith;
        room = W.room;
      }

  -- Several numbers more, b of them.
  pub written_more : (b : ℕ) (new : List ℕ) → n + b ≤ length C → new ≡ take n out ++ (take b (drop n C) ++ drop b (drop n out)) → Written C o (n + b) new
  written_more b new h e =
      record {
        is =
            e
            ∙ rw (W.is, take_at (take n C) (drop n o) n head_length, drop_at (take n C) (drop n o) n head_length, drop-drop b n o)
            (sym (append_assoc (take n C) (take b (drop n C)) (drop (n + b) o)) ∙ rw (take-add n b C));
        upto = h;
        room = W.room;
      }

  -- All are written.
  pub written_all : length C ≤ n → out ≡ C ++ drop (length C) o
  written_all h =
      let e : n ≡ length C = omega (arith, W.upto) in
      W.is ∙ rw (e, take_all (length C) C (omega arith))

  -- All are written and there is no later place.
  pub written_whole : length o ≡ length C → length C ≤ n → out ≡ C
  written_whole e h = written_all h ∙ rw (drop_of_length-le o {i = length C} (omega arith)) (append-nil C)

-- Once the first place is written it does not matter what stood there: a loop that starts after its first number.
module _ {C : List ℕ} (o : List ℕ) (x : ℕ) where
  pub written_first : length C ≤ length o → 0 < length C → x ≡ get_or C 0 0 → Written C (set o 0 x) 1 (set o 0 x)
  written_first h g e =
      let W : Written C o 1 (set o 0 x) = written_next (written_none C o h) x g e in
      record { is = W.is ∙ rw (drop-set-lt 1 o 0 x (omega arith)); upto = W.upto; room = rw (length-set o 0 x) h }

  pub written_rest : {n : ℕ} {out : List ℕ} → 0 < n → Written C (set o 0 x) n out → Written C o n out
  written_rest {n} h W = record { is = W.is ∙ rw (drop-set-lt n o 0 x h); upto = W.upto; room = rw (length-set o 0 x) at W.room }

-- What is so of each place before n, and of x at n, is so of each place before n + 1 once x is set there.
pub set_next : (P : ℕ → ℕ → Type 0) (l : List ℕ) {n x : ℕ} → n < length l → ((i : ℕ) → i < n → P i (get_or l i 0)) → P n x
    → (i : ℕ) → i < n + 1 → P i (get_or (set l n x) i 0)
set_next P l {n} {x} h f e i g =
    elim (ℕ_discrete i n) as (λ _. P i (get_or (set l n x) i 0)) [
      | yes q ↦ rw (q, get_or-set_same l n x 0 h) e
      | no q ↦ rw (get_or-set_other l n i x 0 q) (f i (omega arith))
    ]

-- ---- the front of an array

-- An array x whose first n places hold a list, and then a rest.
module _ (front rest : List ℕ) {x : List ℕ} {n : ℕ} (is : x ≡ front ++ rest) (n-long : length front ≡ n) where
  pub front_is : take n x ≡ front
  front_is = rw is (take_at front rest n n-long)

  pub front_fits : n ≤ length x
  front_fits = omega (arith, ap length is, length-append front rest)

  pub front_length : length (take n x) ≡ n
  front_length = ap length front_is ∙ n-long
