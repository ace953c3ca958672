-- One number and a part of a list that is mapped, one number of a list that is read backwards, and the first numbers of a list that may have fewer.
use mathlib.Core.Path.{◌≡◌, refl, sym, ap, ◌∙◌}
use mathlib.Core.List.{List, [], ◌∷◌, ◌++◌, map, reverse, reverse-cons}
use Prim.Native.Nat.{ℕ, zero, suc, ◌-◌, ◌<◌, min}
use native.Mathlib.Decide.{dec_lt, dec_le}
use native.Mathlib.Omega.{arith}
use lib.ListN.{length, get_or, take, drop, length-reverse, get_or-append}
use lib.Seq.{get_or_at, take_all, length-take-le}

-- Of a list that is mapped. (The library's law has the map of the default where there is no such number.)
pub get_d_map_in : (f : ℕ → ℕ) (l : List ℕ) (i : ℕ) → i < length l → get_or (map f l) i 0 ≡ f (get_or l i 0)
get_d_map_in f [] i h = absurd (omega arith)
get_d_map_in f (a ∷ l) zero h = refl
get_d_map_in f (a ∷ l) (suc i) h = get_d_map_in f l i (omega arith)

-- A part of a list that is mapped.
module _ {A B : Type 0} (f : A → B) where
  pub map_take : (n : ℕ) (l : List A) → take n (map f l) ≡ map f (take n l)
  map_take zero l = refl
  map_take (suc n) [] = refl
  map_take (suc n) (x ∷ l) = ap (λ (r : List B). f x ∷ r) (map_take n l)

  pub map_drop : (n : ℕ) (l : List A) → drop n (map f l) ≡ map f (drop n l)
  map_drop zero l = refl
  map_drop (suc n) [] = refl
  map_drop (suc n) (x ∷ l) = map_drop n l

-- Of a list that is read backwards.
pub get_d_reverse : (l : List ℕ) (i : ℕ) → i < length l → get_or (reverse l) i 0 ≡ get_or l (length l - 1 - i) 0
get_d_reverse [] i h = absurd (omega arith)
get_d_reverse (a ∷ l) i h =
    ap (λ (x : List ℕ). get_or x i 0) (reverse-cons a l)
    ∙ elim (dec_lt i (length l)) as (λ _. get_or (reverse l ++ (a ∷ [])) i 0 ≡ get_or (a ∷ l) (length (a ∷ l) - 1 - i) 0) [
      | yes g ↦
          let e : length (a ∷ l) - 1 - i ≡ suc (length l - 1 - i) = omega arith in
          get_or-append (reverse l) (a ∷ []) 0 i (omega (arith, length-reverse l)) ∙ get_d_reverse l i g ∙ rw e
      | no g ↦
          let e : length (a ∷ l) - 1 - i ≡ 0 = omega arith in
          get_or_at (reverse l) a [] 0 i (length-reverse l ∙ omega arith) ∙ rw e
    ]

-- The first n elements, where there may be fewer, and how many these are.
pub take_min : {A : Type 0} (n : ℕ) (l : List A) → take (min n (length l)) l ≡ take n l
take_min n l =
    elim (dec_le n (length l)) as (λ _. take (min n (length l)) l ≡ take n l) [
      | yes h ↦ ap (λ (i : ℕ). take i l) (let e : min n (length l) ≡ n = omega arith in e)
      | no h ↦ take_all (min n (length l)) l (omega arith) ∙ sym (take_all n l (omega arith))
    ]

pub length-take : {A : Type 0} (n : ℕ) (l : List A) → length (take n l) ≡ min n (length l)
length-take n l = ap length (sym (take_min n l)) ∙ length-take-le (min n (length l)) l (omega arith)
