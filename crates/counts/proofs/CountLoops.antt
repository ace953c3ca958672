-- The loops over counts: what holds at the head of each, and what a turn does to it; room for more counts, and ground 12 read from the highest count.
use Rattle.std.proofs.Common.{◌≡◌, refl, sym, ap, ◌∙◌, ℕ, suc, ◌+◌, ◌-◌, ◌<◌, ◌≤◌, max, add-one, arith, Bool, true, false, cond, ◌||◌, List, [], ◌∷◌, ◌++◌, eqb, ltb, length, get_or, take, drop, drop_of_length-le, drop-cons, take-add, take_all, lt-ltb, le-ltb, eq-eqb}
use native.Mathlib.Decide.{dec_le}
use mathlib.Core.Bool.{or-false, or_assoc}
use Rattle.std.specs.List.{fold}
use Rattle.tally_book.specs.Table.{change, one_more, changes, occurrences, full}
use Rattle.laws.specs.Each.{Each}
use Rattle.tally_book.specs.Needs.{Below}
use Rattle.counts.specs.declared.Way.TheVariants.{In, Out}
use Rattle.counts.specs.Needs.{Fits, Changed}
use Rattle.laws.proofs.Each.{each_at}
use Rattle.tally_book.proofs.Changes.{length_changes, get_d_more, occurrences-append}

-- ---- room

occurrences-le : (q : ℕ) (qs : List ℕ) → occurrences q qs ≤ length qs
unfolding occurrences
occurrences-le q [] = omega arith
occurrences-le q (p ∷ qs) = go (eqb q p) (occurrences-le q qs)
  where
    go : (b : Bool) → occurrences q qs ≤ length qs → cond b 1 0 + occurrences q qs ≤ suc (length qs)
    go true h = omega arith
    go false h = omega arith

-- Where there is room for some places and for others after them, there is room for the others once the first were counted.
pub fits_after : (t ps qs : List ℕ) → Fits (ps ++ qs) t → Fits qs (changes one_more t ps)
fits_after t ps qs F =
    record {
      at = λ q h.
          let lt : q < length t = omega (arith, length_changes one_more ps t) in
          omega (arith, get_d_more ps t q lt, occurrences-append q ps qs, F.at q lt);
    }

-- Room for the first n of some places is room for fewer of them.
pub fits_fewer : (t l : List ℕ) (m n : ℕ) → m ≤ n → Fits (take n l) t → Fits (take m l) t
fits_fewer t l m n h F =
    let split : take n l ≡ take m l ++ take (n - m) (drop m l) =
    ap (λ (i : ℕ). take i l) (let e : n ≡ m + (n - m) = omega arith in e) ∙ take-add m (n - m) l in
    record { at = λ q g. omega (arith, F.at q g, ap (occurrences q) split, occurrences-append q (take m l) (take (n - m) (drop m l))) }

-- Room for n more at each count is room for n places and fewer.
pub room_fits : (n : ℕ) (t qs : List ℕ) → ((q : ℕ) → q < length t → get_or t q 0 + n ≤ 4294967295) → length qs ≤ n → Fits qs t
room_fits n t qs R h = record { at = λ q g. omega (arith, R q g, occurrences-le q qs) }

-- ---- counting codes: what is left of them gives the counts at the end

pub record CountingOn (counts₀ codes counts : List ℕ) (i : ℕ) : Type 0 where
  pub same_length : length counts ≡ length counts₀
  pub left : changes one_more counts₀ codes ≡ changes one_more counts (drop i codes)
  pub room : Fits (drop i codes) counts
  pub below : Each (Below (length counts₀)) codes

pub counting_on_none : (counts codes : List ℕ) → Fits codes counts → Each (Below (length counts)) codes → CountingOn counts codes counts 0
counting_on_none counts codes F B = record { same_length = refl; left = refl; room = F; below = B }

module _ {counts₀ codes counts : List ℕ} {i : ℕ} (C : CountingOn counts₀ codes counts i) where
  -- The next code is named among those left.
  named_first : i < length codes → 1 ≤ occurrences (get_or codes i 0) (drop i codes)
  unfolding occurrences
  named_first h =
      let q : ℕ = get_or codes i 0 in
      let one : ◌≡◌ {A = ℕ} (cond (eqb q q) 1 0) 1 = rw (eq-eqb q q refl) in
      omega (arith, ap (occurrences q) (drop-cons codes i 0 h))

  pub can_count : i < length codes → (get_or codes i 0 < length counts) × (get_or counts (get_or codes i 0) 0 < 4294967295)
  can_count h =
      let lt : get_or codes i 0 < length counts = omega (arith, each_at (Below (length counts₀)) codes i C.below h, C.same_length) in
      (lt, omega (arith, C.room.at (get_or codes i 0) lt, named_first h))

  pub counts_on : (new : List ℕ) → i < length codes → new ≡ change one_more counts (get_or codes i 0) → CountingOn counts₀ codes new (i + 1)
  unfolding changes
  counts_on new h e =
      let q : ℕ = get_or codes i 0 in
      let next : drop i codes ≡ (q ∷ []) ++ drop (i + 1) codes = rw (add-one i) (drop-cons codes i 0 h) in
      rw e
      (record {
        same_length = length_changes one_more (q ∷ []) counts ∙ C.same_length;
        left = C.left ∙ rw (drop-cons codes i 0 h, add-one i);
        room = fits_after counts (q ∷ []) (drop (i + 1) codes) (rw next at C.room);
        below = C.below;
      })

  pub counted_all : length codes ≤ i → counts ≡ changes one_more counts₀ codes
  unfolding changes
  counted_all h = sym (C.left ∙ rw (drop_of_length-le codes h))

-- On the way in all codes are counted.
pub all_in : {counts codes counts' : List ℕ} {r : ℕ} → Changed In counts codes r counts' → counts' ≡ changes one_more counts codes
all_in {counts} {codes} {r = r} C =
    let whole : length codes ≤ r =
    elim (dec_le (length codes) r) as (λ _. length codes ≤ r) [
      | yes h ↦ h
      | no h ↦ let out : In ≡ Out = (C.stopped (omega arith)).out in cc
    ] in
    C.leaves ∙ ap (changes one_more counts) (take_all r codes whole)

-- ---- the highest count

or_max : (a b c : ℕ) → (ltb a b || ltb a c) ≡ ltb a (max b c)
or_max a b c =
    elim (dec_le b a) as (λ _. (ltb a b || ltb a c) ≡ ltb a (max b c)) [
      | yes h ↦
          elim (dec_le c a) as (λ _. (ltb a b || ltb a c) ≡ ltb a (max b c)) [
            | yes g ↦ rw (le-ltb a b h, le-ltb a c g) (sym (le-ltb a (max b c) (omega arith)))
            | no g ↦ rw (le-ltb a b h, lt-ltb a c (omega arith)) (sym (lt-ltb a (max b c) (omega arith)))
          ]
      | no h ↦ rw (lt-ltb a b (omega arith)) (sym (lt-ltb a (max b c) (omega arith)))
    ]

full_from : (n m : ℕ) (cs : List ℕ) → (ltb (4294967295 - n) m || full n cs) ≡ ltb (4294967295 - n) (fold max m cs)
unfolding full
full_from n m [] = or-false (ltb (4294967295 - n) m)
full_from n m (c ∷ cs) = rw (← or_assoc (ltb (4294967295 - n) m) (ltb (4294967295 - n) c) (full n cs), or_max (4294967295 - n) m c) (full_from n (max m c) cs)

-- Ground 12 asks of the highest count alone.
pub full_highest : (n : ℕ) (cs : List ℕ) → full n cs ≡ ltb (4294967295 - n) (fold max 0 cs)
full_highest n cs = let e : ltb (4294967295 - n) 0 ≡ false = le-ltb (4294967295 - n) 0 (omega arith) in ap (λ (b : Bool). b || full n cs) (sym e) ∙ full_from n 0 cs
