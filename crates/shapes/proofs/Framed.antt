-- Shapes as the functions test them: a number by its digits, a line by a front, a back and what stands between them, the line of a class by its word and
-- number. From the definitions of the shapes.
use Rattle.std.proofs.Common.{◌≡◌, ◌≢◌, refl, sym, ap, ◌∙◌, Bool, true, false, not, ◌&&◌, ◌||◌, List, [], ◌∷◌, ◌++◌, ℕ, ◌+◌, ◌-◌, ◌<◌, length, take, drop, get_or, arith, Bor, true≢false, drop_at, length-append, take-append-drop, eqb, eq-eqb, ne_eqb, Option, None, Some}
use mathlib.Core.Bool.{and-true, and-false}
use Rattle.std.specs.List.{IsSplitAt}
use mathlib.Mathlib.Data.Bool.Basic.{eq-false_of_not-eq-true}
use Rattle.std.specs.Option.{MatchOption}
use Rattle.std.specs.Cmp.Lexicographic.{pointwise}
use Rattle.std.proofs.lemmas.Bool.Decides.{Decides-eqb}
use Rattle.std.proofs.lemmas.List.{append_assoc, append_cancel_left, append_cancel_right}
use Rattle.std.proofs.lemmas.Slice.Eq.{strip_prefix_is, strip_suffix_is}
use Rattle.laws.specs.Text.{bytes}
use Rattle.texts.specs.Decimals.{decimal}
use Rattle.survey.specs.Grammar.{spelt}
use Rattle.listing.specs.Listing.{count_line}
use Rattle.loading.specs.Shapes.{same_text, inner, is_digit, all_digits, is_number, number_between, of_letters, word_in, digits_in, count_shape, is_count_line}
use Rattle.tally_book.proofs.WordLists.{same_word_lem, word_same}
use Rattle.loading.proofs.Shapes.{inner-is, word_in_lem, digits_in_lem, count_parts}
use Rattle.shapes.specs.Needs.{framed, Between}

-- ---- numbers

-- By whether there is a digit and whether the first of several is a zero.
pub number_is : (ds : List ℕ) → is_number ds ≡ (not (eqb (length ds) 0) && ((eqb (length ds) 1 || not (eqb (get_or ds 0 0) 48)) && all_digits ds))
unfolding is_number all_digits
number_is [] = refl
number_is (d ∷ []) = refl
number_is (d ∷ c ∷ ds) =
    let some : eqb (length (d ∷ c ∷ ds)) 0 ≡ false = ne_eqb (length (d ∷ c ∷ ds)) 0 (λ e. omega arith) in
    let several : eqb (length (d ∷ c ∷ ds)) 1 ≡ false = ne_eqb (length (d ∷ c ∷ ds)) 1 (λ e. omega arith) in
    rw (some, several) (regroup (is_digit d) (all_digits (c ∷ ds)) (not (eqb d 48)))
  where
    regroup : (p q r : Bool) → (p && (q && r)) ≡ (r && (p && q))
    regroup p q true = ap (λ (b : Bool). p && b) (and-true q)
    regroup p q false = ap (λ (b : Bool). p && b) (and-false q) ∙ and-false p

-- ---- between a front and a back

module _ (a b l : List ℕ) where
  -- Without the front or the back.
  pub not_framed : ((x : List ℕ) → l ≢ a ++ (x ++ b)) → same_text l (framed a b l) ≡ false
  not_framed h = eq-false_of_not-eq-true (λ e. h (inner (length a) (length b) l) (word_same l (framed a b l) e))

  pub no_front : pointwise eqb (take (length a) l) a ≡ false → same_text l (framed a b l) ≡ false
  no_front h = let other = strip_prefix_is Decides-eqb l a None h in not_framed (λ x. other (x ++ b))

  pub between_is : (x : List ℕ) (r : Option (Bor (List ℕ))) → l ≡ a ++ x
      → MatchOption r (pointwise eqb (drop (length x - length b) x) b ≡ false)
      (λ y. (pointwise eqb (drop (length x - length b) x) b ≡ true) × (y.now ≡ take (length x - length b) x) × (length y.now + length b ≡ length x))
      → Between a b l r
  between_is x None e h =
      let other = strip_suffix_is Decides-eqb x b None h in
      not_framed (λ y f. other y (append_cancel_left a x (y ++ b) (sym e ∙ f)))
  between_is x (Some y) e h = e ∙ ap (λ (u : List ℕ). a ++ u) (strip_suffix_is Decides-eqb x b (Some y) h)

  -- With a number between them.
  pub number_unframed : same_text l (framed a b l) ≡ false → number_between a b l ≡ false
  number_unframed f = rw f

  pub number_framed : (d : List ℕ) → l ≡ a ++ (d ++ b) → number_between a b l ≡ is_number d
  number_framed d e = rw (e, inner-is a d b (length a) (length b) refl refl, same_word_lem (a ++ (d ++ b)))

  -- The answer on what stands between them, or false.
  pub number_by : (r : Option (Bor (List ℕ))) (t : Bool) → Between a b l r → MatchOption r (t ≡ false) (λ y. t ≡ is_number y.now) → t ≡ number_between a b l
  number_by None t f h = h ∙ sym (number_unframed f)
  number_by (Some y) t e h = h ∙ sym (number_framed y.now e)

-- ---- the line of a class

module _ (letters : List ℕ) (k : ℕ) (l : List ℕ) where
  pub count_unframed : same_text l (framed (bytes "(count ") (bytes ")\n") l) ≡ false → is_count_line letters k l ≡ false
  unfolding count_line
  count_unframed f =
      eq-false_of_not-eq-true (λ e.
      let C = count_parts letters k l e in
      let between = word_in k l ++ (bytes " " ++ decimal (spelt 0 (digits_in k l))) in
      let is : l ≡ bytes "(count " ++ (between ++ bytes ")\n") = C.is ∙ simp append_assoc in
      let inside : inner 7 2 l ≡ between = ap (inner 7 2) is ∙ inner-is (bytes "(count ") between (bytes ")\n") 7 2 refl refl in
      let same : framed (bytes "(count ") (bytes ")\n") l ≡ l = rw inside (sym is) in
      let z : ◌≡◌ {A = Bool} true false = sym (ap (same_text l) same ∙ same_word_lem l) ∙ f in
      true≢false z)

  module _ (x : List ℕ) (e : l ≡ bytes "(count " ++ (x ++ bytes ")\n")) where
    -- What stands between its front and its back has a word of k letters and a space.
    count_has : is_count_line letters k l ≡ true → (length (word_in k l) ≡ k) × (x ≡ word_in k l ++ (32 ∷ decimal (spelt 0 (digits_in k l))))
    unfolding count_line
    count_has f =
        let C = count_parts letters k l f in
        let between = word_in k l ++ (bytes " " ++ decimal (spelt 0 (digits_in k l))) in
        let is : bytes "(count " ++ (x ++ bytes ")\n") ≡ bytes "(count " ++ (between ++ bytes ")\n") = sym e ∙ C.is ∙ simp append_assoc in
        (C.word_long, append_cancel_right x between (bytes ")\n") (append_cancel_left (bytes "(count ") _ _ is))

    pub count_short : length x < k → is_count_line letters k l ≡ false
    count_short h =
        eq-false_of_not-eq-true (λ f. let H = count_has f in omega (arith, ap length H.1, length-append (word_in k l) (32 ∷ decimal (spelt 0 (digits_in k l)))))

    -- What stands there, cut behind k bytes, and what std's `strip_prefix` finds of a space behind them.
    module _ (w r : List ℕ) (cut : IsSplitAt x k w r) where
      pub count_no_space : pointwise eqb (take 1 r) (bytes " ") ≡ false → is_count_line letters k l ≡ false
      count_no_space h =
          eq-false_of_not-eq-true (λ f.
          let H = count_has f in
          let d = decimal (spelt 0 (digits_in k l)) in
          let other = strip_prefix_is Decides-eqb r (bytes " ") None h in
          other d (cut.2 ∙ ap (drop k) H.1 ∙ drop_at (word_in k l) (32 ∷ d) k H.0))

      module _ (d : Bor (List ℕ)) (space : (pointwise eqb (take 1 r) (bytes " ") ≡ true) × (d.now ≡ drop 1 r) × (length d.now + 1 ≡ length r)) where
        count_rest : is_count_line letters k l ≡ (of_letters letters w && is_number d.now)
        unfolding is_count_line
        count_rest =
            let rest : r ≡ 32 ∷ d.now = strip_prefix_is Decides-eqb r (bytes " ") (Some d) space in
            let parts : x ≡ w ++ (32 ∷ d.now) = sym (rw (cut.1, sym rest ∙ cut.2) (take-append-drop k x)) in
            let is : l ≡ count_shape w d.now = e ∙ ap (λ (u : List ℕ). bytes "(count " ++ (u ++ bytes ")\n")) parts ∙ simp append_assoc in
            rw (is, word_in_lem k w d.now cut.3, digits_in_lem k w d.now cut.3, same_word_lem (count_shape w d.now), eq-eqb (length w) k cut.3)

        pub count_number : of_letters letters w ≡ true → is_number d.now ≡ is_count_line letters k l
        count_number t = sym (count_rest ∙ rw t)

        pub count_foreign : of_letters letters w ≡ false → false ≡ is_count_line letters k l
        count_foreign t = sym (count_rest ∙ rw t)
