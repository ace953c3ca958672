-- Two-bit numbers: powers of 4 by shifts and masks, the letters in which two numbers differ, and the code of a window from its plain rank and its
-- mirror's. From encoding's laws by ranks (ByRanks, EqualPairs).
use Rattle.std.proofs.Common.{◌≡◌, refl, sym, ap, ◌∙◌, List, ◌≢◌, ℕ, zero, suc, ◌+◌, ◌-◌, ◌*◌, ◌/◌, ◌%◌, ◌^◌, ◌<◌, ◌≤◌, min, max, mod-lt, mul-le-mul_left, pow-suc, lt_of_lt_of_le, le-div_iff_mul-le, arith, bit_and, bit_xor, pow-add, length}
use native.Mathlib.Nat.{one-le-pow, pow-zero, pow-succ', pow-le-pow_right, div-div-eq-div-mul, div-eq_of_lt}
use native.Mathlib.Decide.{dec_le}
use lib.Arith.{digits_div, lt_of_le-ne}
use lib.Bits.{and_le_l, and_le_r, xor_add_and, xor_shr, xor_self, and_mask, and_high}
use lib.Count.{count_leading_zeros, leading_length}
use Rattle.settings.specs.Settings.{classes}
use Rattle.laws.proofs.DigitWindows.{window}
use Rattle.laws.proofs.Powers.{pow-split, four_pow}
use Rattle.encoding.specs.Words.{Mirror, Complement, Ranks, mirror, plain}
use Rattle.encoding.specs.Codes.{pair_rank, code}
use Rattle.encoding.specs.WordsOfCodes.{middle_of_code}
use Rattle.encoding.specs.Needs.{palindromes}
use Rattle.encoding.proofs.ClassNumbers.{palindromes-suc, twice_classes, classes-le}
use Rattle.encoding.proofs.Ends.{length-mirror}
use Rattle.encoding.proofs.Canonical.{IsCanonical, Ranks-mirror, mirror-mirror, plain-below}
use Rattle.encoding.proofs.ByRanks.{closing, within, by_ranks, code_by_ranks}
use Rattle.encoding.proofs.EqualPairs.{Agree, agree_at}
use Rattle.encoding.proofs.Codes.{canonical-low, code_mirror, code_below}
use Rattle.two_bit.specs.Needs.{CountsPalindromes, Differ}
use Rattle.two_bit.specs.Ordered.{Canonical, OrdersRanks}
use Rattle.two_bit.specs.declared.Ordered.{Ordered}
use Rattle.encoding.specs.WordsOfCodes.{word_of_plain}
use Rattle.encoding.proofs.Plain.{length-word_of_plain, ranks_word_of_plain, plain-word_of_plain, word_of_plain-plain}
use Rattle.windows.proofs.WindowEnds.{pair_total}

-- ---- powers of 4

pub four_fits : (k : ℕ) → k ≤ 31 → 4 ^ k ≤ 2 ^ 62
four_fits k h =
    let small : 2 * k ≤ 62 = omega arith in
    rw (four_pow k) (pow-le-pow_right (omega arith) small)

pub four_shifted : (i : ℕ) → i < 32 → 1 * 2 ^ (2 * i) % 18446744073709551616 ≡ 4 ^ i
four_shifted i h =
    let e : 1 * 2 ^ (2 * i) ≡ 2 ^ (2 * i) = omega arith in
    lib.Pow.shl_exact {a = 1} 1 (2 * i) 64 (omega arith) (omega arith) ∙ e ∙ sym (four_pow i)

pub four_div : (a i : ℕ) → a / 2 ^ (2 * i) ≡ a / 4 ^ i
four_div a i = rw (four_pow i)

pub low_is : (a i q : ℕ) → q ≡ 4 ^ i → bit_and a (q - 1) ≡ a % 4 ^ i
low_is a i q e = rw (e, four_pow i) (and_mask a (2 * i))

between_is : (a lo hi p q : ℕ) → lo ≤ hi → p ≡ 4 ^ lo → q ≡ 4 ^ hi → bit_and a (q - p) ≡ a / 4 ^ lo % 4 ^ (hi - lo) * 4 ^ lo
between_is a lo hi p q h ep eq =
    let e : 2 * hi ≡ 2 * (hi - lo) + 2 * lo = omega arith in
    rw (ep, eq, four_pow lo, four_pow hi, four_pow (hi - lo), e) (and_high a (2 * (hi - lo)) (2 * lo))

pub rest_lt : (a i one rest : ℕ) → one ≡ 4 ^ i → rest ≡ a % 4 ^ i → (1 ≤ one) × (rest ≤ one - 1)
rest_lt a i one rest eo er =
    let pos : 1 ≤ 4 ^ i = one-le-pow i 4 (omega arith) in
    rw (eo, er) (pos, omega (arith, mod-lt a pos))

pow-quotient : (k q : ℕ) → q ≤ k → 4 ^ k / 4 ^ q ≡ 4 ^ (k - q)
pow-quotient k q h =
    let pos : 0 < 4 ^ q = one-le-pow q 4 (omega arith) in
    let whole : 4 ^ k ≡ 4 ^ (k - q) * 4 ^ q + 0 = pow-split 4 k q h ∙ omega arith in
    rw whole (digits_div (4 ^ (k - q)) pos)

-- The rank of a pair of four letters without a product.
pub pair_rank_four : (l r : ℕ) → l < r → r < 4 → l + (l + 1) / 2 + r - 1 ≡ pair_rank 4 l r
unfolding pair_rank
pair_rank_four zero r h g = omega arith
pair_rank_four (suc zero) r h g = omega arith
pair_rank_four (suc (suc zero)) r h g = omega arith
pair_rank_four (suc (suc (suc l))) r h g = absurd (omega arith)

pub pair_fits : (h low i : ℕ) → low ≡ 4 ^ i → h + 2 ≤ (h + 2) * low
pair_fits h low i e =
    let pos : 1 ≤ low = rw e (one-le-pow i 4 (omega arith)) in
    omega (arith, mul-le-mul_left (h + 2) pos)

-- ---- the letters in which two numbers differ

xor_zero : (a b : ℕ) → bit_xor a b ≡ 0 → a ≡ b
xor_zero a b e = omega (arith, xor_add_and a b, and_le_l a b, and_le_r a b)

xor_same : (a b i : ℕ) → bit_xor a b < 2 ^ i → a / 2 ^ i ≡ b / 2 ^ i
xor_same a b i h = xor_zero (a / 2 ^ i) (b / 2 ^ i) (sym (xor_shr a b i) ∙ div-eq_of_lt h)

xor_other : (a b i : ℕ) → 2 ^ i ≤ bit_xor a b → a / 2 ^ i ≢ b / 2 ^ i
xor_other a b i h e =
    let z : bit_xor a b / 2 ^ i ≡ 0 = xor_shr a b i ∙ rw e (xor_self (b / 2 ^ i)) in
    let o : 1 ≤ bit_xor a b / 2 ^ i = (le-div_iff_mul-le (lib.Pow.pow_pos i)).1 (omega arith) in
    omega arith

pub differ_at : (a b z : ℕ) → bit_xor a b < 2 ^ 64 → z ≡ count_leading_zeros 64 (bit_xor a b) → Differ a b ((65 - z) / 2)
differ_at a b z h e =
    let t = leading_length 64 (bit_xor a b) h in
    go t.0 (omega (arith, t.1)) t.2 t.3
  where
    go : (n : ℕ) → z + n ≡ 64 → bit_xor a b < 2 ^ n → 2 ^ n ≤ 2 * bit_xor a b + 1 → Differ a b ((65 - z) / 2)
    go n f lt ge =
        record {
          few = omega arith;
          same = rw (four_pow ((65 - z) / 2)) (xor_same a b (2 * ((65 - z) / 2)) (lt_of_lt_of_le lt (pow-le-pow_right (omega arith) (omega arith))));
          other = λ p.
              rw (four_pow ((65 - z) / 2 - 1))
              (xor_other a b (2 * ((65 - z) / 2 - 1)) (below n (2 * ((65 - z) / 2 - 1)) (bit_xor a b) (omega arith) ge));
        }
      where
        below : (n i x : ℕ) → i < n → 2 ^ n ≤ 2 * x + 1 → 2 ^ i ≤ x
        below n i x h g =
            let k : 2 ^ suc i ≤ 2 ^ n = pow-le-pow_right (omega arith) h in
            omega (arith, pow-suc 2 i)

-- ---- the code by the two ranks, of any word

four_two : 1 < 4
four_two = omega arith

canonical_code : (k : ℕ) (w : List ℕ) → length w ≡ k → Ranks 4 w → IsCanonical 4 Complement w → (p : ℕ)
    → Agree 4 k (plain 4 w) (plain 4 (mirror 4 Complement w)) p
    → code 4 Complement k w ≡ by_ranks 4 Complement k p (plain 4 w) (plain 4 (mirror 4 Complement w))
unfolding code
canonical_code k w l h g p A =
    rw (canonical-low 4 Complement w g) (code_by_ranks 4 Complement four_two k w l h g ∙ rw (agree_at 4 Complement four_two k w l h p A))

-- ---- the formulas

palindromes-up : (s : ℕ) (m : Mirror) (n p : ℕ) → palindromes s m (n + 2 * p) ≡ s ^ p * palindromes s m n
palindromes-up s m n zero = let e : n + 2 * 0 ≡ n = omega arith in rw e (omega (arith, ap (λ (x : ℕ). x * palindromes s m n) (pow-zero s)))
palindromes-up s m n (suc p) =
    let e : n + 2 * suc p ≡ suc (suc (n + 2 * p)) = omega arith in
    rw e (palindromes-suc s m (n + 2 * p) ∙ omega (arith, ap (λ (x : ℕ). s * x) (palindromes-up s m n p), ap (λ (x : ℕ). x * palindromes s m n) (pow-suc s p)))

-- p equal pairs, a pair that differs, and n letters within.
differing_value : (n p k e a b : ℕ) → k ≡ n + 2 * suc p → e ≡ palindromes 4 Complement k
    → by_ranks 4 Complement k p a b
    ≡ (4 ^ suc (p + n) + e) / 2 + pair_rank 4 (a / 4 ^ suc (p + n) % 4) (b / 4 ^ suc (p + n) % 4) * 4 ^ (p + n)
    + a / 4 / 4 ^ p % 4 ^ n * 4 ^ p
    + (4 ^ p - 1 - a % 4 ^ p)
unfolding by_ranks within closing window
differing_value n p k e a b ek ee =
    let i₁ : k - 2 * p ≡ suc (suc n) = omega arith in
    let i₂ : k - p - 1 ≡ suc (p + n) = omega arith in
    let i₃ : p + 1 ≡ suc p = omega arith in
    let one : 4 ^ 1 ≡ 4 = refl in
    let E : e ≡ 4 ^ p * 4 * palindromes 4 Complement n
    = ee
    ∙ ap (palindromes 4 Complement) ek
    ∙ palindromes-up 4 Complement n (suc p)
    ∙ ap (λ (x : ℕ). x * palindromes 4 Complement n) (pow-suc 4 p) in
    let top : 4 ^ suc (p + n) ≡ 4 ^ p * 4 ^ n * 4 = pow-suc 4 (p + n) ∙ ap (λ (x : ℕ). x * 4) (pow-add 4 p n) in
    let low : a / 4 ^ suc p ≡ a / 4 / 4 ^ p = rw (pow-succ' 4 p) (sym (div-div-eq-div-mul a 4 (4 ^ p))) in
    rw (i₁, i₂, i₃, one)
    (ap (λ (x : ℕ). x + (4 ^ p - 1 - a % 4 ^ p))
    (pair_total 4 (4 ^ p) (4 ^ n) (classes 4 Complement n) (palindromes 4 Complement n)
    (pair_rank 4 (a / 4 ^ suc (p + n) % 4) (b / 4 ^ suc (p + n) % 4)) (a / 4 ^ suc p % 4 ^ n) (4 ^ suc (p + n)) e
    (twice_classes 4 Complement n) top E
    ∙ rw (pow-add 4 p n, low) (omega arith)))

middle_value : (p k a b : ℕ) → k ≡ 2 * p + 1 → by_ranks 4 Complement k p a b ≡ (1 - a / 4 ^ p % 4) * 4 ^ p + (4 ^ p - 1 - a % 4 ^ p)
unfolding by_ranks within closing window middle_of_code
middle_value p k a b e =
    let i : k - 2 * p ≡ 1 = omega arith in
    rw i (omega arith)

even_value : (p k a b : ℕ) → k ≡ 2 * p → by_ranks 4 Complement k p a b ≡ 4 ^ p - 1 - a % 4 ^ p
unfolding by_ranks within closing
even_value p k a b e =
    let i : k - 2 * p ≡ 0 = omega arith in
    rw i (omega arith)

-- ---- the code of a canonical word, by its plain rank and its mirror's

digit_lt : (A B : ℕ) → A / 4 ≡ B / 4 → A < B → A % 4 < B % 4
digit_lt A B e h = omega arith

module _ {k : ℕ} {o : Ordered} (small : k ≤ 31) (C : Canonical k o) where
  abbrev a : ℕ
  a = o.lower

  abbrev b : ℕ
  b = o.higher

  abbrev q : ℕ
  q = o.differing

  abbrev word : List ℕ
  word = word_of_plain 4 k o.lower

  n_word : length word ≡ k
  n_word = length-word_of_plain 4 k a

  ranks_word : Ranks 4 word
  ranks_word = ranks_word_of_plain 4 k a four_two C.below

  plain_word : plain 4 word ≡ a
  plain_word = plain-word_of_plain 4 k a four_two C.below

  pub two_fits : code 4 Complement k word < 2 ^ 62
  two_fits = omega (arith, code_below 4 Complement four_two k word n_word ranks_word, classes-le 4 Complement k four_two, four_fits k small)

  b_lt : b < 4 ^ k
  b_lt = rw C.mirrored (plain-below 4 k (mirror 4 Complement word) (length-mirror 4 Complement word ∙ n_word) (Ranks-mirror 4 Complement k word n_word ranks_word))

  by_code : (p : ℕ) → Agree 4 k a b p → by_ranks 4 Complement k p a b ≡ code 4 Complement k word
  by_code p A =
      let canonical : IsCanonical 4 Complement word = rw (plain_word, ← C.mirrored) C.order in
      sym (canonical_code k word n_word ranks_word canonical p (rw (plain_word, ← C.mirrored) A) ∙ rw (plain_word, ← C.mirrored))

  q_le : 1 ≤ q → q ≤ k
  q_le h =
      elim (dec_le q k) as (λ _. q ≤ k) [
        | yes g ↦ g
        | no ng ↦
            let m : 4 ^ k ≤ 4 ^ (q - 1) = pow-le-pow_right (omega arith) (omega arith) in
            let za : a / 4 ^ (q - 1) ≡ 0 = div-eq_of_lt (omega (arith, C.below)) in
            let zb : b / 4 ^ (q - 1) ≡ 0 = div-eq_of_lt (omega (arith, b_lt)) in
            absurd (C.differ.other h (za ∙ sym zb))
      ]

  module _ (big : k + 2 ≤ 2 * q) where
    pub pair_in : q ≤ k
    pair_in = q_le (omega arith)

    pub pair_lt : a / 4 ^ (q - 1) % 4 < b / 4 ^ (q - 1) % 4
    pair_lt =
        let s : q ≡ suc (q - 1) = omega arith in
        let power : 4 ^ (q - 1) * 4 ≡ 4 ^ q = sym (pow-suc 4 (q - 1)) ∙ ap (λ (z : ℕ). 4 ^ z) (sym s) in
        let f : (n : ℕ) → n / 4 ^ (q - 1) / 4 ≡ n / 4 ^ q
        = λ n. div-div-eq-div-mul n (4 ^ (q - 1)) 4 ∙ ap (λ (z : ℕ). n / z) power in
        let le : a / 4 ^ (q - 1) ≤ b / 4 ^ (q - 1) = rw (four_pow (q - 1)) (lib.Pow.shr_mono (2 * (q - 1)) C.order) in
        let ne : a / 4 ^ (q - 1) ≢ b / 4 ^ (q - 1) = C.differ.other (omega arith) in
        digit_lt (a / 4 ^ (q - 1)) (b / 4 ^ (q - 1)) (f a ∙ C.differ.same ∙ sym (f b)) (lt_of_le-ne le ne)

    pair_agree : Agree 4 k a b (k - q)
    pair_agree =
        let i : k - (k - q) ≡ q = omega (arith, pair_in) in
        let i' : k - suc (k - q) ≡ q - 1 = omega (arith, pair_in) in
        record { fits = omega arith; equal = rw i C.differ.same; differs = λ h. rw i' (C.differ.other (omega arith)) }

    one_le_low : 4 ^ (k - q) ≤ 4 ^ (q - 2)
    one_le_low = pow-le-pow_right (omega arith) (omega (arith, pair_in))

    -- low is 4^(q - 2), and one, a quotient of 4^k, is 4^(k - q).
    module _ {low p one : ℕ} (el : low ≡ 4 ^ (q - 2)) (ep : p ≡ 4 ^ k) (eo : one ≡ p / 4 ^ q) where
      one_is : one ≡ 4 ^ (k - q)
      one_is = eo ∙ rw ep (pow-quotient k q pair_in)

      pub ones_fit : (1 ≤ one) × (one ≤ low) × (bit_and a (one - 1) ≤ one - 1)
      ones_fit = (rw one_is (one-le-pow (k - q) 4 (omega arith)), rw (one_is, el) one_le_low, and_le_r a (one - 1))

      -- Half of 4^(q - 1) is twice low, which joins the pair's rank.
      pub pair_is : {e : ℕ} → CountsPalindromes k e → (L R h : ℕ) → L ≡ a / 4 ^ (q - 1) → R ≡ b / 4 ^ (q - 1) → h ≡ pair_rank 4 (L % 4) (R % 4)
          → (h + 2) * low + e / 2 + bit_and (a / 4) (low - one) + (one - 1 - bit_and a (one - 1)) ≡ code 4 Complement k word
      pair_is {e} count L R h e_l e_r eh =
          let i₁ : q - 1 ≡ suc (k - q + (q - 2 - (k - q))) = omega (arith, pair_in) in
          let i₂ : q - 2 ≡ k - q + (q - 2 - (k - q)) = omega (arith, pair_in) in
          let i₃ : k ≡ q - 2 - (k - q) + 2 * suc (k - q) = omega (arith, pair_in) in
          let i₄ : q - 1 ≡ suc (q - 2) = omega arith in
          let top : 4 ^ (q - 1) ≡ low * 4 = ap (λ (i : ℕ). 4 ^ i) i₄ ∙ pow-suc 4 (q - 2) ∙ ap (λ (x : ℕ). x * 4) (sym el) in
          let half : (h + 2) * low + e / 2 ≡ (4 ^ (q - 1) + e) / 2 + h * low = rw top (omega arith) in
          let inner = between_is (a / 4) (k - q) (q - 2) one low (omega (arith, pair_in)) one_is el in
          let rest = low_is a (k - q) one one_is in
          ap (λ (x : ℕ). x + bit_and (a / 4) (low - one) + (one - 1 - bit_and a (one - 1))) half
          ∙ rw (inner, rest, eh, e_l, e_r, el, one_is)
          (sym (sym (by_code (k - q) pair_agree)
          ∙ differing_value (q - 2 - (k - q)) (k - q) k e a b i₃ count
          ∙ rw (← i₁, ← i₂)))

  module _ (short : 2 * q < k + 2) where
    same_above : (i : ℕ) → q ≤ i → a / 4 ^ i ≡ b / 4 ^ i
    same_above i h =
        let s : i ≡ q + (i - q) = omega arith in
        let power : 4 ^ q * 4 ^ (i - q) ≡ 4 ^ i = sym (ap (λ (z : ℕ). 4 ^ z) s ∙ pow-add 4 q (i - q)) in
        let f : (n : ℕ) → n / 4 ^ q / 4 ^ (i - q) ≡ n / 4 ^ i
        = λ n. div-div-eq-div-mul n (4 ^ q) (4 ^ (i - q)) ∙ ap (λ (z : ℕ). n / z) power in
        sym (f a) ∙ ap (λ (z : ℕ). z / 4 ^ (i - q)) C.differ.same ∙ f b

    short_agree : Agree 4 k a b (k / 2)
    short_agree = record { fits = omega arith; equal = same_above (k - k / 2) (omega arith); differs = λ h. absurd (omega arith) }

    pub palindrome_is : (one rest : ℕ) → k % 2 ≡ 0 → one ≡ 4 ^ (k / 2) → rest ≡ a % 4 ^ (k / 2) → one - 1 - rest ≡ code 4 Complement k word
    palindrome_is one rest h eo er = rw (eo, er) (sym (even_value (k / 2) k a b (omega arith)) ∙ by_code (k / 2) short_agree)

    pub middle_is : (one rest l m : ℕ) → k % 2 ≢ 0 → one ≡ 4 ^ (k / 2) → rest ≡ a % 4 ^ (k / 2) → l ≡ a / 4 ^ (k / 2) → m ≡ 1 - l % 4
        → m * one + (one - 1 - rest) ≡ code 4 Complement k word
    middle_is one rest l m h eo er el em = rw (em, el, eo, er) (sym (middle_value (k / 2) k a b (omega arith)) ∙ by_code (k / 2) short_agree)

-- ---- a word with the plain rank x, and the canonical one of it and its mirror

module _ (k x : ℕ) (below : x < 4 ^ k) where
  abbrev given_word : List ℕ
  given_word = word_of_plain 4 k x

  n_given : length given_word ≡ k
  n_given = length-word_of_plain 4 k x

  ranks_given : Ranks 4 given_word
  ranks_given = ranks_word_of_plain 4 k x four_two below

  plain_given : plain 4 given_word ≡ x
  plain_given = plain-word_of_plain 4 k x four_two below

  abbrev back : List ℕ
  back = mirror 4 Complement given_word

  n_back : length back ≡ k
  n_back = length-mirror 4 Complement given_word ∙ n_given

  ranks_back : Ranks 4 back
  ranks_back = Ranks-mirror 4 Complement k given_word n_given ranks_given

  module _ {y : ℕ} (mirrored : y ≡ plain 4 back) where
    -- The word with the plain rank y is the mirror.
    word_of_back : word_of_plain 4 k y ≡ back
    word_of_back = ap (word_of_plain 4 k) mirrored ∙ word_of_plain-plain 4 k back four_two n_back ranks_back

    pub orders : {lower higher q : ℕ} → lower ≡ min x y → higher ≡ max x y → Differ lower higher q
        → OrdersRanks k x (record { lower = lower; higher = higher; differing = q })
    orders {lower} {higher} {q} low high D =
        elim (dec_le x y) as (λ _. OrdersRanks k x (record { lower = lower; higher = higher; differing = q })) [
          | yes le ↦
              let l : lower ≡ x = omega arith in
              let h : higher ≡ y = omega arith in
              record {
                canonical = record { below = omega arith; order = omega arith; mirrored = h ∙ mirrored ∙ rw l; differ = D };
                same_code = rw l;
              }
          | no nle ↦
              let l : lower ≡ y = omega arith in
              let h : higher ≡ x = omega arith in
              record {
                canonical = record {
                  below = rw (l, mirrored) (plain-below 4 k back n_back ranks_back);
                  order = omega arith;
                  mirrored = h ∙ sym plain_given ∙ ap (plain 4) (sym (mirror-mirror 4 Complement k given_word n_given ranks_given)) ∙ rw (l, word_of_back);
                  differ = D;
                };
                same_code = rw (l, word_of_back) (code_mirror 4 Complement four_two k given_word n_given ranks_given);
              }
        ]
