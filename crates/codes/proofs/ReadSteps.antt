-- The word of a code as it is written into a buffer: the letters of a plain rank, the pair of a rank, the word within.
use Rattle.std.proofs.Common.{◌≡◌, ◌∙◌, ap, ap₂, subst, sym, refl, List, ◌∷◌, ◌++◌, [], append_assoc, ◌-◌, ℕ, ◌+◌, ◌≤◌, suc, ◌<◌, ◌^◌, ◌/◌, ◌%◌, ◌*◌, zero, min, div-lt_iff_lt-mul, pow-suc, div-add-mod', mod-lt, mul-le-mul_left, arith, set, length, take, drop, length-append, length-set, replicate, drop-cons, get_or-set_same, drop-set-lt, length-take-le, drop_at}
use mathlib.Core.Path.{subst⁻¹}
use borrow.Rule.Slice.PartMut.{put_mid}
use Rattle.settings.specs.Limits.{Limits}
use Rattle.settings.specs.Settings.{classes}
use Rattle.settings.proofs.Limits.{k_at_most, limits_less}
use Rattle.settings.proofs.Powers.{capped}
use Rattle.laws.proofs.Each.{each_append}
use Rattle.laws.proofs.Powers.{pair_count, square, pow_pos, pow-two_more}
use Rattle.laws.proofs.Buffers.{front_length}
use Rattle.encoding.specs.Calls.{in_capitals}
use Rattle.codes.specs.Needs.{RankOfPair, FitHighCode}
use Rattle.encoding.specs.Words.{plain, Ranks, Mirror, Complement, mirror_rank}
use Rattle.encoding.specs.WordsOfCodes.{word_of, word_of_plain, pair_of_rank, middle_of_code}
use Rattle.encoding.proofs.Bijection.{word_low, word_high}
use Rattle.encoding.proofs.ClassNumbers.{classes-le, classes-suc, classes-one_complement}
use Rattle.encoding.proofs.Codes.{length_word_of, ranks_word_of}
use Rattle.encoding.proofs.Ends.{plain-snoc}
use Rattle.encoding.proofs.Pairs.{rank_of_pair, rank_here, rank_next}
use Rattle.encoding.proofs.Plain.{plain-word_of_plain, length-word_of_plain, ranks_word_of_plain, word_of_plain-plain}
use Rattle.ranks.proofs.WordParts.{length_part}

-- ---- plain

snoc_of : (s j q : ℕ) → 1 < s → q < s ^ suc j → word_of_plain s (suc j) q ≡ word_of_plain s j (q / s) ++ (q % s ∷ [])
snoc_of s j q hs h =
    let pos : 0 < s = omega arith in
    let low : q / s < s ^ j = (div-lt_iff_lt-mul pos).1 (subst (λ (x : ℕ). q < x) (pow-suc s j) h) in
    let p : plain s (word_of_plain s j (q / s) ++ (q % s ∷ [])) ≡ q
    = plain-snoc s (q % s) (word_of_plain s j (q / s))
    ∙ ap (λ (x : ℕ). x * s + q % s) (plain-word_of_plain s j (q / s) hs low)
    ∙ div-add-mod' q s in
    let l : length (word_of_plain s j (q / s) ++ (q % s ∷ [])) ≡ suc j
    = omega (arith, length-append (word_of_plain s j (q / s)) (q % s ∷ []), length-word_of_plain s j (q / s)) in
    let r : Ranks s (word_of_plain s j (q / s) ++ (q % s ∷ []))
    = each_append (λ (x : ℕ). x < s) (word_of_plain s j (q / s)) (q % s ∷ []) (ranks_word_of_plain s j (q / s) hs low) (mod-lt q (omega arith), tt) in
    ap (word_of_plain s (suc j)) (sym p) ∙ word_of_plain-plain s (suc j) (word_of_plain s j (q / s) ++ (q % s ∷ [])) hs l r

module _ (s i q : ℕ) (hs : 1 < s) (hi : 0 < i) (h : q < s ^ i) where
  one_less : i ≡ suc (i - 1)
  one_less = omega arith

  pub left_lt : q / s < s ^ (i - 1)
  left_lt =
      let pos : 0 < s = omega arith in
      (div-lt_iff_lt-mul pos).1 (subst (λ (x : ℕ). q < x) (pow-suc s (i - 1)) (subst (λ (x : ℕ). q < s ^ x) one_less h))

  pub plain_back : (out : List ℕ) → i ≤ length out → word_of_plain s i q ++ drop i out ≡ word_of_plain s (i - 1) (q / s) ++ drop (i - 1) (set out (i - 1) (q % s))
  plain_back out g =
      let d : drop (i - 1) (set out (i - 1) (q % s)) ≡ q % s ∷ drop (suc (i - 1)) out =
      drop-cons (set out (i - 1) (q % s)) (i - 1) 0 (omega (arith, length-set out (i - 1) (q % s)))
      ∙ rw (get_or-set_same out (i - 1) (q % s) 0 (omega arith), drop-set-lt (suc (i - 1)) out (i - 1) (q % s) (omega arith)) in
      ap (λ (x : ℕ). word_of_plain s x q ++ drop x out) one_less
      ∙ ap (λ (l : List ℕ). l ++ drop (suc (i - 1)) out) (snoc_of s (i - 1) q hs (subst (λ (x : ℕ). q < s ^ x) one_less h))
      ∙ append_assoc (word_of_plain s (i - 1) (q / s)) (q % s ∷ []) (drop (suc (i - 1)) out)
      ∙ ap (λ (l : List ℕ). word_of_plain s (i - 1) (q / s) ++ l) (sym d)

pub plain_end : (s i left : ℕ) (w out : List ℕ) → i ≤ 0 → w ≡ word_of_plain s i left ++ drop i out → out ≡ w
unfolding word_of_plain
plain_end s zero left w out h e = sym e
plain_end s (suc i) left w out h e = absurd (omega arith)

-- ---- the pair of a rank

rank_pos : (t R : ℕ) → R < pair_count (suc t) → t ≤ R → 1 ≤ t
unfolding pair_count
rank_pos zero R h g = absurd (omega arith)
rank_pos (suc t) R h g = omega arith

rank_less : (t R : ℕ) → R < pair_count (suc t) → t ≤ R → R - t < pair_count (suc (t - 1))
unfolding pair_count
rank_less zero R h g = absurd (omega arith)
rank_less (suc t) R h g = let e : suc t - 1 ≡ t = omega arith in rw e (omega arith)

-- After l turns of `pair_of`: the pair with the rank R is l more than that with what is left of it, a rank among the pairs of s - l letters.
pub record PairFrom (s R l left : ℕ) : Type 0 where
  pub letter : l < s
  pub below : left < pair_count (suc (s - 1 - l))
  pub first : (pair_of_rank (s - 1) R).0 ≡ l + (pair_of_rank (s - 1 - l) left).0
  pub second : (pair_of_rank (s - 1) R).1 ≡ l + (pair_of_rank (s - 1 - l) left).1

pub pair_start : (s R : ℕ) → RankOfPair s R → PairFrom s R 0 R
pair_start s R h =
    let all : suc (s - 1) ≡ s = omega (arith, h.0) in
    let none_less : s - 1 - 0 ≡ s - 1 = omega arith in
    record { letter = omega (arith, h.0); below = rw (none_less, all) (omega (arith, square s, h.1)); first = rw none_less (omega arith); second = rw none_less (omega arith) }

module _ {s R l left : ℕ} (P : PairFrom s R l left) where
  -- One turn more.
  module _ (h : s - 1 - l ≤ left) where
    one_more : 1 ≤ s - 1 - l
    one_more = rank_pos (s - 1 - l) left P.below h

    pub pair_next : PairFrom s R (l + 1) (left - (s - 1 - l))
    pair_next =
        let next = rank_next (s - 1 - l) left one_more h in
        let less : s - 1 - (l + 1) ≡ s - 1 - l - 1 = omega arith in
        record {
          letter = omega (arith, one_more);
          below = rw less (rank_less (s - 1 - l) left P.below h);
          first = rw less (omega (arith, P.first, ap (λ (x : ℕ × ℕ). x.0) next));
          second = rw less (omega (arith, P.second, ap (λ (x : ℕ × ℕ). x.1) next));
        }

  -- No turn more.
  pub pair_here : left < s - 1 - l → let pair : ℕ × ℕ = (l, l + 1 + left) in pair ≡ pair_of_rank (s - 1) R
  pair_here h =
      let here = rank_here (s - 1 - l) left h in
      let left_is : l ≡ (pair_of_rank (s - 1) R).0 = omega (arith, P.first, ap (λ (x : ℕ × ℕ). x.0) here) in
      let right_is : l + 1 + left ≡ (pair_of_rank (s - 1) R).1 = omega (arith, P.second, ap (λ (x : ℕ × ℕ). x.1) here) in
      ap₂ (λ (x y : ℕ). (x, y)) left_is right_is

-- ---- the word with its ends set and its inside written

-- X is the word with its ends set.
module _ (out X : List ℕ) (h : 2 ≤ length out) (a b : ℕ) (e : X ≡ a ∷ (take (length out - 2) (drop 1 out) ++ (b ∷ []))) where
  pub part_length : length (take (length out - 1 - 1) (drop 1 X)) ≡ length out - 2
  part_length =
      let k : length out - 1 - 1 ≡ length out - 2 = omega arith in
      let inner = length_part 1 (length out - 2) out (omega arith) in
      rw (e, k) (front_length (take (length out - 2) (drop 1 out)) (b ∷ []) refl inner)

  put_inside : (Y : List ℕ) → put_mid 1 (length out - 1 - 1) X Y ≡ a ∷ (Y ++ (b ∷ []))
  put_inside Y =
      let k : length out - 1 - 1 ≡ length out - 2 = omega arith in
      rw (e, k, drop_at (take (length out - 2) (drop 1 out)) (b ∷ []) (length out - 2) (length_part 1 (length out - 2) out (omega arith)))

module _ (s : ℕ) (m : Mirror) (out : List ℕ) (h : 2 ≤ length out) where
  two_more : length out ≡ suc (suc (length out - 2))
  two_more = omega arith

  pub low_word : (q : ℕ) → q < s * classes s m (length out - 2) → (X Y : List ℕ) (t : ℕ) → t ≡ mirror_rank s m (q % s)
      → X ≡ (q % s) ∷ (take (length out - 2) (drop 1 out) ++ (t ∷ []))
      → Y ≡ word_of s m (length (take (length out - 1 - 1) (drop 1 X))) (q / s)
      → put_mid 1 (length out - 1 - 1) X Y ≡ word_of s m (length out) q
  low_word q g X Y t r e f =
      put_inside out X h (q % s) t e Y
      ∙ ap (λ (l : List ℕ). (q % s) ∷ (l ++ (t ∷ []))) (f ∙ ap (λ (n : ℕ). word_of s m n (q / s)) (part_length out X h (q % s) t e))
      ∙ ap (λ (x : ℕ). (q % s) ∷ (word_of s m (length out - 2) (q / s) ++ (x ∷ []))) r
      ∙ sym (word_low s m (length out - 2) q g)
      ∙ ap (λ (n : ℕ). word_of s m n q) (sym two_more)

  pub high_word : (q p : ℕ) → p ≡ s ^ (length out - 2) → (X Y : List ℕ) (l r t : ℕ)
      → (let pair : ℕ × ℕ = (l, r) in pair ≡ pair_of_rank (s - 1) (q / p))
      → t ≡ mirror_rank s m r
      → X ≡ l ∷ (take (length out - 2) (drop 1 out) ++ (t ∷ []))
      → Y ≡ word_of_plain s (length (take (length out - 1 - 1) (drop 1 X))) (q % p)
      → put_mid 1 (length out - 1 - 1) X Y ≡ word_of s m (length out) (s * classes s m (length out - 2) + q)
  high_word q p z X Y l r t lr et e f =
      let el : l ≡ (pair_of_rank (s - 1) (q / p)).0 = ap (λ (x : ℕ × ℕ). x.0) lr in
      let er : r ≡ (pair_of_rank (s - 1) (q / p)).1 = ap (λ (x : ℕ × ℕ). x.1) lr in
      put_inside out X h l t e Y
      ∙ ap (λ (x : List ℕ). l ∷ (x ++ (t ∷ []))) (f ∙ ap (λ (n : ℕ). word_of_plain s n (q % p)) (part_length out X h l t e))
      ∙ rw (et, el, er, z) (sym (word_high s m (length out - 2) q))
      ∙ ap (λ (n : ℕ). word_of s m n (s * classes s m (length out - 2) + q)) (sym two_more)

  all_classes : classes s m (length out) ≡ s * classes s m (length out - 2) + pair_count s * s ^ (length out - 2)
  all_classes = ap (classes s m) two_more ∙ classes-suc s m (length out - 2)

  module _ (f : Limits s (length out)) where
    pow_le : s ^ (length out - 2) * s * s ≤ 2 ^ 62
    pow_le =
        let g : s ^ suc (suc (length out - 2)) ≤ 2 ^ 62 = subst (λ (n : ℕ). s ^ n ≤ 2 ^ 62) two_more f.small in
        omega (arith, pow-two_more s (length out - 2))

    pub low_small : s * classes s m (length out - 2) ≤ 2 ^ 62
    low_small =
        let g : classes s m (length out - 2) ≤ s ^ (length out - 2) = classes-le s m (length out - 2) f.two in
        omega (arith, mul-le-mul_left s g, pow_le, mul-le-mul_left (s ^ (length out - 2) * s) f.two)

    pub inner_limits : (n : ℕ) → n ≡ length out - 2 → Limits s n
    inner_limits n e = limits_less f (omega arith)

    pub inner_lt : (q : ℕ) → q < s * classes s m (length out - 2) → (n : ℕ) → n ≡ length out - 2 → q / s < classes s m n
    inner_lt q g n e =
        let pos : 0 < s = omega (arith, f.two) in
        let k : q < classes s m (length out - 2) * s = omega arith in
        rw e ((div-lt_iff_lt-mul pos).1 k)

-- A code that is q above those of equal outer letters, and p as `power` gives it.
module _ {s : ℕ} {m : Mirror} {out : List ℕ} {q : ℕ} (F : FitHighCode s m out q) {p : ℕ} (by : p ≡ min (s ^ (length out - 2)) 4611686018427387905) where
  pub p_is : p ≡ s ^ (length out - 2)
  p_is = capped s (length out) (length out - 2) p F.limits.two (omega arith) F.limits.small by

  pub p_pos : 0 < p
  p_pos = rw p_is (pow_pos s (length out - 2) F.limits.two)

  rank_lt : q / p < pair_count s
  rank_lt =
      let k : q < pair_count s * p = rw p_is (omega (arith, F.below, all_classes s m out F.long)) in
      (div-lt_iff_lt-mul p_pos).1 k

  pub rank_below : RankOfPair s (q / p)
  rank_below = (F.limits.two, omega (arith, square s, rank_lt), F.limits.few)

  pub right_lt : (l r : ℕ) → (let pair : ℕ × ℕ = (l, r) in pair ≡ pair_of_rank (s - 1) (q / p)) → r < s
  right_lt l r lr = omega (arith, ap (λ (x : ℕ × ℕ). x.1) lr, (rank_of_pair s (q / p) rank_lt).0.within, F.limits.two)

  pub remainder_lt : (n : ℕ) → n ≡ length out - 2 → q % p < s ^ n
  remainder_lt n e = rw e (subst (λ (x : ℕ). q % p < x) p_is (mod-lt q p_pos))

-- A code of a word of one letter, under complement.
pub middle_low : (s q : ℕ) {m : Mirror} → q < classes s m 1 → m ≡ Complement → q < (s + 1) / 2
middle_low s q h e =
    let below = subst (λ (m : Mirror). q < classes s m 1) e h in
    omega (arith, classes-one_complement s, below)

pub none_word : (s : ℕ) (m : Mirror) (q : ℕ) (out : List ℕ) → length out ≡ 0 → out ≡ word_of s m (length out) q
unfolding word_of
none_word s m q [] e = refl
none_word s m q (a ∷ out) e = absurd (omega arith)

pub one_word : (s : ℕ) (m : Mirror) (q : ℕ) (out : List ℕ) → length out ≡ 1 → (x : ℕ) → x ≡ middle_of_code s m q → set out 0 x ≡ word_of s m (length out) q
unfolding word_of
one_word s m q [] e x f = absurd (omega arith)
one_word s m q (a ∷ []) e x f = ap (λ (y : ℕ). y ∷ []) f
one_word s m q (a ∷ (b ∷ out)) e x f = absurd (omega arith)

-- A code that is not below those of equal outer pairs.
module _ (s : ℕ) (m : Mirror) (out : List ℕ) (two : 2 ≤ length out) (f : Limits s (length out)) (q : ℕ)
    (g : q < classes s m (length out)) (n : ℕ) (e : n ≡ classes s m (length out - 2)) (h : s * n ≤ q) where
  pub upper : FitHighCode s m out (q - s * n)
  upper = record { limits = f; long = two; below = omega (arith, ap (λ (x : ℕ). s * x) e) }

  upper_is : s * classes s m (length out - 2) + (q - s * n) ≡ q
  upper_is = omega (arith, ap (λ (x : ℕ). s * x) e)

  -- What `fill_differing` writes for it is its word.
  pub upper_word : (new : List ℕ) → new ≡ word_of s m (length out) (s * classes s m (length out - 2) + (q - s * n)) → new ≡ word_of s m (length out) q
  upper_word new x = x ∙ ap (word_of s m (length out)) upper_is

-- ---- the bytes of a word

abbrev pub zeros : List ℕ
zeros = replicate 64 0

pub zeros_length : {s k : ℕ} → Limits s k → length (take k zeros) ≡ k
zeros_length {s} {k} f = length-take-le k zeros (omega (arith, k_at_most f))

module _ (letters : List ℕ) (k : ℕ) (m : Mirror) (q : ℕ) (f : Limits (length letters) k) (g : q < classes (length letters) m k) where
  pub word_length : length (word_of (length letters) m k q) ≡ k
  word_length = length_word_of (length letters) m f.two k q g

  word_ranks : Ranks (length letters) (word_of (length letters) m k q)
  word_ranks = ranks_word_of (length letters) m f.two k q g

-- The places w that `fill_word` wrote over the first k zeros.
module _ (letters : List ℕ) (k : ℕ) (m : Mirror) (q : ℕ) {w : List ℕ} (f : Limits (length letters) k) (g : q < classes (length letters) m k)
    (holds : w ≡ word_of (length letters) m (length (take k zeros)) q) where
  filled_is : w ≡ word_of (length letters) m k q
  filled_is = holds ∙ ap (λ (n : ℕ). word_of (length letters) m n q) (zeros_length f)

  pub filled_length : length w ≡ k
  filled_length = ap length filled_is ∙ word_length letters k m q f g

  pub filled_ranks : Ranks (length letters) w
  filled_ranks = subst⁻¹ (Ranks (length letters)) filled_is (word_ranks letters k m q f g)

  pub filled_written : (old new : List ℕ) → new ≡ in_capitals letters w ++ drop (length w) old
      → new ≡ in_capitals letters (word_of (length letters) m k q) ++ drop k old
  filled_written old new x = x ∙ rw (filled_length, filled_is)
