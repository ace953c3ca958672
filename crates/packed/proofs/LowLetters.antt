-- The mirror of the n lowest letters of a number (`low_mirror`). Of four it is the table's entry (`by_lookup`, from the table's rule); of n + m letters
-- it is that of the last n, then that of the m before them (`two_parts`; where the m are four and looked up, `lookup_next`); of a word of k letters it is that of n,
-- where n is at least k, without the letters of rank 0 that stand before the word (`padded`). So one law each serves every k.
use Rattle.std.proofs.Common.{◌≡◌, refl, sym, ap, ◌∙◌, List, [], ◌∷◌, ◌++◌, ℕ, zero, suc, ◌+◌, ◌-◌, ◌*◌, ◌/◌, ◌%◌, ◌^◌, ◌<◌, ◌≤◌, mod-lt, mod-eq_of_lt, lt_of_lt_of_le, arith, length, get_or, replicate, length-append, pow-add}
use native.Mathlib.Nat.{pow-le-pow_right, div-div-eq-div-mul}
use lib.Arith.{digits_div, mod-mul}
use lib.ListN.{length-replicate}
use Rattle.laws.proofs.Each.{each_append}
use Rattle.laws.proofs.Powers.{pow_pos, four_pow}
use Rattle.encoding.specs.Words.{Complement, Ranks, mirror, plain}
use Rattle.encoding.specs.WordsOfCodes.{word_of_plain}
use Rattle.encoding.proofs.Ends.{plain-append, mirror-append, length-mirror}
use Rattle.encoding.proofs.Canonical.{plain-below, Ranks-mirror}
use Rattle.encoding.proofs.Plain.{length-word_of_plain, ranks_word_of_plain, plain-word_of_plain, word_of_plain-plain}
use Rattle.packed.specs.Mirrors.{MirrorTable}
use Rattle.packed.specs.Needs.{low_mirror}
use Rattle.packed.proofs.Tables.{entry_mirror}

two : 1 < 4
two = omega arith

-- ---- the n lowest letters of x

module _ (n x : ℕ) where
  abbrev low : List ℕ
  low = word_of_plain 4 n (x % 4 ^ n)

  low_length : length low ≡ n
  low_length = length-word_of_plain 4 n (x % 4 ^ n)

  low_ranks : Ranks 4 low
  low_ranks = ranks_word_of_plain 4 n (x % 4 ^ n) two (mod-lt x (pow_pos 4 n two))

  low_plain : plain 4 low ≡ x % 4 ^ n
  low_plain = plain-word_of_plain 4 n (x % 4 ^ n) two (mod-lt x (pow_pos 4 n two))

  pub low_mirror_lt : low_mirror n x < 4 ^ n
  unfolding low_mirror
  low_mirror_lt =
      plain-below 4 n (mirror 4 Complement low) (length-mirror 4 Complement low ∙ low_length) (Ranks-mirror 4 Complement n low low_length low_ranks)

  -- They are any word of n letters with that plain rank.
  low_is : (w : List ℕ) → length w ≡ n → Ranks 4 w → plain 4 w ≡ x % 4 ^ n → low_mirror n x ≡ plain 4 (mirror 4 Complement w)
  unfolding low_mirror
  low_is w l h e = ap (λ (v : List ℕ). plain 4 (mirror 4 Complement v)) (ap (word_of_plain 4 n) (sym e) ∙ word_of_plain-plain 4 n w two l h)

-- ---- four letters

-- A list of four numbers is its four numbers.
four : (P : List ℕ → Type 0) → ((a b c d : ℕ) → P (a ∷ b ∷ c ∷ d ∷ [])) → (w : List ℕ) → length w ≡ 4 → P w
four P f [] h = absurd (omega arith)
four P f (a ∷ []) h = absurd (omega arith)
four P f (a ∷ b ∷ []) h = absurd (omega arith)
four P f (a ∷ b ∷ c ∷ []) h = absurd (omega arith)
four P f (a ∷ b ∷ c ∷ d ∷ []) h = f a b c d
four P f (a ∷ b ∷ c ∷ d ∷ e ∷ w) h = absurd (omega arith)

pub by_lookup : {table : List ℕ} → MirrorTable table → (x : ℕ) → get_or table (x % 256) 0 ≡ low_mirror 4 x
unfolding low_mirror
by_lookup {table} T x =
    ap (λ (b : ℕ). get_or table b 0) (sym (low_plain 4 x))
    ∙ four (λ (w : List ℕ). Ranks 4 w → get_or table (plain 4 w) 0 ≡ plain 4 (mirror 4 Complement w))
    (λ a b c d h. entry_mirror T a b c d h.0 h.1.0 h.1.1.0 h.1.1.1.0) (low 4 x) (low_length 4 x) (low_ranks 4 x)

-- ---- n + m letters

-- u ++ v are the n + m lowest letters of x, v the n lowest of them.
joined : (n m x : ℕ) → low_mirror n x * 4 ^ m + low_mirror m (x / 4 ^ n) ≡ low_mirror (n + m) x
unfolding low_mirror
joined n m x =
    let u : List ℕ = low m (x / 4 ^ n) in
    let v : List ℕ = low n x in
    let lu : length u ≡ m = low_length m (x / 4 ^ n) in
    let l : length (u ++ v) ≡ n + m = omega (arith, length-append u v, lu, low_length n x) in
    let h : Ranks 4 (u ++ v) = each_append (λ (a : ℕ). a < 4) u v (low_ranks m (x / 4 ^ n)) (low_ranks n x) in
    let powers : 4 ^ (n + m) ≡ 4 ^ m * 4 ^ n = pow-add 4 n m ∙ omega arith in
    let p : plain 4 (u ++ v) ≡ x % 4 ^ (n + m)
    = plain-append 4 u v
    ∙ rw (low_length n x, low_plain m (x / 4 ^ n), low_plain n x, powers) (sym (mod-mul x (pow_pos 4 m two) (pow_pos 4 n two))) in
    sym (low_is (n + m) x (u ++ v) l h p
    ∙ ap (plain 4) (mirror-append 4 Complement u v)
    ∙ plain-append 4 (mirror 4 Complement v) (mirror 4 Complement u)
    ∙ ap (λ (i : ℕ). plain 4 (mirror 4 Complement v) * 4 ^ i + plain 4 (mirror 4 Complement u)) (length-mirror 4 Complement u ∙ lu))

-- The same of two parts that were looked up.
pub two_parts : (n m x : ℕ) {last before : ℕ} → last ≡ low_mirror n x → before ≡ low_mirror m (x / 4 ^ n) → last * 4 ^ m + before ≡ low_mirror (n + m) x
two_parts n m x last-is before-is = rw (last-is, before-is) (joined n m x)

-- ---- a lookup for each four letters

pub no_lookup : (x : ℕ) → 0 ≡ low_mirror 0 x
unfolding low_mirror mirror plain word_of_plain
no_lookup x = refl

-- After i lookups: the mirror of the 4i lowest letters of x, and x without them.
pub record LookedUp (x i mirror rest : ℕ) : Type 0 where
  pub mirror_is : mirror ≡ low_mirror (4 * i) x
  pub rest_is : rest ≡ x / 4 ^ (4 * i)

pub lookup_next : {table : List ℕ} → MirrorTable table → {x i mirror rest before : ℕ} → LookedUp x i mirror rest → before ≡ get_or table (rest % 256) 0
    → LookedUp x (i + 1) (mirror * 256 + before) (rest / 256)
lookup_next T {x} {i} {mirror} {rest} {before} L before_is =
    let four_more : 4 * (i + 1) ≡ 4 * i + 4 = omega arith in
    let looked_up : before ≡ low_mirror 4 (x / 4 ^ (4 * i)) = before_is ∙ by_lookup T rest ∙ ap (low_mirror 4) L.rest_is in
    record {
      mirror_is = rw four_more (two_parts (4 * i) 4 x L.mirror_is looked_up);
      rest_is = rw (four_more, L.rest_is, pow-add 4 (4 * i) 4) (div-div-eq-div-mul x (4 ^ (4 * i)) 256);
    }

-- Of at most 32 letters it fits.
pub lookups_fit : {x i mirror rest : ℕ} → LookedUp x i mirror rest → i ≤ 8 → mirror < 2 ^ 64
lookups_fit {x} {i} L few =
    let letters : 4 * i ≤ 32 = omega arith in
    let most : 4 ^ (4 * i) ≤ 4 ^ 32 = pow-le-pow_right (omega arith) letters in
    rw L.mirror_is (lt_of_lt_of_le (low_mirror_lt (4 * i) x) most)

-- ---- a word of k letters

zeros_plain : (n : ℕ) → plain 4 (replicate n 0) ≡ 0
unfolding plain
zeros_plain zero = refl
zeros_plain (suc n) = omega (arith, zeros_plain n)

zeros_ranks : (n : ℕ) → Ranks 4 (replicate n 0)
zeros_ranks zero = tt
zeros_ranks (suc n) = (omega arith, zeros_ranks n)

-- z letters of rank 0 before the word make n letters of it; in the mirror their complements are the last z, which a shift by b bits drops.
pub padded : (n k x b : ℕ) {y : ℕ} → y ≡ low_mirror n x → k ≤ n → x < 4 ^ k → b ≡ 2 * (n - k)
    → y / 2 ^ b ≡ plain 4 (mirror 4 Complement (word_of_plain 4 k x))
padded n k x b y_is enough below bits =
    let w : List ℕ = word_of_plain 4 k x in
    let lw : length w ≡ k = length-word_of_plain 4 k x in
    let z : ℕ = n - k in
    let zeros : List ℕ = replicate z 0 in
    let lz : length zeros ≡ z = length-replicate {A = ℕ} z 0 in
    let l : length (zeros ++ w) ≡ n = omega (arith, length-append zeros w) in
    let h : Ranks 4 (zeros ++ w) = each_append (λ (a : ℕ). a < 4) zeros w (zeros_ranks z) (ranks_word_of_plain 4 k x two below) in
    let small : x < 4 ^ n = lt_of_lt_of_le below (pow-le-pow_right (omega arith) enough) in
    let p : plain 4 (zeros ++ w) ≡ x % 4 ^ n
    = plain-append 4 zeros w
    ∙ omega (arith, ap (λ (a : ℕ). a * 4 ^ length w) (zeros_plain z), plain-word_of_plain 4 k x two below, mod-eq_of_lt small) in
    let back : List ℕ = mirror 4 Complement zeros in
    let lb : length back ≡ z = length-mirror 4 Complement zeros ∙ lz in
    let back_lt : plain 4 back < 4 ^ z = plain-below 4 z back lb (Ranks-mirror 4 Complement z zeros lz (zeros_ranks z)) in
    let split : low_mirror n x ≡ plain 4 (mirror 4 Complement w) * 4 ^ z + plain 4 back
    = low_is n x (zeros ++ w) l h p
    ∙ ap (plain 4) (mirror-append 4 Complement zeros w)
    ∙ plain-append 4 (mirror 4 Complement w) back
    ∙ ap (λ (i : ℕ). plain 4 (mirror 4 Complement w) * 4 ^ i + plain 4 back) lb in
    rw (y_is, bits, ← four_pow z, split) (digits_div (plain 4 (mirror 4 Complement w)) back_lt)
