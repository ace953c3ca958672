-- The kernel for every alphabet: what follows from a window (`Kept`) of its code, of the window within and of the next one, the invariant of the
-- scan, and the first window (FirstWindows) in the terms of this kernel.
use Rattle.std.proofs.Common.{◌≡◌, refl, sym, ap, ◌∙◌, List, [], ◌∷◌, ◌≢◌, ℕ, suc, ◌+◌, ◌-◌, ◌*◌, ◌/◌, ◌^◌, ◌<◌, ◌≤◌, min, max, pow-suc, mul-le-mul_left, mul-le-mul_right, lt_of_lt_of_le, add-one, arith, length, get_or}
use native.Mathlib.Nat.{pow-le-pow_right}
use lib.Arith.{digits_div}
use Rattle.laws.proofs.Powers.{pow-one, pow-fits}
use Rattle.settings.proofs.Limits.{k_at_most, limits_less}
use Rattle.encoding.specs.Words.{Mirror, mirror_rank, mirror, plain}
use Rattle.encoding.specs.Codes.{pair_rank, code}
use Rattle.encoding.specs.Needs.{palindromes}
use Rattle.encoding.proofs.Canonical.{mirror_rank-lt}
use Rattle.encoding.proofs.CodesByEnds.{code_none}
use Rattle.any_alphabet.specs.declared.Window.{Window}
use Rattle.any_alphabet.specs.declared.AnyAlphabet.{AnyAlphabet}
use Rattle.ranks.specs.Needs.{part}
use Rattle.any_alphabet.specs.Needs.{Input, OuterPair}
use Rattle.any_alphabet.specs.Windows.{Kept}
use Rattle.ranks.proofs.WordParts.{ranks_at, part-cons}
use Rattle.windows.proofs.Parts.{plain_more, plain_first, part_lt, back_more, back_first, back_lt}
use Rattle.any_alphabet.proofs.FirstWindows.{Opened, Letter}
use Rattle.windows.proofs.WindowEnds.{code_lt, differ_is, same_is, forward_is, back_is, palindromes-within}

module _ {s k : ℕ} {pw d : List ℕ} (I : Input s k pw d) where
  pub k_lt : k < 64
  k_lt = omega (arith, k_at_most I.limits)

  pub power_fits : (i : ℕ) → i ≤ k → s ^ i ≤ 2 ^ 62
  power_fits i h = pow-fits s i k I.limits.two h I.limits.small

module _ {s : ℕ} {m : Mirror} {k : ℕ} {pw d : List ℕ} {j : ℕ} {t : Window} (W : Kept s m k pw d j t) where
  two : 1 < s
  two = W.input.limits.two

  pub rank_lt : (i : ℕ) → i < length d → get_or d i 0 < s
  rank_lt i h = ranks_at s d i W.input.ranks h

  mirror_lt : (i : ℕ) → i < length d → mirror_rank s m (get_or d i 0) < s
  mirror_lt i h = mirror_rank-lt s m (get_or d i 0) (rank_lt i h)

  pub code_fits : code s m k (part j k d) < 2 ^ 62
  code_fits = lt_of_lt_of_le (code_lt s m two d W.input.ranks j k W.inside) W.input.limits.small

  pub outer_lt : {l r : ℕ} → OuterPair s m k d j l r → (l < s) × (r < s)
  outer_lt O = (rw O.first (rank_lt j (omega (arith, O.two, W.inside))), rw O.last (mirror_lt (j + k - 1) (omega (arith, O.two, W.inside))))

  -- The code where the outer letters differ.
  pub differing_is : {l r : ℕ} (w R top low : ℕ) → OuterPair s m k d j l r → l ≢ r → (l < r → w ≡ t.forward) × (r ≤ l → w ≡ t.back)
      → R ≡ pair_rank s (min l r) (max l r)
      → top ≡ s ^ (k - 1)
      → low ≡ s ^ (k - 2)
      → (top + t.palindromes) / 2 + R * low + w ≡ code s m k (part j k d)
  differing_is w R top low O ne chosen e_r et el =
      rw (et, el)
      (differ_is s m two d W.input.ranks j k (j + k - 1) t.forward t.back w t.palindromes R O.two W.inside refl
      W.ahead W.behind W.count
      (rw (O.first, O.last) at ne) (rw (O.first, O.last) at chosen.0) (rw (O.first, O.last) at chosen.1) (rw (O.first, O.last) at e_r))

  -- ---- the window within

  inner_input : 2 ≤ k → Input s (k - 2) pw d
  inner_input h =
      record {
        limits = limits_less W.input.limits (omega arith);
        table = record { at = λ i g. W.input.table.at i (omega arith) };
        ranks = W.input.ranks;
      }

  -- It has fewer than two letters between its ends.
  pub within_short : (e : ℕ) → 2 ≤ k → k < 4 → e ≡ t.palindromes / s → Kept s m (k - 2) pw d (j + 1) (record { at = j + 1; length = k - 2; palindromes = e; forward = 0; back = 0 })
  unfolding plain mirror
  within_short e h g q =
      let z : k - 2 - 2 ≡ 0 = omega arith in
      record {
        input = inner_input h;
        inside = omega (arith, W.inside);
        count = q ∙ palindromes-within s m k t.palindromes two h W.count;
        ahead = rw z;
        behind = rw z;
      }

  pub digit_fits : (x q i : ℕ) → x < s → q ≡ s ^ i → suc i ≤ k → x * q < 2 ^ 64
  digit_fits x q i h e g = rw e (omega (arith, mul-le-mul_right (s ^ i) h, pow-suc s i, power_fits W.input (suc i) g))

  pub first_le : (x q : ℕ) → 4 ≤ k → q ≡ s ^ (k - 3) → x ≡ get_or d (j + 1) 0 → (x < s) × (x * q ≤ t.forward)
  first_le x q h e g = (
    rw g (rank_lt (j + 1) (omega (arith, W.inside))),
    rw (g, e, add-one) (forward_is s m two d W.input.ranks j k t.forward h W.inside W.ahead).0,
  )

  pub last_le : (x q : ℕ) → 4 ≤ k → q ≡ s ^ (k - 3) → x ≡ mirror_rank s m (get_or d (j + k - 2) 0) → (x < s) × (x * q ≤ t.back)
  last_le x q h e g = (
    rw g (mirror_lt (j + k - 2) (omega (arith, W.inside))),
    rw (g, e) (back_is s m two d W.input.ranks j k t.back (j + k - 2) h W.inside refl W.behind).0,
  )

  pub first_fits : {x : ℕ} → 4 ≤ k → x ≡ get_or d (j + 1) 0 → x * get_or pw (k - 3) 0 < 2 ^ 64
  first_fits {x} h e =
      let power : get_or pw (k - 3) 0 ≡ s ^ (k - 3) = W.input.table.at (k - 3) (omega arith) in
      digit_fits x _ _ (first_le x _ h power e).0 power (omega arith)

  pub last_fits : {x : ℕ} → 4 ≤ k → x ≡ mirror_rank s m (get_or d (j + k - 2) 0) → x * get_or pw (k - 3) 0 < 2 ^ 64
  last_fits {x} h e =
      let power : get_or pw (k - 3) 0 ≡ s ^ (k - 3) = W.input.table.at (k - 3) (omega arith) in
      digit_fits x _ _ (last_le x _ h power e).0 power (omega arith)

  pub within_long : (e f b q x y : ℕ) → 4 ≤ k → e ≡ t.palindromes / s → q ≡ s ^ (k - 3) → x ≡ get_or d (j + 1) 0 → y ≡ mirror_rank s m (get_or d (j + k - 2) 0)
      → f ≡ (t.forward - x * q) / s
      → b ≡ (t.back - y * q) / s
      → Kept s m (k - 2) pw d (j + 1) (record { at = j + 1; length = k - 2; palindromes = e; forward = f; back = b })
  within_long e f b q x y h ee eq ex ey ef eb =
      record {
        input = inner_input (omega arith);
        inside = omega (arith, W.inside);
        count = ee ∙ palindromes-within s m k t.palindromes two (omega arith) W.count;
        ahead = ef ∙ rw (ex, eq, add-one) (forward_is s m two d W.input.ranks j k t.forward h W.inside W.ahead).1;
        behind = eb ∙ rw (ey, eq, add-one) (back_is s m two d W.input.ranks j k t.back (j + k - 2) h W.inside refl W.behind).1;
      }

  equal_is : {l r : ℕ} → OuterPair s m k d j l r → l ≡ r → code s m k (part j k d) ≡ s * code s m (k - 2) (part (j + 1) (k - 2) d) + l
  equal_is O e =
      rw (O.first, add-one)
      (same_is s m two d W.input.ranks j k (j + k - 1) O.two W.inside refl (sym O.first ∙ e ∙ O.last))

pub outer_pair : {s : ℕ} {m : Mirror} {k : ℕ} {d : List ℕ} {j l r : ℕ} → 2 ≤ k → l ≡ get_or d j 0 → r ≡ mirror_rank s m (get_or d (j + k - 1) 0)
    → OuterPair s m k d j l r
outer_pair two first last = record { two = two; first = first; last = last }

-- ---- the scan: after some equal pairs n letters are left, from place a

pub record Scan (s : ℕ) (m : Mirror) (k : ℕ) (pw d : List ℕ) (j : ℕ) (t : Window) (a n closing scale : ℕ) : Type 0 where
  pub window : Kept s m n pw d a t
  pub rest : code s m k (part j k d) ≡ closing + scale * code s m n (part a n d)
  bound : scale * s ^ n ≤ 2 ^ 62
  pub fits : code s m k (part j k d) < 2 ^ 62

pub scan_start : {s : ℕ} {m : Mirror} {k : ℕ} {pw d : List ℕ} {j : ℕ} {t : Window} → Kept s m k pw d j t → Scan s m k pw d j t j k 0 1
scan_start W = record { window = W; rest = omega arith; bound = omega (arith, W.input.limits.small); fits = code_fits W }

module _ {s : ℕ} {m : Mirror} {k : ℕ} {pw d : List ℕ} {j : ℕ} {t : Window} {a n closing scale : ℕ} (S : Scan s m k pw d j t a n closing scale) where
  pub scale_fits : 2 ≤ n → scale * s ≤ 2 ^ 62
  scale_fits h =
      let e : s ^ 1 ≤ s ^ n = pow-le-pow_right (omega (arith, S.window.input.limits.two)) (omega arith) in
      omega (arith, mul-le-mul_left scale e, ap (λ (x : ℕ). scale * x) (pow-one s), S.bound)

  pub scan_rest : {l r : ℕ} → OuterPair s m n d a l r → l ≡ r
      → code s m k (part j k d) ≡ closing + scale * l + scale * s * code s m (n - 2) (part (a + 1) (n - 2) d)
  scan_rest O e = S.rest ∙ omega (arith, ap (λ (x : ℕ). scale * x) (equal_is S.window O e))

  pub scan_within : {l r : ℕ} {t' : Window} → OuterPair s m n d a l r → l ≡ r → Kept s m (n - 2) pw d (a + 1) t'
      → Scan s m k pw d j t' (a + 1) (n - 2) (closing + scale * l) (scale * s)
  scan_within O e W' =
      let p : s ^ suc (n - 2) ≤ s ^ n = pow-le-pow_right (omega (arith, S.window.input.limits.two)) (omega (arith, O.two)) in
      record {
        window = W';
        rest = scan_rest O e;
        bound = omega (arith, mul-le-mul_left scale p, ap (λ (x : ℕ). scale * x) (pow-suc s (n - 2)), S.bound);
        fits = S.fits;
      }

  pub scan_done : (q : ℕ) → q ≡ code s m n (part a n d) → closing + scale * q ≡ code s m k (part j k d)
  scan_done q e = sym (S.rest ∙ rw e)

  pub scan_one : (q l : ℕ) → n ≡ 1 → l ≡ get_or d a 0 → q ≡ code s m 1 (l ∷ []) → closing + scale * q ≡ code s m k (part j k d)
  scan_one q l e f g = scan_done q (g ∙ rw (f, e, part-cons a 0 d (omega (arith, S.window.inside))))

  pub scan_none : n < 2 → n ≢ 1 → closing ≡ code s m k (part j k d)
  scan_none h g =
      let z : n ≡ 0 = omega arith in
      let q : code s m n (part a n d) ≡ 0 = rw z (code_none s m S.window.input.limits.two) in
      sym (S.rest ∙ rw q (omega arith))

-- ---- the next window

-- The letter that enters it is a rank.
pub entering_lt : {s : ℕ} {m : Mirror} {k : ℕ} {pw d : List ℕ} {j : ℕ} {t : Window} → Kept s m k pw d j t → j + k < length d
    → {n y : ℕ} → n ≡ k - 2 → y ≡ get_or d (j + 1 + n) 0 → 1 ≤ k → y < s
entering_lt {s} {d = d} {j = j} W more {n = n} en ey some = rw ey (ranks_at s d (j + 1 + n) W.input.ranks (omega arith))

-- From the window at j to the next one: of its n inner letters x leaves, and y enters, as z on the mirror's side.
pub record Entering (s : ℕ) (m : Mirror) (k : ℕ) (pw d : List ℕ) (j : ℕ) (t : Window) (n q x y z : ℕ) : Type 0 where
  pub window : Kept s m k pw d j t
  pub some : 1 ≤ k
  pub more : j + k < length d
  pub between : n ≡ k - 2
  pub power : q ≡ s ^ n
  pub leaving : x ≡ get_or d (j + 1) 0
  pub entering : y ≡ get_or d (j + 1 + n) 0
  pub shown : z ≡ mirror_rank s m y

module _ {s : ℕ} {m : Mirror} {k : ℕ} {pw d : List ℕ} {j : ℕ} {t : Window} {n q x y z : ℕ} (E : Entering s m k pw d j t n q x y z) where
  x_is : x ≡ get_or d (suc j) 0
  x_is = E.leaving ∙ rw (add-one j)

  y_is : y ≡ get_or d (suc j + n) 0
  y_is = E.entering ∙ (let e : j + 1 + n ≡ suc j + n = omega arith in rw e)

  inside : suc j + n < length d
  inside = omega (arith, E.some, E.more, E.between)

  few : suc n ≤ k
  few = omega (arith, E.some, E.between)

  now_ahead : t.forward ≡ plain s (part (suc j) n d)
  now_ahead = E.window.ahead ∙ rw E.between

  now_behind : t.back ≡ plain s (mirror s m (part (suc j) n d))
  now_behind = E.window.behind ∙ rw E.between

  ahead_more : t.forward * s + y ≡ plain s (part (suc j) (suc n) d)
  ahead_more = rw (now_ahead, y_is) (sym (plain_more s (suc j) n d inside))

  behind_more : t.back + z * q ≡ plain s (mirror s m (part (suc j) (suc n) d))
  behind_more = rw (now_behind, E.shown, y_is, E.power) (omega (arith, back_more s m (suc j) n d inside))

  ahead_is : t.forward * s + y ≡ x * q + plain s (part (suc (suc j)) n d)
  ahead_is = ahead_more ∙ rw (x_is, E.power) (plain_first s (suc j) n d inside)

  behind_is : t.back + z * q ≡ plain s (mirror s m (part (suc (suc j)) n d)) * s + mirror_rank s m x
  behind_is = behind_more ∙ rw x_is (back_first s m (suc j) n d inside)

  pub ahead_fits : (t.forward * s + y < 2 ^ 62) × (x * q ≤ t.forward * s + y)
  ahead_fits = (
    rw ahead_more (lt_of_lt_of_le (part_lt s (suc j) (suc n) d E.window.input.ranks (omega (arith, inside))) (power_fits E.window.input (suc n) few)),
    omega (arith, ahead_is),
  )

  pub behind_fits : t.back + z * q < 2 ^ 62
  behind_fits =
      rw behind_more
      (lt_of_lt_of_le (back_lt s m (suc j) (suc n) d E.window.input.ranks (omega (arith, inside))) (power_fits E.window.input (suc n) few))

  pub next_window_is : (u v : ℕ) → u ≡ t.forward * s + y - x * q → v ≡ (t.back + z * q) / s
      → Kept s m k pw d (j + 1) (record { at = j + 1; length = k; palindromes = t.palindromes; forward = u; back = v })
  next_window_is u v eu ev =
      record {
        input = E.window.input;
        inside = omega (arith, E.more);
        count = E.window.count;
        ahead = eu ∙ rw (← E.between, add-one) (omega (arith, ahead_is));
        behind = ev ∙ rw (← E.between, add-one, behind_is)
            (digits_div (plain s (mirror s m (part (suc (suc j)) n d)))
            (mirror_rank-lt s m x (rw x_is (ranks_at s d (suc j) E.window.input.ranks (omega (arith, inside))))));
      }

-- From the next window's contract: each number as it is read.
pub next_from : {s : ℕ} {m : Mirror} {k : ℕ} {pw d : List ℕ} {j : ℕ} {t : Window} → Kept s m k pw d j t → 1 ≤ k → j + k < length d → {n : ℕ} → n ≡ k - 2
    → {x y z : ℕ} → x ≡ get_or d (j + 1) 0 → y ≡ get_or d (j + 1 + n) 0 → z ≡ mirror_rank s m y → Entering s m k pw d j t n (get_or pw n 0) x y z
next_from W some more {n} en ex ey ez =
    record {
      window = W;
      some = some;
      more = more;
      between = en;
      power = W.input.table.at n (omega (arith, en));
      leaving = ex;
      entering = ey;
      shown = ez;
    }

-- ---- the first window: its inner letters, from place 1, are taken in

module _ {s : ℕ} {m : Mirror} {k : ℕ} {pw d : List ℕ} (I : Input s k pw d) {n u v i : ℕ} (en : n ≡ k - 2) (O : Opened s m d 1 n u v i) where
  pub first_window_is : k ≤ length d → (e : ℕ) → e ≡ palindromes s m k → n ≤ i → Kept s m k pw d 0 (record { at = 0; length = k; palindromes = e; forward = u; back = v })
  first_window_is long e q h =
      let i-is : i ≡ k - 2 = omega (arith, O.upto) in
      record { input = I; inside = omega arith; count = q; ahead = rw i-is at O.ahead; behind = rw i-is at O.behind }

  -- The next of them.
  pub first_letter : k ≤ length d → i < n → {x : ℕ} → x ≡ get_or d (i + 1) 0 → Letter s m d 1 n u v i (i + 1) x
  first_letter long more is =
      record {
        opened = O;
        more = more;
        ranks = I.ranks;
        inside = omega (arith, en);
        place = omega arith;
        is = is;
        fits = power_fits I (suc i) (omega (arith, en));
      }

-- What the kernel has.
pub input_of : (a : AnyAlphabet) → Input a.s a.k a.powers.now a.ranks.now
input_of a = record { limits = a.limits; table = a.powers_are; ranks = a.ranks_below }
