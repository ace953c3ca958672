-- The lines of a text: from a place on, line by line (`lines_next`); where a line ends, as `after_line` steps to it (`line_behind`); all of them, which
-- joined are the text (`joined-lines`), and of which the last alone may lack its LF (`lines-good`); and a line in front of a text (`lines_of`). By induction
-- over the text and over the line.
use Rattle.std.proofs.Common.{◌≡◌, refl, sym, ap, ◌∙◌, Bool, true, false, cond, List, [], ◌∷◌, ◌++◌, append-nil, ℕ, zero, suc, ◌+◌, ◌-◌, ◌≤◌, ◌<◌, add-one, arith, length, take, drop, get_or, length-drop, drop_of_length-le, drop-cons, drop-drop, eqb, eqb-true, eq-eqb, ne_eqb, Bor, Option, None, Some, MatchOption}
use borrow.Author.Tests.{eqb-false}
use Rattle.std.specs.List.{HoldsAt}
use Rattle.lines.specs.Lines.{lf_next, on_first, lines, first_byte_is}
use Rattle.lines.specs.Needs.{first_line, joined, NoLf, LineEnd}

-- ---- from a place on

lines_cons : (b : ℕ) (t : List ℕ) → lines (b ∷ t) ≡ first_line (b ∷ t) ∷ lines (drop (length (first_line (b ∷ t))) (b ∷ t))
unfolding lines first_line on_first
lines_cons b [] = go (eqb b 10)
  where
    go : (c : Bool) → cond c ((b ∷ []) ∷ []) ((b ∷ []) ∷ []) ≡ (b ∷ cond c [] []) ∷ lines (drop (length {A = ℕ} (cond c [] [])) [])
    go true = refl
    go false = refl
lines_cons b (d ∷ t) = go (eqb b 10) (lines_cons d t)
  where
    go : (c : Bool) → lines (d ∷ t) ≡ first_line (d ∷ t) ∷ lines (drop (length (first_line (d ∷ t))) (d ∷ t))
        → cond c ((b ∷ []) ∷ lines (d ∷ t)) (on_first b (lines (d ∷ t)))
        ≡ (b ∷ cond c [] (first_line (d ∷ t))) ∷ lines (drop (length (cond c [] (first_line (d ∷ t)))) (d ∷ t))
    go true h = refl
    go false h = ap (on_first b) h

-- The first of some lines, and the others; [] where there is none.
unfoldable pub first_of : List (List ℕ) → List ℕ
first_of [] = []
first_of (l ∷ ls) = l

unfoldable pub rest_of : List (List ℕ) → List (List ℕ)
rest_of [] = []
rest_of (l ∷ ls) = ls

pub first_of_lines : (t : List ℕ) → first_of (lines t) ≡ first_line t
unfolding first_of lines first_line
first_of_lines [] = refl
first_of_lines (b ∷ t) = ap first_of (lines_cons b t)

rest_of_lines : (t : List ℕ) → rest_of (lines t) ≡ lines (drop (length (first_line t)) t)
unfolding rest_of lines first_line
rest_of_lines [] = refl
rest_of_lines (b ∷ t) = ap rest_of (lines_cons b t)

lines_at : (t : List ℕ) (at : ℕ) → at < length t → lines (drop at t) ≡ first_line (drop at t) ∷ lines (drop (at + length (first_line (drop at t))) t)
lines_at t at h =
    let e = drop-cons t at 0 h in
    ap lines e ∙ lines_cons (get_or t at 0) (drop (suc at) t)
    ∙ rw (← e) (ap (λ (x : List ℕ). first_line (drop at t) ∷ lines x) (drop-drop (length (first_line (drop at t))) at t))

module _ (t : List ℕ) (at to : ℕ) (e : to ≡ at + length (first_line (drop at t))) where
  -- The lines behind the one at a place.
  pub lines_behind : rest_of (lines (drop at t)) ≡ lines (drop to t)
  lines_behind = rest_of_lines (drop at t) ∙ ap lines (drop-drop (length (first_line (drop at t))) at t) ∙ ap (λ (x : ℕ). lines (drop x t)) (sym e)

  -- The line at a place, and those behind it.
  pub lines_next : at < length t → lines (drop at t) ≡ first_line (drop at t) ∷ lines (drop to t)
  lines_next h = lines_at t at h ∙ ap (λ (x : ℕ). first_line (drop at t) ∷ lines (drop x t)) (sym e)

-- No line is left.
pub lines_end : (t : List ℕ) (at : ℕ) → length t ≤ at → lines (drop at t) ≡ []
unfolding lines
lines_end t at h = rw (drop_of_length-le t h)

-- A line has a byte, and no more than the text.
pub first_some : (t : List ℕ) → 0 < length t → 1 ≤ length (first_line t)
unfolding first_line
first_some [] h = absurd (omega arith)
first_some (b ∷ t) h = omega arith

pub first_within : (t : List ℕ) → length (first_line t) ≤ length t
unfolding first_line
first_within [] = omega arith
first_within (b ∷ t) = go (eqb b 10) (first_within t)
  where
    go : (c : Bool) → length (first_line t) ≤ length t → suc (length (cond c [] (first_line t))) ≤ suc (length t)
    go true h = omega arith
    go false h = omega arith

-- A line of the text ends inside it.
pub line_inside : (t : List ℕ) (at : ℕ) → at ≤ length t → at + length (first_line (drop at t)) ≤ length t
line_inside t at h = omega (arith, first_within (drop at t), length-drop at t)

-- ---- the first byte

-- A line begins as the text does.
pub first_byte : (c : ℕ) (t : List ℕ) → first_byte_is c t ≡ first_byte_is c (first_line t)
unfolding first_byte_is first_line
first_byte c [] = refl
first_byte c (b ∷ t) = refl

byte_here : (t : List ℕ) (at b : ℕ) → at < length t → eqb (get_or t at 0) b ≡ first_byte_is b (drop at t)
unfolding first_byte_is
byte_here t at b h = rw (drop-cons t at 0 h)

byte_none : (t : List ℕ) (at b : ℕ) → length t ≤ at → false ≡ first_byte_is b (drop at t)
unfolding first_byte_is
byte_none t at b h = rw (drop_of_length-le t h)

-- The byte at a place, as `get` and a test on it say it.
pub byte_got : (t : List ℕ) (at b : ℕ) (o : Option (Bor ℕ)) (r : Bool) → MatchOption o (length t ≤ at) (λ x. (at < length t) × HoldsAt (λ y. x.now ≡ y) t at)
    → MatchOption o (r ≡ false) (λ x. r ≡ eqb x.now b) → r ≡ first_byte_is b (drop at t)
byte_got t at b None r h g = g ∙ byte_none t at b h
byte_got t at b (Some x) r h g = g ∙ ap (λ (y : ℕ). eqb y b) (h.1 0) ∙ byte_here t at b h.0

-- LF is next where the first byte is LF.
pub lf_is_next : (t : List ℕ) → first_byte_is 10 t ≡ lf_next t
unfolding first_byte_is lf_next
lf_is_next [] = refl
lf_is_next (b ∷ t) = refl

-- ---- the end of a line

module _ (t : List ℕ) (i : ℕ) where
  -- The place behind the line is behind this LF.
  lf_here : i < length t → get_or t i 0 ≡ 10 → i + length (first_line (drop i t)) ≡ i + 1
  unfolding first_line
  lf_here h e = rw (drop-cons t i 0 h, eq-eqb (get_or t i 0) 10 e)

  lf_later : i < length t → (get_or t i 0 ≡ 10 → ⊥) → i + length (first_line (drop i t)) ≡ i + 1 + length (first_line (drop (i + 1) t))
  unfolding first_line
  lf_later h e = rw (drop-cons t i 0 h, ne_eqb (get_or t i 0) 10 e, add-one i) (omega arith)

  pub lf_none : length t ≤ i → i + length (first_line (drop i t)) ≡ i
  unfolding first_line
  lf_none h = rw (drop_of_length-le t h) (omega arith)

stretch : (t : List ℕ) (n i : ℕ) → i + n ≤ length t → ((j : ℕ) → i ≤ j → j < i + n → get_or t j 0 ≡ 10 → ⊥)
    → i + length (first_line (drop i t)) ≡ i + n + length (first_line (drop (i + n) t))
stretch t zero i h b = let e : i + 0 ≡ i = omega arith in rw e
stretch t (suc n) i h b =
    let e : i + suc n ≡ i + 1 + n = omega arith in
    lf_later t i (omega arith) (b i (omega arith) (omega arith))
    ∙ stretch t n (i + 1) (omega arith) (λ j x y. b j (omega arith) (omega arith))
    ∙ ap (λ (x : ℕ). x + length (first_line (drop x t))) (sym e)

-- Behind a stretch without LF the line ends where it does from the stretch's start.
line_behind : (t : List ℕ) (i e : ℕ) → NoLf t i e → i ≤ length t → i + length (first_line (drop i t)) ≡ e + length (first_line (drop e t))
line_behind t i e N h =
    let n : i + (e - i) ≡ e = omega (arith, N.on) in
    let g = N.inside h in
    stretch t (e - i) i (omega arith) (λ j x y. N.bytes j x (omega arith)) ∙ ap (λ (x : ℕ). x + length (first_line (drop x t))) n

-- So the place behind a line is behind its LF, or the text's end.
module _ (t : List ℕ) (from e : ℕ) (some : from < length t) (E : LineEnd t from e) where
  behind : from + length (first_line (drop from t)) ≡ e + length (first_line (drop e t))
  behind = line_behind t from e E.none_before (omega (arith, some))

  pub after_lf : e < length t → e + 1 ≡ from + length (first_line (drop from t))
  after_lf h = sym (behind ∙ lf_here t e h (E.there h))

  pub after_text : length t ≤ e → e ≡ from + length (first_line (drop from t))
  after_text h = sym (behind ∙ lf_none t e h)

-- A text's first line is the text's front of that length.
pub first_is_front : (t : List ℕ) → first_line t ≡ take (length (first_line t)) t
unfolding first_line
first_is_front [] = refl
first_is_front (b ∷ t) = go (eqb b 10) (first_is_front t)
  where
    go : (c : Bool) → first_line t ≡ take (length (first_line t)) t → b ∷ cond c [] (first_line t) ≡ b ∷ take (length (cond c [] (first_line t))) t
    go true h = refl
    go false h = ap (λ (l : List ℕ). b ∷ l) h

-- ---- all lines of a text

-- A line that ends in LF and has no other, and one that has none.
pub data Ended : List ℕ → Type 0 where
  lf : Ended (10 ∷ [])
  more : {b c : ℕ} {l : List ℕ} → (b ≡ 10 → ⊥) → Ended (c ∷ l) → Ended (b ∷ c ∷ l)

pub data Open : List ℕ → Type 0 where
  done : Open []
  more : {b : ℕ} {l : List ℕ} → (b ≡ 10 → ⊥) → Open l → Open (b ∷ l)

-- Lines of which the last alone may lack its end.
pub data Lines : List (List ℕ) → Type 0 where
  none_left : Lines []
  last : {l : List ℕ} → Open l → Lines (l ∷ [])
  then : {l : List ℕ} {ls : List (List ℕ)} → Ended l → Lines ls → Lines (l ∷ ls)

joined-on_first : (b : ℕ) (ls : List (List ℕ)) → joined (on_first b ls) ≡ b ∷ joined ls
unfolding joined on_first
joined-on_first b [] = refl
joined-on_first b (l ∷ ls) = refl

-- The lines, joined, are the text.
pub joined-lines : (f : List ℕ) → joined (lines f) ≡ f
unfolding joined lines
joined-lines [] = refl
joined-lines (b ∷ bs) = go (eqb b 10) (joined-lines bs)
  where
    go : (t : Bool) → joined (lines bs) ≡ bs → joined (cond t ((b ∷ []) ∷ lines bs) (on_first b (lines bs))) ≡ b ∷ bs
    go true e = ap (λ (x : List ℕ). b ∷ x) e
    go false e = joined-on_first b (lines bs) ∙ ap (λ (x : List ℕ). b ∷ x) e

-- A byte more in front of a line that ends in LF.
pub ended_more : {b : ℕ} {l : List ℕ} → (b ≡ 10 → ⊥) → Ended l → Ended (b ∷ l)
ended_more ne lf = more ne lf
ended_more ne (more ne' E) = more ne (more ne' E)

open_on_first : (b : ℕ) (ls : List (List ℕ)) → (b ≡ 10 → ⊥) → Lines ls → Lines (on_first b ls)
unfolding on_first
open_on_first b [] ne L = last (more ne done)
open_on_first b (l ∷ []) ne (last O) = last (more ne O)
open_on_first b (l ∷ ls) ne (then E L) = then (ended_more ne E) L

-- The lines of a text are of this form.
pub lines-good : (f : List ℕ) → Lines (lines f)
unfolding lines
lines-good [] = none_left
lines-good (b ∷ bs) = go (eqb b 10) refl (lines-good bs)
  where
    go : (t : Bool) → eqb b 10 ≡ t → Lines (lines bs) → Lines (cond t ((b ∷ []) ∷ lines bs) (on_first b (lines bs)))
    go true e L = let same : b ≡ 10 = eqb-true b 10 e in rw same (then lf L)
    go false e L = open_on_first b (lines bs) (eqb-false b 10 e) L

-- A line that ends in LF, in front of a text, is the first of the lines, and the text gives the others; alone it is the only one.
pub lines_of : {l : List ℕ} → Ended l → (rest : List ℕ) → lines (l ++ rest) ≡ l ∷ lines rest
unfolding lines on_first
lines_of lf rest = refl
lines_of (more {b} ne E) rest = rw (ne_eqb b 10 ne, lines_of E rest)

pub lines-last : {l : List ℕ} → Ended l → lines l ≡ l ∷ []
unfolding lines
lines-last {l} E = ap lines (sym (append-nil l)) ∙ lines_of E []
