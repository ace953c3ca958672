-- The text of a line, its bytes without the end: where it ends, by the line's last two bytes. By induction over lines that end in LF and lines that do not.
use Rattle.std.proofs.Common.{◌≡◌, refl, sym, ap, ◌∙◌, Bool, true, false, cond, ◌&&◌, ◌||◌, true≢false, List, [], ◌∷◌, ◌++◌, ◌⊎◌, inl, inr, ⊎_elim, ℕ, zero, suc, ◌+◌, ◌-◌, ◌≤◌, ◌<◌, arith, length, take, drop, get_or, length-append, take-take, eqb, eqb-true, eq-eqb, ne_eqb}
use mathlib.Core.Bool.{and-false}
use Rattle.std.specs.List.{ends_with}
use Rattle.std.proofs.lemmas.Bool.Decides.{Decides-eqb}
use Rattle.std.proofs.lemmas.List.{get_or-append-add}
use Rattle.std.proofs.lemmas.List.Prefix.{end_from_reads}
use Rattle.std.proofs.lemmas.Slice.Eq.{ends_is}
use borrow.Author.Tests.{eqb-false}
use Rattle.lines.specs.Lines.{lf_next, text_of}
use Rattle.lines.specs.Needs.{first_line}
use Rattle.lines.proofs.Lines.{Ended, Open, ended_more, first_is_front}
use Rattle.lines.proofs.Lines.Ended.{lf, more}
use Rattle.lines.proofs.Lines.Open.{done, more as free}

-- ---- a line ends in LF, or has none

first_kind : (t : List ℕ) → Ended (first_line t) ⊎ Open (first_line t)
unfolding first_line
first_kind [] = inr done
first_kind (b ∷ t) = go (eqb b 10) refl (first_kind t)
  where
    go : (c : Bool) → eqb b 10 ≡ c → Ended (first_line t) ⊎ Open (first_line t) → Ended (b ∷ cond c [] (first_line t)) ⊎ Open (b ∷ cond c [] (first_line t))
    go true e k = let same : b ≡ 10 = eqb-true b 10 e in rw same (inl lf)
    go false e k = ⊎_elim (λ E. inl (ended_more (eqb-false b 10 e) E)) (λ O. inr (free (eqb-false b 10 e) O)) k

ended_some : {l : List ℕ} → Ended l → 1 ≤ length l
ended_some lf = omega arith
ended_some (more ne E) = omega arith

ended_last : {l : List ℕ} → Ended l → (n : ℕ) → n + 1 ≡ length l → get_or l n 0 ≡ 10
ended_last lf zero e = refl
ended_last lf (suc n) e = absurd (omega arith)
ended_last (more ne E) zero e = absurd (omega arith)
ended_last (more ne E) (suc n) e = ended_last E n (omega arith)

open_last : {l : List ℕ} → Open l → (n : ℕ) → n + 1 ≡ length l → get_or l n 0 ≡ 10 → ⊥
open_last done n e h = omega arith
open_last (free ne O) zero e h = ne h
open_last (free ne O) (suc n) e h = open_last O n (omega arith) h

open_next : {l : List ℕ} → Open l → lf_next l ≡ false
unfolding lf_next
open_next done = refl
open_next (free {b} ne O) = ne_eqb b 10 ne

open_text : {l : List ℕ} → Open l → text_of l ≡ l
unfolding text_of
open_text done = refl
open_text (free {b} {l} ne O) = rw (ne_eqb b 10 ne, open_next O, and-false (eqb b 13)) (ap (λ (x : List ℕ). b ∷ x) (open_text O))

-- A byte other than LF before one other than LF is one of the text.
pub text_on : (b : ℕ) (m : List ℕ) → (b ≡ 10 → ⊥) → lf_next m ≡ false → text_of (b ∷ m) ≡ b ∷ text_of m
unfolding text_of
text_on b m ne e = rw (ne_eqb b 10 ne, e, and-false (eqb b 13))

pub no_lf : (c : ℕ) (m : List ℕ) → (c ≡ 10 → ⊥) → lf_next (c ∷ m) ≡ false
unfolding lf_next
no_lf c m ne = ne_eqb c 10 ne

crlf_text : {l : List ℕ} → Ended l → (n : ℕ) → n + 2 ≡ length l → get_or l n 0 ≡ 13 → length (text_of l) ≡ n
unfolding text_of lf_next
crlf_text lf n e h = absurd (omega arith)
crlf_text (more {b} ne lf) zero e h = rw (ne_eqb b 10 ne, eq-eqb b 13 h)
crlf_text (more {b} ne lf) (suc n) e h = absurd (omega arith)
crlf_text (more {b} ne (more {b = c} ne' E)) zero e h = absurd (omega arith)
crlf_text (more {b} ne (more {b = c} {c = d} {l = l} ne' E)) (suc n) e h =
    ap length (text_on b (c ∷ d ∷ l) ne (no_lf c (d ∷ l) ne')) ∙ ap suc (crlf_text (more ne' E) n (omega arith) h)

lf_text : {l : List ℕ} → Ended l → (n : ℕ) → n + 1 ≡ length l → ((m : ℕ) → m + 2 ≡ length l → get_or l m 0 ≡ 13 → ⊥) → length (text_of l) ≡ n
unfolding text_of lf_next
lf_text lf n e h = omega arith
lf_text (more {b} ne lf) n e h = rw (ne_eqb b 10 ne, ne_eqb b 13 (h 0 refl)) (omega arith)
lf_text (more {b} ne (more {b = c} ne' E)) zero e h = absurd (omega arith)
lf_text (more {b} ne (more {b = c} {c = d} {l = l} ne' E)) (suc n) e h =
    ap length (text_on b (c ∷ d ∷ l) ne (no_lf c (d ∷ l) ne')) ∙ ap suc (lf_text (more ne' E) n (omega arith) (λ m z g. h (suc m) (omega arith) g))

-- ---- a text as a part of the file

-- A line's text is its front.
text_is_front : (l : List ℕ) → (text_of l ≡ take (length (text_of l)) l) × (length (text_of l) ≤ length l)
unfolding text_of
text_is_front [] = (refl, omega arith)
text_is_front (b ∷ l) = go (eqb b 10 || (eqb b 13 && lf_next l)) (text_is_front l)
  where
    go : (c : Bool) → (text_of l ≡ take (length (text_of l)) l) × (length (text_of l) ≤ length l)
        → (cond c [] (b ∷ text_of l) ≡ take (length (cond c [] (b ∷ text_of l))) (b ∷ l)) × (length (cond c [] (b ∷ text_of l)) ≤ suc (length l))
    go true h = (refl, omega arith)
    go false h = (ap (λ (x : List ℕ). b ∷ x) h.0, omega arith)

pub text_short : (l : List ℕ) → length (text_of l) ≤ length l
text_short l = (text_is_front l).1

module _ (f : List ℕ) (from : ℕ) where
  -- The line that starts there.
  abbrev line : List ℕ
  line = first_line (drop from f)

  -- The text of the line from a place on, as a part of the file.
  pub text_is_part : (to : ℕ) → to ≡ from + length (text_of line) → text_of line ≡ take (to - from) (drop from f)
  text_is_part to e =
      let h = text_is_front line in
      let n : to - from ≡ length (text_of line) = omega arith in
      h.0 ∙ ap (take (length (text_of line))) (first_is_front (drop from f))
      ∙ take-take (length (text_of line)) (length line) (drop from f) h.1
      ∙ ap (λ (x : ℕ). take x (drop from f)) (sym n)

-- ---- how a line ends, by what its last bytes are

-- A list that ends with p holds p behind its front, and a list that holds it there ends with it.
ends_at : (l p : List ℕ) → ends_with eqb l p ≡ true → (length p ≤ length l) × ((i : ℕ) → get_or l (length l - length p + i) 0 ≡ get_or p i 0)
ends_at l p e =
    let front : List ℕ = take (length l - length p) l in
    let whole : l ≡ front ++ p = (ends_is Decides-eqb l p (ends_with eqb l p) refl).0 e in
    let sizes : length l ≡ length front + length p = ap length whole ∙ length-append front p in
    let here : length l - length p ≡ length front = omega arith in
    (omega arith, λ i. ap (λ (x : ℕ). get_or l (x + i) 0) here ∙ ap (λ (x : List ℕ). get_or x (length front + i) 0) whole ∙ get_or-append-add front p i 0)

ends_not : (l p : List ℕ) → ends_with eqb l p ≡ false → length p ≤ length l → ((i : ℕ) → i < length p → get_or l (length l - length p + i) 0 ≡ get_or p i 0) → ⊥
ends_not l p e h same =
    true≢false (sym ((ends_is Decides-eqb l p (ends_with eqb l p) refl).1 (take (length l - length p) l) (end_from_reads 0 l p h same)) ∙ e)

module _ (t : List ℕ) where
  abbrev whole_line : List ℕ
  whole_line = first_line t

  -- "LF or CR LF", one behind the other.
  text_crlf : ends_with eqb whole_line (13 ∷ 10 ∷ []) ≡ true → length (text_of whole_line) + 2 ≡ length whole_line
  text_crlf e =
      let at = ends_at whole_line (13 ∷ 10 ∷ []) e in
      let n : length whole_line - 2 + 0 ≡ length whole_line - 2 = omega arith in
      let ended : Ended whole_line = ⊎_elim (λ E. E) (λ O. absurd (open_last O (length whole_line - 2 + 1) (omega (arith, at.0)) (at.1 1))) (first_kind t) in
      omega (arith, at.0, crlf_text ended (length whole_line - 2) (omega (arith, at.0)) (ap (λ (x : ℕ). get_or whole_line x 0) (sym n) ∙ at.1 0))

  text_lf : ends_with eqb whole_line (13 ∷ 10 ∷ []) ≡ false → ends_with eqb whole_line (10 ∷ []) ≡ true → length (text_of whole_line) + 1 ≡ length whole_line
  text_lf other e =
      let at = ends_at whole_line (10 ∷ []) e in
      let ended : Ended whole_line = ⊎_elim (λ E. E) (λ O. absurd (open_last O (length whole_line - 1 + 0) (omega (arith, at.0)) (at.1 0))) (first_kind t) in
      omega (arith, at.0, lf_text ended (length whole_line - 1) (omega (arith, at.0)) (λ m z g. ends_not whole_line (13 ∷ 10 ∷ []) other (omega arith) (pair m z g ended)))
    where
      pair : (m : ℕ) → m + 2 ≡ length whole_line → get_or whole_line m 0 ≡ 13 → Ended whole_line → (i : ℕ) → i < 2
          → get_or whole_line (length whole_line - 2 + i) 0 ≡ get_or (13 ∷ 10 ∷ []) i 0
      pair m z g E zero h = let n : length whole_line - 2 + 0 ≡ m = omega arith in rw n g
      pair m z g E (suc zero) h = ended_last E (length whole_line - 2 + 1) (omega arith)
      pair m z g E (suc (suc i)) h = absurd (omega arith)

  -- A last line without LF, and no line.
  text_open : ends_with eqb whole_line (10 ∷ []) ≡ false → length (text_of whole_line) ≡ length whole_line
  text_open other = ⊎_elim (λ E. absurd (ends_not whole_line (10 ∷ []) other (some E) (last E))) (λ O. ap length (open_text O)) (first_kind t)
    where
      some : Ended whole_line → 1 ≤ length whole_line
      some E = ended_some E

      last : Ended whole_line → (i : ℕ) → i < 1 → get_or whole_line (length whole_line - 1 + i) 0 ≡ get_or (10 ∷ []) i 0
      last E zero h = ended_last E (length whole_line - 1 + 0) (omega (arith, ended_some E))
      last E (suc i) h = absurd (omega arith)

-- ---- where the text of a line ends, by the line as a part of the file, of which the place behind it is known

module _ (f : List ℕ) (from after : ℕ) (e : after ≡ from + length (first_line (drop from f))) where
  abbrev line_part : List ℕ
  line_part = take (after - from) (drop from f)

  part_is_line : line_part ≡ first_line (drop from f)
  part_is_line =
      let n : after - from ≡ length (first_line (drop from f)) = omega arith in
      ap (λ (k : ℕ). take k (drop from f)) n ∙ sym (first_is_front (drop from f))

  pub end_crlf : true ≡ ends_with eqb line_part (13 ∷ 10 ∷ []) → after - 2 ≡ from + length (text_of (first_line (drop from f)))
  end_crlf x = let t = rw part_is_line at (sym x) in omega (arith, text_crlf (drop from f) t)

  pub end_lf : false ≡ ends_with eqb line_part (13 ∷ 10 ∷ []) → true ≡ ends_with eqb line_part (10 ∷ [])
      → after - 1 ≡ from + length (text_of (first_line (drop from f)))
  end_lf x y = let s = rw part_is_line at (sym x) in let t = rw part_is_line at (sym y) in omega (arith, text_lf (drop from f) s t)

  pub end_open : false ≡ ends_with eqb line_part (10 ∷ []) → after ≡ from + length (text_of (first_line (drop from f)))
  end_open x = let t = rw part_is_line at (sym x) in omega (arith, text_open (drop from f) t)

  -- No line.
  pub end_none : after ≤ from → after ≡ from + length (text_of (first_line (drop from f)))
  end_none h = omega (arith, text_short (first_line (drop from f)))
