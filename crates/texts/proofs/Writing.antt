-- Texts written one after the other are one text; a text that fits, written from the start, is followed by what the buffer held. From what
-- `sets` does to a list.
use Rattle.std.proofs.Common.{◌≡◌, refl, sym, ap, ◌∙◌, ℕ, suc, ◌+◌, ◌≤◌, min, add-zero, add-suc, suc-add, zero-add, arith, Bool, true, false, List, [], ◌∷◌, ◌++◌, append_assoc, append-nil, length, drop, set, length-append, leb, leb-true, leb-false}
use lib.Seq.{sets, length-sets, sets-eq, set_out}
use Rattle.texts.specs.Decimals.{decimal}
use Rattle.texts.specs.declared.Writer.{Writer}
use Rattle.texts.specs.Needs.{top, Puts, Writes}

-- Two texts, one behind the other, are set one after the other.
pub sets_append : (p l : List ℕ) (at : ℕ) (q : List ℕ) → sets l at (p ++ q) ≡ sets (sets l at p) (at + length p) q
sets_append [] l at q = rw (add-zero at)
sets_append (b ∷ p) l at q = sets_append p (set l at b) (suc at) q ∙ (rw (add-suc at (length p), suc-add at (length p)))

-- Places past the end take nothing.
sets_out : (p l : List ℕ) (at : ℕ) → length l ≤ at → sets l at p ≡ l
sets_out [] l at h = refl
sets_out (b ∷ p) l at h = ap (λ (m : List ℕ). sets m (suc at) p) (set_out l at b h) ∙ sets_out p l (suc at) (omega arith)

-- A place above the top is past the end of every buffer, as the top is.
at_top : (l : List ℕ) (at : ℕ) (q : List ℕ) → length l ≤ top → sets l (min at top) q ≡ sets l at q
at_top l at q h = go (leb at top) refl
  where
    go : (b : Bool) → leb at top ≡ b → sets l (min at top) q ≡ sets l at q
    go true e = let m : min at top ≡ at = omega (arith, leb-true at top e) in ap (λ (x : ℕ). sets l x q) m
    go false e =
        let m : min at top ≡ top = omega (arith, leb-false at top e) in
        ap (λ (x : ℕ). sets l x q) m ∙ sets_out q l top h ∙ sym (sets_out q l at (omega (arith, leb-false at top e)))

-- A buffer keeps its length.
pub kept : {a b : List ℕ} {at r : ℕ} {p : List ℕ} → Puts a b at r p → length b ≡ length a
kept {a} {b} {at} {r} {p} P = ap length P.leaves ∙ length-sets a at p

-- No text, anywhere in a buffer.
pub puts_nothing : (out : List ℕ) (at : ℕ) → at ≤ top → length out ≤ top → Puts out out at at []
puts_nothing out at h l = record { place = omega arith; leaves = refl; bounded = l }

-- One text, and then another right behind it, in a buffer.
pub puts_then : {a b c : List ℕ} {at next r : ℕ} {p q : List ℕ} → Puts a b at next p → Puts b c next r q → Puts a c at r (p ++ q)
puts_then {a} {b} {c} {at} {next} {r} {p} {q} P Q =
    record {
      place = omega (arith, P.place, Q.place, length-append p q);
      leaves =
          Q.leaves ∙ ap (λ (x : ℕ). sets b x q) P.place ∙ at_top b (at + length p) q Q.bounded
          ∙ ap (λ (m : List ℕ). sets m (at + length p) q) P.leaves ∙ sym (sets_append p a at q);
      bounded = P.bounded;
    }

-- A text with a number behind it, and then another text, in a buffer.
pub puts_field : {a b c : List ℕ} {at next r : ℕ} (text : List ℕ) (n : ℕ) {q : List ℕ} → Puts a b at next (text ++ decimal n) → Puts b c next r q
    → Puts a c at r (text ++ (decimal n ++ q))
puts_field text n {q} P Q = rw (← append_assoc text (decimal n) q) (puts_then P Q)

-- No text, by a writer.
pub nothing : (w : Writer) → Writes w w []
nothing w = record { buffer = refl; puts = puts_nothing w.out.now w.at w.counted w.bounded }

-- One text, and then another right behind it.
pub then : {u v w : Writer} {p q : List ℕ} → Writes u v p → Writes v w q → Writes u w (p ++ q)
then P Q = record { buffer = Q.buffer ∙ P.buffer; puts = puts_then P.puts Q.puts }

-- A text with a number behind it, and then another text.
pub then_field : {u v w : Writer} (text : List ℕ) (n : ℕ) {q : List ℕ} → Writes u v (text ++ decimal n) → Writes v w q → Writes u w (text ++ (decimal n ++ q))
then_field text n {q} P Q = rw (← append_assoc text (decimal n) q) (then P Q)

-- A writer has written a text but for what is left of it: what a loop keeps that writes one.
pub record Lacks (u w : Writer) (text left : List ℕ) : Type 0 where
  pub written : List ℕ
  pub writes : Writes u w written
  pub parts : written ++ left ≡ text

pub lacks_all : (w : Writer) (text : List ℕ) → Lacks w w text text
lacks_all w text = record { written = []; writes = nothing w; parts = refl }

-- A part more.
pub lacks_less : {u v w : Writer} {text : List ℕ} (p : List ℕ) {q : List ℕ} → Lacks u v text (p ++ q) → Writes v w p → Lacks u w text q
lacks_less p {q} L P = record { written = L.written ++ p; writes = then L.writes P; parts = append_assoc L.written p q ∙ L.parts }

pub lacks_none : {u w : Writer} {text : List ℕ} → Lacks u w text [] → Writes u w text
lacks_none L = rw (← L.parts, append-nil L.written) L.writes

-- What a new writer wrote of a text stands from its buffer's start on; the buffer ends as the writer leaves it.
pub started : {v w : Writer} {out new text : List ℕ} → v.out.now ≡ out → v.at ≡ 0 → Writes v w text → new ≡ w.out.now → Puts out new 0 w.at text
started unwritten start P left = rw (left, ← unwritten, ← start) P.puts

-- A text that fits, written from the start.
pub from_start : {a b : List ℕ} {r : ℕ} {p : List ℕ} → Puts a b 0 r p → length p ≤ length a → b ≡ p ++ drop (length p) a
from_start {a} {b} {r} {p} P h = P.leaves ∙ sets-eq p a 0 (omega arith) ∙ (rw (zero-add (length p)))

-- The place after a text that was written from the start is its length.
pub measured : {a b : List ℕ} {r : ℕ} {p : List ℕ} → Puts a b 0 r p → length p ≤ top → r ≡ length p
measured P h = omega (arith, P.place)
