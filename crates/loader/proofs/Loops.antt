-- The loops over a text's lines: what its first line does to the first fault and to the counts (`fault_here`, `fault_later`, `counts_end`, `counts_next`), and
-- what is left where no line is. From the laws of lines and the definitions of loading.
use Rattle.std.proofs.Common.{◌≡◌, sym, ap, ◌∙◌, true, false, List, [], ℕ, ◌+◌, ◌<◌, length, take, drop, length-drop, arith, set, None, Some}
use Rattle.settings.specs.Grounds.{Ground}
use Rattle.settings.specs.Given.{Given}
use Rattle.lines.specs.Lines.{lines}
use Rattle.lines.specs.Needs.{first_line}
use Rattle.lines.proofs.Lines.{lines_next, first_some, first_within, first_is_front}
use Rattle.loading.specs.Shapes.{is_total_line}
use Rattle.loading.specs.declared.Next.{Next}
use Rattle.loading.specs.Loading.{code_in, count_in, next_after, line_fault, missing, load_fault, loaded_from}
use Rattle.loader.specs.Needs.{FirstLine}

-- A text that is not empty, cut behind its first line.
pub first_line_cut : (text : List ℕ) {line after : List ℕ} {n : ℕ} → 0 < length text → n ≡ 0 + length (first_line (drop 0 text)) → line ≡ take n text
    → after ≡ drop n text → FirstLine text line after
first_line_cut text {line} {after} {n} h e line_is after_is =
    let place : n ≡ length (first_line text) = omega (arith, e) in
    let same : line ≡ first_line text = line_is ∙ ap (λ (x : ℕ). take x text) place ∙ sym (first_is_front text) in
    record {
      turn = lines_next text 0 n e h ∙ rw (same, after_is);
      parts = omega (arith, ap length same, ap length after_is, first_within text, length-drop n text);
      some = omega (arith, ap length same, first_some text h);
    }

module _ {text line after : List ℕ} (F : FirstLine text line after) (settings : Given) where
  -- A fault of this line is the text's.
  pub fault_here : (next : Next) (at : ℕ) (g : Ground) → line_fault settings next at line ≡ Some g → load_fault settings next at (lines text) ≡ Some g
  unfolding load_fault
  fault_here next at g e = rw (F.turn, e)

  -- Where it has none, those of the lines behind it are.
  pub fault_later : (next next' : Next) (at : ℕ) → line_fault settings next at line ≡ None → next' ≡ next_after settings next line
      → load_fault settings next at (lines text) ≡ load_fault settings next' (at + length line) (lines after)
  unfolding load_fault
  fault_later next next' at e is = rw (F.turn, e, is)

  -- The total ends the counts, and a line before it sets one.
  pub counts_end : (cs : List ℕ) → is_total_line line ≡ true → loaded_from settings cs (lines text) ≡ cs
  unfolding loaded_from
  counts_end cs e = rw (F.turn, e)

  pub counts_next : (cs : List ℕ) → is_total_line line ≡ false
      → loaded_from settings cs (lines text) ≡ loaded_from settings (set cs (code_in settings line) (count_in settings.k line)) (lines after)
  unfolding loaded_from
  counts_next cs e = rw (F.turn, e)

-- No line is left.
module _ (settings : Given) {text : List ℕ} (e : text ≡ []) where
  pub fault_missing : (next : Next) (at : ℕ) → load_fault settings next at (lines text) ≡ missing next at
  unfolding load_fault lines
  fault_missing next at = rw e

  pub counts_done : (cs : List ℕ) → loaded_from settings cs (lines text) ≡ cs
  unfolding loaded_from lines
  counts_done cs = rw e
