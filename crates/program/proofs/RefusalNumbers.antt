-- Which refusals the program prints. Never 3: "Refusal 3 then never occurs" (document 02, K10). 19 only for lines in another order, and 13 only for inputs that
-- are neither those nor survey lines (K5). From the numbers of an add's refusals and what is proved of reading a survey line, by a test that the line of one
-- refusal passes and no other output does.
use Rattle.std.proofs.Common.{◌≡◌, refl, sym, ap, ◌∙◌, subst, Bool, true, false, ◌&&◌, Option, None, Some, List, [], ◌∷◌, ℕ, ne_eqb, eqb, ltb, length, get_or}
use mathlib.Core.Bool.{false≢true}
use native.Mathlib.Decide.{ℕ_discrete}
use Rattle.laws.specs.Each.{Each}
use Rattle.laws.proofs.Tests.{by_test}
use Rattle.settings.specs.Grounds.{Ground, Outcome, refused, ground, outcome}
use Rattle.settings.specs.Settings.{is_in, rank_in, RefusedOnlyBy}
use Rattle.settings.proofs.FirstGround.{NumberIn}
use Rattle.files.specs.File.{File, file_numbers}
use Rattle.files.specs.declared.Kind.{Kind}
use Rattle.files.specs.declared.Kind.TheVariants.{Fasta, Fastq}
use Rattle.tally_book.specs.Table.{table_full, call_ground}
use Rattle.tally_book.proofs.RefusalNumbers.{call_numbers, call_numbers_lem}
use Rattle.texts.specs.Decimals.{decimal_from, decimal}
use Rattle.survey.specs.Line.{survey_line}
use Rattle.survey.specs.Grammar.{OtherOrderInput}
use Rattle.survey.specs.Claims.{InputParts, Neither}
use Rattle.survey.specs.Reading.{read_input}
use Rattle.survey.proofs.Theorems.{other_order_only, refuses, one_of_three}
use Rattle.listing.specs.Listing.{listing_of}
use Rattle.program.specs.Program.{refused_line, cleared_table, answer_text, survey_text, program_file, line_text, program_text}
use Rattle.settings.specs.Given.{the_settings}

-- (refused 19 .. has an r in its place 1 and its number from place 9 on: whether a text has that r, and there the bytes a and b. Of a number of one digit the
-- second is the space behind it.
shows : (a b : ℕ) → List ℕ → Bool
shows a b text = eqb (get_or text 1 0) 114 && (eqb (get_or text 9 0) a && eqb (get_or text 10 0) b)

-- Of the numbers in a list none shows these bytes.
abbrev ShownByNone : (a b : ℕ) → List ℕ → Type 0
ShownByNone a b ns = Each (λ (n : ℕ). (p : ℕ) → shows a b (refused_line (n, p)) ≡ false) ns

module _ (a b : ℕ) where
  by_none : (ns : List ℕ) → ShownByNone a b ns → (g : Ground) → NumberIn ns g → shows a b (refused_line g) ≡ false
  unfolding is_in
  by_none [] each g h = absurd (false≢true h)
  by_none (n ∷ ns) each g h =
      elim (ℕ_discrete n g.0) as (λ _. shows a b (refused_line g) ≡ false) [
        | yes e ↦ subst (λ (i : ℕ). shows a b (refused_line (i, g.1)) ≡ false) e (each.0 g.1)
        | no ne ↦ by_none ns each.1 g (rw (ne_eqb n g.0 ne) at h)
      ]

  -- Where no refusal of an add shows them, nothing that is printed for settings and a file does.
  module _ (of-an-add : (kind : Kind) → ShownByNone a b (call_numbers 12 kind)) (letters : List ℕ) (k m : ℕ) (file : File) where
    answered : (g : Option Ground) → RefusedOnlyBy (call_numbers 12 file.kind) g
        → shows a b (answer_text (the_settings letters k m) file (outcome g (file_numbers (rank_in letters) k file))) ≡ false
    unfolding shows listing_of survey_line
    answered None h = refl
    answered (Some g) h = by_none (call_numbers 12 file.kind) (of-an-add file.kind) g (h g refl)

    of_a_survey : shows a b (survey_text (the_settings letters k m) file) ≡ false
    unfolding survey_text
    of_a_survey =
        let full = table_full (the_settings letters k m) cleared_table file in
        answered (call_ground (the_settings letters k m) (length cleared_table) file (ground 12 full)) (call_numbers_lem letters k m (length cleared_table) file 12 full)

  -- If 14 does not show them either, they tell which answer the reader gave: one of the two whose refusal shows them.
  module _ (of-an-add : (kind : Kind) → ShownByNone a b (call_numbers 12 kind)) (of_length : shows a b (refused_line (14, 0)) ≡ false)
      (Q : Outcome InputParts → Type 0) (no_survey : shows a b (refused_line (13, 0)) ≡ true → Q (refused (13, 0)))
      (other-order : shows a b (refused_line (19, 0)) ≡ true → Q (refused (19, 0))) (input : List ℕ) where
    of_a_line : shows a b (line_text (read_input input)) ≡ true → Q (read_input input)
    unfolding line_text
    of_a_line =
        one_of_three input (λ (o : Outcome InputParts). shows a b (line_text o) ≡ true → Q o)
        (λ p z. absurd (false≢true (sym (of_a_survey of-an-add p.letters p.k p.mirror (program_file p.file)) ∙ z))) no_survey other-order

    only_by : shows a b (program_text input) ≡ true → Q (read_input input)
    unfolding program_text
    only_by =
        by_test (λ (text : List ℕ). shows a b text ≡ true → Q (read_input input)) (ltb 65536 (length input))
        (λ _ z. absurd (false≢true (sym of_length ∙ z))) (λ _. of_a_line)

-- ---- 3

no_add_refused_3 : (kind : Kind) → ShownByNone 51 32 (call_numbers 12 kind)
unfolding shows refused_line decimal decimal_from
no_add_refused_3 Fasta = (λ _. refl, (λ _. refl, (λ _. refl, (λ _. refl, (λ _. refl, (λ _. refl, (λ _. refl, (λ _. refl, tt))))))))
no_add_refused_3 Fastq =
    (λ _. refl, (λ _. refl, (λ _. refl, (λ _. refl, (λ _. refl, (λ _. refl, (λ _. refl, (λ _. refl, (λ _. refl, (λ _. refl, tt))))))))))

-- For no input does the program print (refused 3 P), whatever P is.
pub never_prints_refusal_3 : (input : List ℕ) (p : ℕ) → program_text input ≡ refused_line (3, p) → ⊥
unfolding shows refused_line decimal decimal_from
never_prints_refusal_3 input p e =
    only_by 51 32 no_add_refused_3 refl (λ (_ : Outcome InputParts). ⊥) (λ z. false≢true z) (λ z. false≢true z) input (ap (shows 51 32) e)

-- ---- 19 and 13

no_add_refused_19 : (kind : Kind) → ShownByNone 49 57 (call_numbers 12 kind)
unfolding shows refused_line decimal decimal_from
no_add_refused_19 Fasta = (λ _. refl, (λ _. refl, (λ _. refl, (λ _. refl, (λ _. refl, (λ _. refl, (λ _. refl, (λ _. refl, tt))))))))
no_add_refused_19 Fastq =
    (λ _. refl, (λ _. refl, (λ _. refl, (λ _. refl, (λ _. refl, (λ _. refl, (λ _. refl, (λ _. refl, (λ _. refl, (λ _. refl, tt))))))))))

-- Where the program prints (refused 19 P), the forms of the input's line stand in another order.
pub prints_19_only : (input : List ℕ) (p : ℕ) → program_text input ≡ refused_line (19, p) → OtherOrderInput input
unfolding shows refused_line decimal decimal_from
prints_19_only input p e =
    other_order_only input
    (only_by 49 57 no_add_refused_19 refl (λ (o : Outcome InputParts). o ≡ refused (19, 0)) (λ z. absurd (false≢true z)) (λ _. refl) input (ap (shows 49 57) e))

no_add_refused_13 : (kind : Kind) → ShownByNone 49 51 (call_numbers 12 kind)
unfolding shows refused_line decimal decimal_from
no_add_refused_13 Fasta = (λ _. refl, (λ _. refl, (λ _. refl, (λ _. refl, (λ _. refl, (λ _. refl, (λ _. refl, (λ _. refl, tt))))))))
no_add_refused_13 Fastq =
    (λ _. refl, (λ _. refl, (λ _. refl, (λ _. refl, (λ _. refl, (λ _. refl, (λ _. refl, (λ _. refl, (λ _. refl, (λ _. refl, tt))))))))))

-- Where it prints (refused 13 P), the input starts neither with a survey line nor with one in another order.
pub prints_13_only : (input : List ℕ) (p : ℕ) → program_text input ≡ refused_line (13, p) → Neither input
unfolding shows refused_line decimal decimal_from
prints_13_only input p e =
    refuses input
    (only_by 49 51 no_add_refused_13 refl (λ (o : Outcome InputParts). o ≡ refused (13, 0)) (λ _. refl) (λ z. absurd (false≢true z)) input (ap (shows 49 51) e))
