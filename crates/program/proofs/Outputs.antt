-- The program's output for settings and a file: from what the add to the cleared table answers and leaves. Every output fits 2 MiB.
use Rattle.std.proofs.Common.{◌≡◌, refl, sym, ap, ◌∙◌, ℕ, ◌+◌, ◌-◌, ◌<◌, ◌≤◌, arith, List, ◌++◌, lt-ltb, le-ltb, length, take, drop, length-append, length-take-le, Ok}
use lib.ListN.{length-replicate}
use Rattle.settings.specs.declared.Checked.{Checked}
use Rattle.settings.specs.Grounds.{Ground, Outcome, given, refused, outcome}
use Rattle.settings.specs.Settings.{rank_in, settings_ground, settings_of}
use Rattle.settings.proofs.Outcomes.{passed, refused_on, first_none}
use Rattle.fasta.specs.declared.Numbers.{Numbers}
use Rattle.files.specs.File.{File, file_numbers}
use Rattle.tally_book.specs.Table.{class_count, places, one_more, ready_ground, table_ground, call_ground, add, table_after, Added}
use Rattle.table.proofs.CallGrounds.{ready_bad}
use Rattle.tally_book.proofs.Ready.{ready_settings, ready_room}
use Rattle.tally_book.proofs.Changes.{length_changes}
use Rattle.texts.proofs.Decimals.{decimal-length}
use Rattle.texts.specs.declared.Writer.{Writer}
use Rattle.texts.specs.Needs.{Puts, Writes}
use Rattle.texts.proofs.Writing.{measured, then}
use Rattle.survey.specs.declared.Survey.{Survey}
use Rattle.survey.specs.Claims.{of_head}
use Rattle.survey.specs.Reading.{read_input}
use Rattle.listing.specs.Listing.{listing_of}
use Rattle.listing.specs.Needs.{AllCounts, longest}
use Rattle.listing.proofs.ListingAnswers.{all_counts}
use Rattle.program.specs.Program.{file_line, refused_line, unread_line, cleared_table, answer_text, survey_text, program_file, line_text, program_text, Prints}
use Rattle.settings.specs.Given.{Given, the_settings}

-- ---- lengths

pub printed : {text old new : List ℕ} {r : ℕ} → Puts old new 0 r text → length text ≤ 2097152 → Prints text old r new
printed P h = let m = measured P (omega arith) in record { answers = m; leaves = P.leaves; short = omega (arith, m) }

pub refused_short : (g : Ground) → g.0 < 100000000000000000000 → g.1 < 100000000000000000000 → length (refused_line g) ≤ 100
unfolding refused_line
refused_short g h i = simp length-append (omega (arith, decimal-length 19 g.0 (omega arith), decimal-length 19 g.1 (omega arith)))

pub unread_short : (n : ℕ) → n < 100000000000000000000 → length (unread_line n) ≤ 100
unfolding unread_line
unread_short n h = simp length-append (omega (arith, decimal-length 19 n (omega arith)))

pub file_line_short : (n : Numbers) → n.records < 100000000000000000000 → n.letters < 100000000000000000000 → n.foreign < 100000000000000000000
    → n.edge < 100000000000000000000
    → n.windows < 100000000000000000000
    → length (file_line n) ≤ 200
unfolding file_line
file_line_short n records letters foreign edge windows =
    simp length-append
    (omega (
      arith,
      decimal-length 19 n.records (omega arith),
      decimal-length 19 n.letters (omega arith),
      decimal-length 19 n.foreign (omega arith),
      decimal-length 19 n.edge (omega arith),
      decimal-length 19 n.windows (omega arith),
    ))

-- ---- the add to the cleared table

length-cleared : length cleared_table ≡ 16384
unfolding cleared_table
length-cleared = length-replicate {A = ℕ} 16384 0

module _ (settings : Given) (file : File) where
  pub settings_text : (f : Ground) → refused f ≡ outcome (settings_ground settings) (settings_of settings) → survey_text settings file ≡ refused_line f
  unfolding survey_text call_ground
  settings_text f e =
      ap (answer_text settings file)
      (sym (refused_on f (settings_of settings) (file_numbers (rank_in settings.letters) settings.k file) (ready_ground settings (length cleared_table) file.bytes) _
      (ready_bad settings.letters settings.k settings.mirror (length cleared_table) file.bytes f e)))

  answered_text : {t t' : List ℕ} {answer : Outcome Numbers} → t ≡ cleared_table → Added settings t file answer t'
      → survey_text settings file ≡ answer_text settings file answer
  unfolding survey_text
  answered_text {t} cleared A =
      let same = ap (λ (x : List ℕ). outcome (table_ground settings x (add file)) (file_numbers (rank_in settings.letters) settings.k file)) cleared in
      ap (answer_text settings file) (sym (A.answers ∙ same))

  pub refused_text : {t t' : List ℕ} {answer : Outcome Numbers} (f : Ground) → answer ≡ refused f → t ≡ cleared_table → Added settings t file answer t'
      → survey_text settings file ≡ refused_line f
  refused_text f e cleared A = answered_text cleared A ∙ ap (answer_text settings file) e

  -- A file that is taken in leaves the counts of all classes, q of them, in the table, which has room for them.
  pub record TakenIn (q : ℕ) (t' : List ℕ) : Type 0 where
    pub grown : t' ≡ table_after settings cleared_table (add file)
    pub long : q ≤ length t'
    pub all : AllCounts settings (take q t')
    pub few : q ≤ 16384

  module _ {q : ℕ} (q_is : q ≡ class_count settings) {t t' : List ℕ} {answer : Outcome Numbers} (n : Numbers) (e : answer ≡ given n)
      (cleared : t ≡ cleared_table) (A : Added settings t file answer t') where
    pub taken_in_lem : TakenIn q t'
    unfolding call_ground
    taken_in_lem =
        let no-ground = (passed (file_numbers (rank_in settings.letters) settings.k file) (table_ground settings t (add file)) (sym e ∙ A.answers)).none_applies_lem in
        let ready = first_none (ready_ground settings (length t) file.bytes) _ no-ground in
        let good = ready_settings settings.letters settings.k settings.mirror (length t) file.bytes ready in
        let room = ready_room settings.letters settings.k settings.mirror (length t) file.bytes ready in
        let grown : t' ≡ table_after settings cleared_table (add file) = A.leaves ∙ (rw (no-ground, cleared)) in
        let same : length t' ≡ 16384 = ap length grown ∙ length_changes one_more (places settings file) cleared_table ∙ length-cleared in
        let few : q ≤ 16384 = omega (arith, room, q_is, ap length cleared, length-cleared) in
        let long : q ≤ length t' = omega arith in
        record { grown = grown; long = long; all = all_counts settings.letters settings.k settings.mirror q t' good q_is (omega arith) long; few = few }

    -- The listing of its counts and then the file line are the output.
    pub taken_prints : {u v w : Writer} → length (file_line n) ≤ 200
        → length (listing_of settings (take q t')) ≤ longest (length (take q t'))
        → Writes u v (listing_of settings (take q t'))
        → Writes v w (file_line n)
        → Writes u w (survey_text settings file) × (length (survey_text settings file) ≤ 2097152)
    taken_prints small short P Q =
        let T = taken_in_lem in
        let text : survey_text settings file ≡ listing_of settings (take q t') ++ file_line n =
        answered_text cleared A ∙ ap (answer_text settings file) e
        ∙ ap (λ (t : List ℕ). listing_of settings (take (class_count settings) t) ++ file_line n) (sym T.grown)
        ∙ ap (λ (p : ℕ). listing_of settings (take p t') ++ file_line n) (sym q_is) in
        let counted = length-take-le q t' T.long in
        rw text (
          then P Q,
          omega (
            arith,
            length-append (listing_of settings (take q t')) (file_line n),
            small,
            short,
            counted,
            T.few,
          ),
        )

  -- The same of the program's call: settings that the check gave, and the cleared table.
  module _ {t t' : List ℕ} (cleared : t ≡ cleared_table) where
    pub not_added : {f : Ground} → Added settings t file (refused f) t' → survey_text settings file ≡ refused_line f
    not_added {f} A = refused_text f refl cleared A

    module _ {st : Checked} (checked : given st ≡ outcome (settings_ground settings) (settings_of settings)) {n : Numbers} (A : Added settings t file (given n) t') where
      classes_are : st.classes ≡ class_count settings
      classes_are = ap (λ (s : Checked). s.classes) (passed (settings_of settings) (settings_ground settings) checked).value

      pub counted : TakenIn st.classes t'
      counted = taken_in_lem classes_are n refl cleared A

      pub counted_prints : {u v w : Writer} → length (file_line n) ≤ 200
          → length (listing_of settings (take st.classes t')) ≤ longest (length (take st.classes t'))
          → Writes u v (listing_of settings (take st.classes t'))
          → Writes v w (file_line n)
          → Writes u w (survey_text settings file) × (length (survey_text settings file) ≤ 2097152)
      counted_prints = taken_prints classes_are n refl cleared A

-- ---- the whole input

module _ (input : List ℕ) where
  pub long_text : 65536 < length input → program_text input ≡ refused_line (14, 0)
  unfolding program_text
  long_text h = rw (lt-ltb 65536 (length input) h)

  module _ (short : length input ≤ 65536) where
    pub refusal_text : {g : Ground} → read_input input ≡ refused g → program_text input ≡ refused_line g
    unfolding program_text line_text
    refusal_text e = rw (le-ltb 65536 (length input) short, e)

    -- The letters end at the place from + len.
    pub line_text_lem : (s : Survey) → of_head input (Ok s) ≡ read_input input
        → program_text input ≡ survey_text (the_settings (take (s.from + s.len - s.from) (drop s.from input)) s.k s.mirror) (program_file (drop s.next input))
    unfolding program_text line_text
    line_text_lem s e = let n : s.from + s.len - s.from ≡ s.len = omega arith in rw (le-ltb 65536 (length input) short, ← e, n)
