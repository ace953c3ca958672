-- What each byte of a test load is, part by part (`load_part`): a > that opens, header bytes and line ends that are skipped, letters that have a rank. From the
-- definitions of the text and of a byte's item.
use Rattle.std.proofs.Common.{◌≡◌, refl, sym, ap, ◌∙◌, Bool, true, false, cond, Option, None, Some, List, [], ◌∷◌, ◌++◌, map, append_assoc, ℕ, zero, suc, ◌+◌, ◌*◌, ◌<◌, ◌≤◌, arith, zero-mul, length, get_or, eqb, ne_eqb}
use Rattle.laws.specs.Each.{Each}
use Rattle.settings.specs.Settings.{different_capitals, rank_in}
use Rattle.settings.proofs.LetterPlaces.{in_capital, in_at, rank_at_lem}
use Rattle.encoding.specs.Words.{Ranks}
use Rattle.encoding.specs.Calls.{in_capitals}
use Rattle.texts.specs.Decimals.{decimal}
use Rattle.texts.proofs.Decimals.{decimal-each}
use Rattle.fasta.specs.declared.Item.{Item}
use Rattle.fasta.specs.declared.Item.TheVariants.{Opens, Skip, Letter}
use Rattle.fasta.specs.declared.Mode.{Mode}
use Rattle.fasta.specs.declared.Mode.TheVariants.{Start, Header, Sequence}
use Rattle.fasta.specs.File.{lf_next, line_item, item, next, items_from}
use Rattle.fasta.specs.Items.{records_in, letters_in, marks}
use Rattle.fasta.proofs.Bytes.{capital}
use Rattle.testload.specs.TestLoad.{drawn, state_after, in_lines, drawn_letters, record_text, records_from}
use Rattle.testload.proofs.Drawn.{drawn-ranks, length-drawn}

-- The settings letters of a test load, and a break before each record.
unfoldable pub load_marks : (s each records x : ℕ) → List (Option ℕ)
load_marks s each zero x = []
load_marks s each (suc records) x = (None ∷ map (λ (r : ℕ). Some r) (drawn s each x)) ++ load_marks s each records (state_after each x)

module _ (letters : List ℕ) where
  -- An item that no ground refuses and that is no foreign letter.
  pub data Sound : Item → Type 0 where
    opens : Sound Opens
    skip : Sound Skip
    letter : {b r : ℕ} → rank_in letters b ≡ Some r → Sound (Letter b)

  -- A text, read from a mode on, is as far as its rest, read from another, of so many records and letters with these marks.
  pub record Part (m : Mode) (text : List ℕ) (m' : Mode) (rest : List ℕ) (records ls : ℕ) (ms : List (Option ℕ)) : Type 0 where
    pub sound : Each Sound (items_from m' rest) → Each Sound (items_from m text)
    pub records_are : records_in (items_from m text) ≡ records + records_in (items_from m' rest)
    pub letters_are : letters_in (items_from m text) ≡ ls + letters_in (items_from m' rest)
    pub marks_are : marks (rank_in letters) (items_from m text) ≡ ms ++ marks (rank_in letters) (items_from m' rest)

  nothing : (m : Mode) (text : List ℕ) → Part m text m text 0 0 []
  nothing m text = record { sound = λ e. e; records_are = omega arith; letters_are = omega arith; marks_are = refl }

  then : {m m₁ m₂ : Mode} {text t₁ t₂ : List ℕ} {n n' n'' l l' l'' : ℕ} {ms ms' : List (Option ℕ)} → Part m text m₁ t₁ n l ms → Part m₁ t₁ m₂ t₂ n' l' ms'
      → n + n' ≡ n'' → l + l' ≡ l'' → Part m text m₂ t₂ n'' l'' (ms ++ ms')
  then {ms = ms} {ms' = ms'} p q e f =
      record {
        sound = λ z. p.sound (q.sound z);
        records_are = omega (arith, p.records_are, q.records_are);
        letters_are = omega (arith, p.letters_are, q.letters_are);
        marks_are = p.marks_are ∙ ap (λ (x : List (Option ℕ)). ms ++ x) q.marks_are ∙ sym (append_assoc ms ms' _);
      }

  -- ---- one byte

  module _ (m : Mode) (b : ℕ) (rest : List ℕ) {m' : Mode} (to : next m b ≡ m') where
    opening : item m b (lf_next rest) ≡ Opens → Part m (b ∷ rest) m' rest 1 0 (None ∷ [])
    unfolding items_from records_in letters_in marks
    opening e = record { sound = rw (e, to) (λ x. (opens, x)); records_are = rw (e, to) (omega arith); letters_are = rw (e, to) (omega arith); marks_are = rw (e, to) }

    skipped : item m b (lf_next rest) ≡ Skip → Part m (b ∷ rest) m' rest 0 0 []
    unfolding items_from records_in letters_in marks
    skipped e = record { sound = rw (e, to) (λ x. (skip, x)); records_are = rw (e, to) (omega arith); letters_are = rw (e, to) (omega arith); marks_are = rw (e, to) }

    ranked : (r : ℕ) → item m b (lf_next rest) ≡ Letter b → rank_in letters b ≡ Some r → Part m (b ∷ rest) m' rest 0 1 (Some r ∷ [])
    unfolding items_from records_in letters_in marks
    ranked r e f = record { sound = rw (e, to) (λ x. (letter f, x)); records_are = rw (e, to) (omega arith); letters_are = rw (e, to) (omega arith); marks_are = rw (e, to, f) }

  -- ---- a header line, from behind its >

  header_part : (text rest : List ℕ) → Each (λ (b : ℕ). b ≡ 10 → ⊥) text → Part Header (text ++ (10 ∷ rest)) Start rest 0 0 []
  unfolding item next
  header_part [] rest e = skipped Header 10 rest refl refl
  header_part (b ∷ text) rest e =
      then (skipped Header b (text ++ (10 ∷ rest)) (rw (ne_eqb b 10 e.0)) refl) (header_part text rest e.1) (omega arith) (omega arith)

  -- ---- lines of letters

  -- Where a letter stands before which its line has j.
  abbrev mode_at : ℕ → Mode
  mode_at zero = Start
  mode_at (suc j) = Sequence

  -- An LF behind letters ends their line.
  line_end_lem : (j : ℕ) (rest : List ℕ) → Part (mode_at (suc j)) (10 ∷ rest) Start rest 0 0 []
  unfolding item next line_item
  line_end_lem j rest = skipped Sequence 10 rest refl refl

  module _ (capitals : different_capitals letters ≡ true) where
    letter_part : (j r : ℕ) (rest : List ℕ) → r < length letters → Part (mode_at j) (get_or letters r 0 ∷ rest) Sequence rest 0 1 (Some r ∷ [])
    unfolding item next
    letter_part j r rest h = go j
      where
        b : ℕ
        b = get_or letters r 0

        within : (65 ≤ b) × (b ≤ 90)
        within = in_capital b letters capitals (in_at letters r h)

        no_lf : b ≡ 10 → ⊥
        no_lf e = omega (arith, within)

        no_header : b ≡ 62 → ⊥
        no_header e = omega (arith, within)

        rank_is : rank_in letters b ≡ Some r
        rank_is = rank_at_lem letters capitals r h

        go : (i : ℕ) → Part (mode_at i) (b ∷ rest) Sequence rest 0 1 (Some r ∷ [])
        go zero =
            ranked Start b rest (rw (ne_eqb b 10 no_lf, ne_eqb b 62 no_header)) r
            (rw (ne_eqb b 62 no_header) (sym (capital b (lf_next rest) within.0 within.1))) rank_is
        go (suc i) =
            ranked Sequence b rest (rw (ne_eqb b 10 no_lf)) r (sym (capital b (lf_next rest) within.0 within.1)) rank_is

    lines_part : (w : List ℕ) → Ranks (length letters) w → (j : ℕ) (rest : List ℕ)
        → Part (mode_at j) (in_lines j (in_capitals letters w) ++ rest) Start rest 0 (length w) (map (λ (r : ℕ). Some r) w)
    unfolding in_lines in_capitals
    lines_part [] below zero rest = nothing Start rest
    lines_part [] below (suc j) rest = rw (ne_eqb (suc j) 0 (λ e. omega arith)) (line_end_lem j rest)
    lines_part (r ∷ w) below j rest = go (eqb (suc j) 60) (lines_part w below.1 zero rest) (lines_part w below.1 (suc j) rest)
      where
        caps : List ℕ
        caps = map (λ (i : ℕ). get_or letters i 0) w

        go : (t : Bool) → Part Start (in_lines 0 caps ++ rest) Start rest 0 (length w) (map (λ (r : ℕ). Some r) w)
            → Part Sequence (in_lines (suc j) caps ++ rest) Start rest 0 (length w) (map (λ (r : ℕ). Some r) w)
            → Part (mode_at j) (get_or letters r 0 ∷ (cond t (10 ∷ in_lines 0 caps) (in_lines (suc j) caps) ++ rest)) Start rest 0 (suc (length w))
            (Some r ∷ map (λ (r : ℕ). Some r) w)
        go true next-line same_line = then (letter_part j r _ below.0) (then (line_end_lem j _) next-line refl refl) (omega arith) (omega arith)
        go false next-line same_line = then (letter_part j r _ below.0) same_line (omega arith) (omega arith)

    -- ---- records

    module _ (some_letters : 0 < length letters) where
      record_part : (each i x : ℕ) (rest : List ℕ)
          → Part Start (record_text letters each i x ++ rest) Start rest 1 each (None ∷ map (λ (r : ℕ). Some r) (drawn (length letters) each x))
      unfolding record_text drawn_letters item next
      record_part each i x rest =
          let w = drawn (length letters) each x in
          let L = in_lines 0 (in_capitals letters w) in
          let opened = opening Start 62 (decimal i ++ (10 ∷ (L ++ rest))) refl refl in
          let header = header_part (decimal i) (L ++ rest) (decimal-each (λ (b : ℕ). b ≡ 10 → ⊥) (λ d h e. omega arith) i) in
          let lines = lines_part w (drawn-ranks (length letters) each x some_letters) 0 rest in
          rw (append_assoc (62 ∷ decimal i) (10 ∷ L) rest)
          (then opened (then header lines refl refl) (omega arith) (omega (arith, length-drawn (length letters) each x)))

      pub load_part : (each records i x : ℕ)
          → Part Start (records_from letters each i records x) Start [] records (records * each) (load_marks (length letters) each records x)
      unfolding records_from load_marks
      load_part each zero i x = rw (zero-mul each) (nothing Start [])
      load_part each (suc records) i x =
          then (record_part each i x (records_from letters each (suc i) records (state_after each x))) (load_part each records (suc i) (state_after each x)) (omega arith)
          (omega arith)
