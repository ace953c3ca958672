-- Document 02, K7: "Writing and then loading gives the same counts; loading and then writing gives the same bytes. After a load, every list of adds and
-- withdrawals starts from the loaded counts." (`loads_what_is_written`, `writes_what_is_loaded`, and of the calls `loads_what_was_listed`, `lists_what_was_loaded`; `kept_from_loaded`); and the texts that are loaded are just the
-- listings of tables (`loads_just_the_listings`). By induction over the counts and over the lines, from the steps of one line.
use Rattle.std.proofs.Common.{◌≡◌, refl, sym, ap, ap₂, subst, ◌∙◌, Bool, true, false, cond, ◌↔◌, None, List, [], ◌∷◌, ◌++◌, append_assoc, append-nil, ℕ, zero, suc, ◌+◌, ◌-◌, ◌≤◌, ◌<◌, arith, length, take, drop, set, replicate, length-append, length-set, length-drop, drop_at, length-take-le, le-ltb}
use lib.ListN.{length-replicate, replicate-append-replicate, get_or-append}
use lib.Seq.{append_snoc, set_at}
use Rattle.laws.proofs.Buffers.{front_is, front_fits}
use Rattle.settings.specs.Grounds.{Outcome, given, ground_at, ◌or_else◌}
use Rattle.settings.specs.Settings.{settings_ground}
use Rattle.settings.proofs.Outcomes.{first_none, later_none, passed}
use Rattle.encoding.specs.Calls.{word_bytes}
use Rattle.fasta.specs.declared.Numbers.{Numbers}
use Rattle.fastq.specs.Fastq.{unless_at}
use Rattle.lines.specs.Lines.{lines}
use Rattle.lines.specs.Needs.{joined}
use Rattle.lines.proofs.Lines.{lines_of, lines-last, joined-lines}
use Rattle.survey.specs.Line.{survey_line}
use Rattle.tally_book.specs.Table.{class_count, place_of, clear_ground, Call}
use Rattle.tally_book.specs.Demand.{sum, counts, Agrees, TableCalls, Kept}
use Rattle.tally_book.proofs.Classes.{place_below}
use Rattle.tally_book.proofs.Clearing.{settings_good, places_enough}
use Rattle.tally_book.proofs.DemandThree.{kept}
use Rattle.tally_book.proofs.WordLists.{same_word_lem, word_same}
use Rattle.listing.specs.Listing.{count_line, class_line, count_lines, total_line, listing_of, listing, listing_ground, Lists}
use Rattle.listing.proofs.Lines.{counted_line}
use Rattle.listing.proofs.Lengths.{SmallCounts}
use Rattle.loading.specs.Shapes.{same_text, is_total_line, is_survey_line}
use Rattle.loading.specs.Loading.{code_in, count_in, Survey, CountOrTotal, next_after, line_fault, load_fault, load_ground, loaded_from, loaded_counts, loaded_book, Loads}
use Rattle.loading.specs.Claims.{ListingOfCounts}
use Rattle.loading.proofs.Shapes.{total_one_line}
use Rattle.loading.proofs.SurveyShapes.{survey_shape, survey_one_line}
use Rattle.loading.proofs.Steps.{passes, printed_count, count_passed, count_set, total_passed, total_sets_nothing, total_read, count_read}
use Rattle.settings.specs.Given.{the_settings}

-- ---- counts of 0

abbrev zeros : ℕ → List ℕ
zeros n = replicate n 0

-- Classes without a count have no line, and add nothing.
module _ (word : ℕ → List ℕ) (cs : List ℕ) where
  no_lines : (j q : ℕ) → count_lines word q (zeros j ++ cs) ≡ count_lines word (q + j) cs
  unfolding count_lines
  no_lines zero q = ap (λ (i : ℕ). count_lines word i cs) (omega arith)
  no_lines (suc j) q = no_lines j (suc q) ∙ ap (λ (i : ℕ). count_lines word i cs) (omega arith)

no_sum : (cs : List ℕ) (j : ℕ) → sum (zeros j ++ cs) ≡ sum cs
unfolding sum
no_sum cs zero = refl
no_sum cs (suc j) = omega (arith, no_sum cs j)

-- Small counts behind zeros are small, and so is one more count in front.
small_cons : (n : ℕ) (cs : List ℕ) → n < 4294967296 → SmallCounts cs → SmallCounts (n ∷ cs)
small_cons n cs h s zero = h
small_cons n cs h s (suc i) = s i

small_behind : (j : ℕ) (cs : List ℕ) → SmallCounts cs → SmallCounts (zeros j ++ cs)
small_behind zero cs s = s
small_behind (suc j) cs s = small_cons 0 (zeros j ++ cs) (omega arith) (small_behind j cs s)

none_small : SmallCounts []
none_small i = omega arith

-- A count at a place behind zeros.
set_behind : (u : List ℕ) (j r q n : ℕ) → length u + j ≡ q → set (u ++ zeros (j + suc r)) q n ≡ ((u ++ zeros j) ++ (n ∷ [])) ++ zeros r
set_behind u j r q n h =
    let long : length (u ++ zeros j) ≡ q = omega (arith, length-append u (zeros j), length-replicate {A = ℕ} j 0) in
    ap (λ (l : List ℕ). set l q n) (ap (λ (l : List ℕ). u ++ l) (sym (replicate-append-replicate j (suc r) 0)) ∙ sym (append_assoc u (zeros j) (zeros (suc r))))
    ∙ set_at (u ++ zeros j) 0 (zeros r) n q long
    ∙ sym (append_snoc (u ++ zeros j) n (zeros r))

module _ (letters : List ℕ) (k m : ℕ) where
  module _ (good : settings_ground (the_settings letters k m) ≡ None) where
    -- ---- what is written is loaded

    -- The text of counts from code q on: the lines of classes, and the total of these counts and those before, which add up to s.
    abbrev text_from : (q s : ℕ) (cs : List ℕ) → List ℕ
    text_from q s cs = count_lines (word_bytes (the_settings letters k m)) q cs ++ total_line (s + sum cs)

    -- It is passed, and the counts behind those in u are set to cs.
    record Taken (low q s at : ℕ) (u cs : List ℕ) : Type 0 where
      no_fault : load_fault (the_settings letters k m) (CountOrTotal low s) at (lines (text_from q s cs)) ≡ None
      sets : loaded_from (the_settings letters k m) (u ++ zeros (length cs)) (lines (text_from q s cs)) ≡ u ++ cs

    taken : (low q s at : ℕ) (u cs : List ℕ) → low ≤ q → q + length cs ≡ class_count (the_settings letters k m) → length u ≡ q → SmallCounts cs → Taken low q s at u cs
    unfolding count_lines sum
    taken low q s at u [] rises whole long small =
        let none_more : s + 0 ≡ s = omega arith in
        let one = lines-last (total_one_line s) in
        record {
          no_fault = rw (none_more, one) (total_passed letters k m low s at);
          sets = rw (none_more, one) (total_sets_nothing letters k m s (u ++ []));
        }
    taken low q s at u (zero ∷ cs) rises whole long small =
        let T = taken low (suc q) s at (u ++ (0 ∷ [])) cs (omega arith) (omega arith) (omega (arith, length-append u (0 ∷ []))) (λ i. small (suc i)) in
        let same : s + (0 + sum cs) ≡ s + sum cs = omega arith in
        record {
          no_fault = rw same T.no_fault;
          sets = rw (same, ← append_snoc u 0 (zeros (length cs))) (T.sets ∙ append_snoc u 0 cs);
        }
    taken low q s at u (suc n ∷ cs) rises whole long small =
        let P = printed_count letters k m good low q (suc n) rises (omega arith) (omega arith) (omega (arith, small 0)) in
        let l = count_line (word_bytes (the_settings letters k m) q) (suc n) in
        let T = taken (suc q) (suc q) (s + suc n) (at + length l) (u ++ (suc n ∷ [])) cs (omega arith) (omega arith) (omega (arith, length-append u (suc n ∷ [])))
        (λ i. small (suc i)) in
        let same : s + (suc n + sum cs) ≡ s + suc n + sum cs = omega arith in
        let one : lines (text_from q s (suc n ∷ cs)) ≡ l ∷ lines (text_from (suc q) (s + suc n) cs) =
        ap lines (append_assoc l (count_lines (word_bytes (the_settings letters k m)) (suc q) cs) (total_line (s + (suc n + sum cs)))
        ∙ ap (λ (x : ℕ). l ++ (count_lines (word_bytes (the_settings letters k m)) (suc q) cs ++ total_line x)) same)
        ∙ lines_of P.one_line (text_from (suc q) (s + suc n) cs) in
        record {
          no_fault = ap (load_fault (the_settings letters k m) (CountOrTotal low s) at) one ∙ count_passed letters k m good P _ s at ∙ T.no_fault;
          sets =
              ap (loaded_from (the_settings letters k m) (u ++ zeros (suc (length cs)))) one
              ∙ count_set letters k m good P _ (u ++ zeros (suc (length cs)))
              ∙ ap (λ (x : List ℕ). loaded_from (the_settings letters k m) x (lines (text_from (suc q) (s + suc n) cs)))
              (set_at u 0 (zeros (length cs)) (suc n) q long ∙ sym (append_snoc u (suc n) (zeros (length cs))))
              ∙ T.sets
              ∙ append_snoc u (suc n) cs;
        }

    -- ---- what is loaded is written

    -- Lines that are passed are the text of counts from `low` on, to which they set the places behind u.
    record Rest (low s : ℕ) (ls : List (List ℕ)) : Type 0 where
      rest : List ℕ
      long : low + length rest ≡ class_count (the_settings letters k m)
      sets : (u : List ℕ) → length u ≡ low → loaded_from (the_settings letters k m) (u ++ zeros (length rest)) ls ≡ u ++ rest
      text : joined ls ≡ text_from low s rest
      small : SmallCounts rest

    rest_of : (low s at : ℕ) (ls : List (List ℕ)) → low ≤ class_count (the_settings letters k m) → load_fault (the_settings letters k m) (CountOrTotal low s) at ls ≡ None → Rest low s ls
    unfolding load_fault loaded_from joined count_lines sum
    rest_of low s at [] h e = absurd (let z : ◌≡◌ {A = ℕ} 0 1 = cc in omega arith)
    rest_of low s at (l ∷ ls) h e = go (is_total_line l) refl (λ low' s' at'. rest_of low' s' at' ls)
      where
        go : (t : Bool) → is_total_line l ≡ t
            → ((low' s' at' : ℕ) → low' ≤ class_count (the_settings letters k m) → load_fault (the_settings letters k m) (CountOrTotal low' s') at' ls ≡ None → Rest low' s' ls)
            → Rest low s (l ∷ ls)
        go true t later =
            let (is, last) = total_read letters k m low s at l ls t e in
            let n = class_count (the_settings letters k m) - low in
            let none_more : s + sum (zeros n) ≡ s = omega (arith, ap sum (append-nil (zeros n)), no_sum [] n) in
            let no_line : count_lines (word_bytes (the_settings letters k m)) low (zeros n) ≡ [] =
            ap (count_lines (word_bytes (the_settings letters k m)) low) (sym (append-nil (zeros n))) ∙ no_lines (word_bytes (the_settings letters k m)) [] n low in
            record {
              rest = zeros n;
              long = omega (arith, length-replicate {A = ℕ} n 0);
              sets = λ u _. rw (t, length-replicate {A = ℕ} n 0);
              text = rw (none_more, no_line, last, is) (append-nil (total_line s));
              small = rw (append-nil (zeros n)) at (small_behind n [] none_small);
            }
        go false t later =
            let C = count_read letters k m good low s at l ls t e in
            let q = code_in (the_settings letters k m) l in
            let n = count_in k l in
            let R = later (suc q) (s + n) (at + length l) C.below C.later in
            let j = q - low in
            let size : length (zeros j ++ (n ∷ R.rest)) ≡ j + suc (length R.rest) =
            length-append (zeros j) (n ∷ R.rest) ∙ omega (arith, length-replicate {A = ℕ} j 0) in
            let there : low + j ≡ q = omega (arith, C.rises) in
            let total : s + sum (zeros j ++ (n ∷ R.rest)) ≡ s + n + sum R.rest = omega (arith, no_sum (n ∷ R.rest) j) in
            record {
              rest = zeros j ++ (n ∷ R.rest);
              long = omega (arith, size, there, R.long);
              sets = λ u f.
                  let more : length ((u ++ zeros j) ++ (n ∷ [])) ≡ suc q =
                  omega (arith, length-append (u ++ zeros j) (n ∷ []), length-append u (zeros j), length-replicate {A = ℕ} j 0) in
                  rw (t, size, set_behind u j (length R.rest) q n (omega arith))
                  (R.sets ((u ++ zeros j) ++ (n ∷ [])) more ∙ append_snoc (u ++ zeros j) n R.rest ∙ append_assoc u (zeros j) (n ∷ R.rest));
              text =
                  ap₂ (λ (x y : List ℕ). x ++ y) (C.is ∙ sym (counted_line (word_bytes (the_settings letters k m) q) n (λ z. omega (arith, C.some)))) R.text
                  ∙ sym (append_assoc (class_line (word_bytes (the_settings letters k m) q) n) (count_lines (word_bytes (the_settings letters k m)) (suc q) R.rest) (total_line (s + n + sum R.rest)))
                  ∙ rw (total, no_lines (word_bytes (the_settings letters k m)) (n ∷ R.rest) j low, there);
              small = small_behind j (n ∷ R.rest) (small_cons n R.rest (omega (arith, C.few)) R.small);
            }

    -- ---- whole texts

    -- The survey line, as it is printed, is passed.
    survey_passed : (ls : List (List ℕ)) → load_fault (the_settings letters k m) Survey 0 (survey_line (the_settings letters k m) ∷ ls)
        ≡ load_fault (the_settings letters k m) (CountOrTotal 0 0) (0 + length (survey_line (the_settings letters k m))) ls
    unfolding load_fault line_fault next_after unless_at
    survey_passed ls = rw (survey_shape letters k m good, same_word_lem (survey_line (the_settings letters k m)))

    -- A first line that is passed is the survey line as it is printed.
    pub survey_read : (l : List ℕ) (ls : List (List ℕ)) → load_fault (the_settings letters k m) Survey 0 (l ∷ ls) ≡ None
        → (l ≡ survey_line (the_settings letters k m)) × (load_fault (the_settings letters k m) (CountOrTotal 0 0) (0 + length l) ls ≡ None)
    unfolding load_fault line_fault next_after
    survey_read l ls e =
        let shaped = ground_at 20 (unless_at (is_survey_line l) 0) in
        let same = ground_at 21 (unless_at (same_text l (survey_line (the_settings letters k m))) 0) in
        let own = passes 21 0 (same_text l (survey_line (the_settings letters k m))) (later_none shaped same (first_none (shaped or_else same) _ e)) in
        (word_same l (survey_line (the_settings letters k m)) own, later_none (shaped or_else same) _ e)

    -- The listing of counts is passed, and gives the counts.
    listing_loads : (cs : List ℕ) → length cs ≡ class_count (the_settings letters k m) → SmallCounts cs
        → (load_fault (the_settings letters k m) Survey 0 (lines (listing_of (the_settings letters k m) cs)) ≡ None) × (loaded_counts (the_settings letters k m) (listing_of (the_settings letters k m) cs) ≡ cs)
    unfolding listing_of loaded_counts
    listing_loads cs long small =
        let T = taken 0 0 0 (0 + length (survey_line (the_settings letters k m))) [] cs (omega arith) (omega arith) refl small in
        let none_before : 0 + sum cs ≡ sum cs = omega arith in
        let one = lines_of (survey_one_line letters k m good) (count_lines (word_bytes (the_settings letters k m)) 0 cs ++ total_line (sum cs)) in
        (rw one (survey_passed _ ∙ rw none_before at T.no_fault), rw (one, ← long) (rw none_before at T.sets))

    -- A text that is passed is the listing of its counts, which are small.
    listing_read : (text : List ℕ) → load_fault (the_settings letters k m) Survey 0 (lines text) ≡ None
        → (listing_of (the_settings letters k m) (loaded_counts (the_settings letters k m) text) ≡ text) × SmallCounts (loaded_counts (the_settings letters k m) text)
    unfolding listing_of loaded_counts load_fault joined
    listing_read text e = go (lines text) (joined-lines text) e
      where
        go : (ls : List (List ℕ)) → joined ls ≡ text → load_fault (the_settings letters k m) Survey 0 ls ≡ None
            → (let cs = loaded_from (the_settings letters k m) (zeros (class_count (the_settings letters k m))) (drop 1 ls) in
            (survey_line (the_settings letters k m) ++ (count_lines (word_bytes (the_settings letters k m)) 0 cs ++ total_line (sum cs)) ≡ text) × SmallCounts cs)
        go [] j f = absurd (let z : ◌≡◌ {A = ℕ} 0 1 = cc in omega arith)
        go (l ∷ ls) j f =
            let (is, later) = survey_read l ls f in
            let R = rest_of 0 0 (0 + length l) ls (omega arith) later in
            let size : class_count (the_settings letters k m) ≡ length R.rest = omega (arith, R.long) in
            let none_before : 0 + sum R.rest ≡ sum R.rest = omega arith in
            let own : loaded_from (the_settings letters k m) (zeros (class_count (the_settings letters k m))) ls ≡ R.rest =
            ap (λ (n : ℕ). loaded_from (the_settings letters k m) (zeros n) ls) size ∙ R.sets [] refl in (
              ap (λ (cs : List ℕ). survey_line (the_settings letters k m) ++ (count_lines (word_bytes (the_settings letters k m)) 0 cs ++ total_line (sum cs))) own
                  ∙ ap₂ (λ (x y : List ℕ). x ++ y) (sym is)
                  (ap (λ (x : ℕ). count_lines (word_bytes (the_settings letters k m)) 0 R.rest ++ total_line x) (sym none_before) ∙ sym R.text)
                  ∙ j,
              subst (λ (cs : List ℕ). SmallCounts cs) (sym own) R.small,
            )

-- ---- the theorems

length-loaded : (letters : List ℕ) (k m : ℕ) (cs : List ℕ) (ls : List (List ℕ)) → length (loaded_from (the_settings letters k m) cs ls) ≡ length cs
unfolding loaded_from
length-loaded letters k m cs [] = refl
length-loaded letters k m cs (l ∷ ls) = go (is_total_line l) (length-loaded letters k m (set cs (code_in (the_settings letters k m) l) (count_in k l)) ls)
  where
    go : (t : Bool) → length (loaded_from (the_settings letters k m) (set cs (code_in (the_settings letters k m) l) (count_in k l)) ls) ≡ length (set cs (code_in (the_settings letters k m) l) (count_in k l))
        → length (cond t cs (loaded_from (the_settings letters k m) (set cs (code_in (the_settings letters k m) l) (count_in k l)) ls)) ≡ length cs
    go true h = refl
    go false h = h ∙ length-set cs (code_in (the_settings letters k m) l) (count_in k l)

-- There are as many loaded counts as classes, whatever the text.
pub loaded_length : (letters : List ℕ) (k m : ℕ) (text : List ℕ) → length (loaded_counts (the_settings letters k m) text) ≡ class_count (the_settings letters k m)
unfolding loaded_counts
loaded_length letters k m text =
    length-loaded letters k m (zeros (class_count (the_settings letters k m))) (drop 1 (lines text)) ∙ length-replicate {A = ℕ} (class_count (the_settings letters k m)) 0

-- "Writing and then loading gives the same counts": the listing of a table is not refused where a table of that size is not, and its counts are the table's.
pub written_is_loaded : (letters : List ℕ) (k m : ℕ) (t : List ℕ) (room : ℕ) → clear_ground (the_settings letters k m) (length t) ≡ None → clear_ground (the_settings letters k m) room ≡ None
    → SmallCounts (counts (the_settings letters k m) t)
    → (load_ground (the_settings letters k m) room (listing (the_settings letters k m) t) ≡ None) × (loaded_counts (the_settings letters k m) (listing (the_settings letters k m) t) ≡ counts (the_settings letters k m) t)
unfolding load_ground
written_is_loaded letters k m t room here there small =
    let long = length-take-le (class_count (the_settings letters k m)) t (places_enough letters k m (length t) here) in
    let L = listing_loads letters k m (settings_good letters k m room there) (counts (the_settings letters k m) t) long small in
    (rw there L.0, L.1)

-- What is known of a load that no ground refuses: t₀ before it, t after it.
module _ (letters : List ℕ) (k m : ℕ) (text : List ℕ) {t₀ t : List ℕ} {answer : Outcome ℕ} (no-ground : load_ground (the_settings letters k m) (length t₀) text ≡ None)
    (load : Loads (the_settings letters k m) text t₀ answer t) where
  cleared : clear_ground (the_settings letters k m) (length t₀) ≡ None
  unfolding load_ground
  cleared = first_none (clear_ground (the_settings letters k m) (length t₀)) _ no-ground

  good_text : load_fault (the_settings letters k m) Survey 0 (lines text) ≡ None
  unfolding load_ground
  good_text = later_none (clear_ground (the_settings letters k m) (length t₀)) _ no-ground

  good_settings_here : settings_ground (the_settings letters k m) ≡ None
  good_settings_here = settings_good letters k m (length t₀) cleared

  set_to : t ≡ loaded_counts (the_settings letters k m) text ++ drop (class_count (the_settings letters k m)) t₀
  set_to = load.leaves ∙ rw (no-ground, loaded_length letters k m text)

  -- The counts of the table are those of the text.
  pub counts_loaded : counts (the_settings letters k m) t ≡ loaded_counts (the_settings letters k m) text
  counts_loaded = front_is (loaded_counts (the_settings letters k m) text) _ set_to (loaded_length letters k m text)

  -- Later places are as they were, and the table is as long as it was.
  pub loaded_later : drop (class_count (the_settings letters k m)) t ≡ drop (class_count (the_settings letters k m)) t₀
  loaded_later = rw set_to (drop_at (loaded_counts (the_settings letters k m) text) (drop (class_count (the_settings letters k m)) t₀) (class_count (the_settings letters k m)) (loaded_length letters k m text))

  pub loaded_as_long : length t ≡ length t₀
  loaded_as_long =
      ap length set_to
      ∙ omega (
        arith,
        length-append (loaded_counts (the_settings letters k m) text) (drop (class_count (the_settings letters k m)) t₀),
        loaded_length letters k m text,
        length-drop (class_count (the_settings letters k m)) t₀,
        places_enough letters k m (length t₀) cleared,
      )

  -- "loading and then writing gives the same bytes"
  pub writes_what_is_loaded : listing (the_settings letters k m) t ≡ text
  writes_what_is_loaded = ap (listing_of (the_settings letters k m)) counts_loaded ∙ (listing_read letters k m good_settings_here text good_text).0

  -- The table agrees with the book that has the loaded counts for its tallies.
  pub loaded_agrees : Agrees (the_settings letters k m) t (loaded_book (the_settings letters k m) text)
  loaded_agrees =
      record {
        one_place_a_class = front_fits (loaded_counts (the_settings letters k m) text) _ set_to (loaded_length letters k m text);
        each_count_is_its_class's_tally = λ w c.
            let lt = place_below letters k m good_settings_here w c.word in
            rw set_to
            (get_or-append (loaded_counts (the_settings letters k m) text) (drop (class_count (the_settings letters k m)) t₀) 0 (place_of (the_settings letters k m) w)
            (omega (arith, loaded_length letters k m text, lt)));
      }

  -- "After a load, every list of adds and withdrawals starts from the loaded counts."
  pub kept_from_loaded : {calls : List Call} {answers : List (Outcome Numbers)} {t' : List ℕ} → TableCalls (the_settings letters k m) t calls answers t'
      → Kept (the_settings letters k m) (loaded_book (the_settings letters k m) text) t calls answers t'
  kept_from_loaded calls = kept letters k m good_settings_here (loaded_book (the_settings letters k m) text) loaded_agrees calls

-- "Writing and then loading gives the same counts": the listing of t is loaded into u₀, which has room for the classes.
pub loads_what_is_written : (letters : List ℕ) (k m : ℕ) (t : List ℕ) {u₀ u : List ℕ} {answer : Outcome ℕ} → clear_ground (the_settings letters k m) (length t) ≡ None
    → clear_ground (the_settings letters k m) (length u₀) ≡ None
    → SmallCounts (counts (the_settings letters k m) t)
    → Loads (the_settings letters k m) (listing (the_settings letters k m) t) u₀ answer u
    → (answer ≡ given (class_count (the_settings letters k m))) × (counts (the_settings letters k m) u ≡ counts (the_settings letters k m) t)
loads_what_is_written letters k m t {u₀} here there small load =
    let (no-ground, same) = written_is_loaded letters k m t (length u₀) here there small in
    (load.answers ∙ rw no-ground, counts_loaded letters k m (listing (the_settings letters k m) t) no-ground load ∙ same)

-- The same where the text is what a listing wrote: t is listed into a buffer, and what was written there is loaded into u₀.
pub loads_what_was_listed : (letters : List ℕ) (k m : ℕ) (t : List ℕ) {old new u₀ u : List ℕ} {n : ℕ} {answer : Outcome ℕ} → SmallCounts (counts (the_settings letters k m) t)
    → Lists (the_settings letters k m) t old (given n) new
    → clear_ground (the_settings letters k m) (length u₀) ≡ None
    → Loads (the_settings letters k m) (take n new) u₀ answer u
    → (answer ≡ given (class_count (the_settings letters k m))) × (counts (the_settings letters k m) u ≡ counts (the_settings letters k m) t)
unfolding listing_ground
loads_what_was_listed letters k m t {old} {new} {u₀} {u} {n} {answer} small list there load =
    let P = passed (length (listing (the_settings letters k m) t)) (listing_ground (the_settings letters k m) t (length old)) list.answers in
    let here = first_none (clear_ground (the_settings letters k m) (length t)) _ P.none_applies_lem in
    let written : new ≡ listing (the_settings letters k m) t ++ drop (length (listing (the_settings letters k m) t)) old = list.leaves ∙ rw P.none_applies_lem in
    let whole = front_is (listing (the_settings letters k m) t) _ written (sym P.value) in
    loads_what_is_written letters k m t here there small (subst (λ (x : List ℕ). Loads (the_settings letters k m) x u₀ answer u) whole load)

-- "loading and then writing gives the same bytes", of the calls: a text is loaded into t, and t is listed into a buffer that has room for the text.
pub lists_what_was_loaded : (letters : List ℕ) (k m : ℕ) (text : List ℕ) {t₀ t old new : List ℕ} {n : ℕ} {answer : Outcome ℕ}
    → Loads (the_settings letters k m) text t₀ (given n) t
    → length text ≤ length old
    → Lists (the_settings letters k m) t old answer new
    → (answer ≡ given (length text)) × (take (length text) new ≡ text)
unfolding listing_ground
lists_what_was_loaded letters k m text {t₀} {t} {old} {new} load room list =
    let no-ground = (passed (class_count (the_settings letters k m)) (load_ground (the_settings letters k m) (length t₀) text) load.answers).none_applies_lem in
    let same = writes_what_is_loaded letters k m text no-ground load in
    let open-table : clear_ground (the_settings letters k m) (length t) ≡ None = rw (loaded_as_long letters k m text no-ground load) (cleared letters k m text no-ground load) in
    let no-refusal : listing_ground (the_settings letters k m) t (length old) ≡ None = rw (open-table, same, le-ltb (length old) (length text) room) in
    let written : new ≡ listing (the_settings letters k m) t ++ drop (length (listing (the_settings letters k m) t)) old = list.leaves ∙ rw no-refusal in (
      list.answers ∙ rw (no-refusal, same),
      front_is (listing (the_settings letters k m) t) _ written (ap length same) ∙ same,
    )

-- The texts that are loaded are just the listings of tables: of counts of all classes, each a 32-bit number.
pub loads_just_the_listings : (letters : List ℕ) (k m room : ℕ) (text : List ℕ) → clear_ground (the_settings letters k m) room ≡ None
    → (load_ground (the_settings letters k m) room text ≡ None) ↔ ListingOfCounts (the_settings letters k m) text
unfolding load_ground
loads_just_the_listings letters k m room text there =
    let good = settings_good letters k m room there in (
      λ e.
          let (is, small) = listing_read letters k m good text (later_none (clear_ground (the_settings letters k m) room) _ e) in
          record { counts = loaded_counts (the_settings letters k m) text; one_a_class = loaded_length letters k m text; small = small; is = sym is },
      λ L. rw (there, L.is) (listing_loads letters k m good L.counts L.one_a_class L.small).0,
    )
