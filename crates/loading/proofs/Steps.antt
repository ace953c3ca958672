-- Loading line by line: the line of a class and the total as we print them are passed (`printed_count`, `total_passed`), and a line that is passed is the one
-- that we print (`count_read`, `total_read`). From the laws of shapes and of words.
use Rattle.std.proofs.Common.{◌≡◌, refl, ap, ◌∙◌, Bool, true, false, ◌&&◌, None, List, [], ◌∷◌, ℕ, suc, ◌+◌, ◌≤◌, ◌<◌, arith, length, set, leb, leb-true, le-leb}
use mathlib.Core.Bool.{and-eq-true_iff}
use Rattle.settings.specs.Grounds.{ground_at, ◌or_else◌}
use Rattle.settings.specs.Settings.{mirror_of, settings_ground}
use Rattle.settings.proofs.Outcomes.{first_none, later_none}
use Rattle.encoding.specs.Words.{canonical}
use Rattle.encoding.specs.Calls.{ranks_of, word_bytes}
use Rattle.words.proofs.ReadAnswers.{word_bytes_length}
use Rattle.tally_book.specs.Table.{class_count}
use Rattle.tally_book.specs.Book.{same_word}
use Rattle.tally_book.proofs.Classes.{place_below}
use Rattle.tally_book.proofs.WordLists.{same_word_lem, word_same}
use Rattle.texts.specs.Decimals.{decimal}
use Rattle.listing.specs.Listing.{count_line, total_line}
use Rattle.lines.proofs.Lines.{Ended}
use Rattle.fastq.specs.Fastq.{unless_at}
use Rattle.loading.specs.Shapes.{same_text, word_in, count_shape, is_count_line, is_total_line}
use Rattle.loading.specs.Loading.{ranks_in, code_in, count_in, good_count, CountOrTotal, Nothing, next_after, line_fault, load_fault, loaded_from}
use Rattle.loading.proofs.Numbers.{decimal-is_number}
use Rattle.loading.proofs.Words.{word_is, canonical_text, text_canonical}
use Rattle.loading.proofs.Shapes.{word_in_lem, digits_in_lem, count_shape_lem, count_no_total, count_parts, count_one_line, total_shape}
use Rattle.settings.specs.Given.{the_settings}

-- A ground that does not apply has a test that passes.
pub passes : (n at : ℕ) (t : Bool) → ground_at n (unless_at t at) ≡ None → t ≡ true
unfolding unless_at
passes n at true e = refl
passes n at false e = absurd (let z : ◌≡◌ {A = ℕ} 0 1 = cc in omega arith)

module _ (letters : List ℕ) (k m : ℕ) where
  -- The total, as it is printed, is passed as the last line, and sets nothing.
  pub total_passed : (low s at : ℕ) → load_fault (the_settings letters k m) (CountOrTotal low s) at (total_line s ∷ []) ≡ None
  unfolding load_fault line_fault next_after unless_at
  total_passed low s at = rw (total_shape s, same_word_lem (total_line s))

  pub total_sets_nothing : (s : ℕ) (cs : List ℕ) → loaded_from (the_settings letters k m) cs (total_line s ∷ []) ≡ cs
  unfolding loaded_from
  total_sets_nothing s cs = rw (total_shape s)

  -- Where a total is passed, it is that of the sum, and no line follows.
  pub total_read : (low s at : ℕ) (l : List ℕ) (ls : List (List ℕ)) → is_total_line l ≡ true → load_fault (the_settings letters k m) (CountOrTotal low s) at (l ∷ ls) ≡ None
      → (l ≡ total_line s) × (ls ≡ [])
  unfolding load_fault line_fault next_after
  total_read low s at l ls t e =
      let f = rw t at e in
      let own = passes 22 at (same_text l (total_line s)) (first_none (ground_at 22 (unless_at (same_text l (total_line s)) at)) _ f) in
      (word_same l (total_line s) own, go ls (later_none (ground_at 22 (unless_at (same_text l (total_line s)) at)) _ f))
    where
      go : (xs : List (List ℕ)) → load_fault (the_settings letters k m) Nothing (at + length l) xs ≡ None → xs ≡ []
      go [] h = refl
      go (x ∷ xs) h = absurd (let z : ◌≡◌ {A = ℕ} 0 1 = cc in omega arith)

module _ (letters : List ℕ) (k m : ℕ) (good : settings_ground (the_settings letters k m) ≡ None) where
  -- ---- a line as it is printed

  -- The line of the class with code q and the count n, where codes from `low` on may follow.
  pub record PrintedCount (low q n : ℕ) (l : List ℕ) : Type 0 where
    pub no_total : is_total_line l ≡ false
    pub shape : is_count_line letters k l ≡ true
    pub passed : good_count (the_settings letters k m) low l ≡ true
    pub code : code_in (the_settings letters k m) l ≡ q
    pub count : count_in k l ≡ n
    pub one_line : Ended l

  pub printed_count : (low q n : ℕ) → low ≤ q → q < class_count (the_settings letters k m) → 1 ≤ n → n ≤ 4294967295
      → PrintedCount low q n (count_line (word_bytes (the_settings letters k m) q) n)
  unfolding count_line good_count
  printed_count low q n rises below some few =
      let word = word_bytes (the_settings letters k m) q in
      let long = word_bytes_length letters k m q good below in
      let W = text_canonical letters k m good q below in
      let D = decimal-is_number n in
      let w-in = word_in_lem k word (decimal n) long in
      let d-in = digits_in_lem k word (decimal n) long in
      let code : code_in (the_settings letters k m) (count_shape word (decimal n)) ≡ q = rw w-in W.code_is in
      let count : count_in k (count_shape word (decimal n)) ≡ n = rw d-in D.1 in
      let own : same_word (canonical (length letters) (mirror_of m) (ranks_of letters word)) (ranks_of letters word) ≡ true =
      rw W.own (same_word_lem (ranks_of letters word)) in
      record {
        no_total = count_no_total k word (decimal n) long;
        shape = count_shape_lem k word (decimal n) long letters W.letters_only D.0;
        passed = rw (code, count, w-in, own, le-leb low q rises, le-leb 1 n some, le-leb n 4294967295 few);
        code = code;
        count = count;
        one_line = count_one_line word n W.no_lf;
      }

  -- It is passed, and its count is set.
  module _ {low q n : ℕ} {l : List ℕ} (P : PrintedCount low q n l) (ls : List (List ℕ)) where
    pub count_passed : (s at : ℕ) → load_fault (the_settings letters k m) (CountOrTotal low s) at (l ∷ ls) ≡ load_fault (the_settings letters k m) (CountOrTotal (suc q) (s + n)) (at + length l) ls
    unfolding load_fault line_fault next_after unless_at
    count_passed s at = rw (P.no_total, P.shape, P.passed, P.code, P.count)

    pub count_set : (cs : List ℕ) → loaded_from (the_settings letters k m) cs (l ∷ ls) ≡ loaded_from (the_settings letters k m) (set cs q n) ls
    unfolding loaded_from
    count_set cs = rw (P.no_total, P.code, P.count)

  -- ---- a line that passes

  -- It is the line of a class with a higher code.
  pub record CountRead (low s at : ℕ) (l : List ℕ) (ls : List (List ℕ)) : Type 0 where
    pub is : l ≡ count_line (word_bytes (the_settings letters k m) (code_in (the_settings letters k m) l)) (count_in k l)
    pub shape : is_count_line letters k l ≡ true
    pub rises : low ≤ code_in (the_settings letters k m) l
    pub below : code_in (the_settings letters k m) l < class_count (the_settings letters k m)
    pub some : 1 ≤ count_in k l
    pub few : count_in k l ≤ 4294967295
    pub later : load_fault (the_settings letters k m) (CountOrTotal (suc (code_in (the_settings letters k m) l)) (s + count_in k l)) (at + length l) ls ≡ None

  pub count_read : (low s at : ℕ) (l : List ℕ) (ls : List (List ℕ)) → is_total_line l ≡ false → load_fault (the_settings letters k m) (CountOrTotal low s) at (l ∷ ls) ≡ None
      → CountRead low s at l ls
  unfolding load_fault line_fault next_after good_count
  count_read low s at l ls t e =
      let shaped = ground_at 20 (unless_at (is_count_line letters k l) at) in
      let counted = ground_at 22 (unless_at (good_count (the_settings letters k m) low l) at) in
      let f = rw t at e in
      let here = first_none (shaped or_else counted) _ f in
      let C = count_parts letters k l (passes 20 at (is_count_line letters k l) (first_none shaped counted here)) in
      let own = same_word (canonical (length letters) (mirror_of m) (ranks_in letters k l)) (ranks_in letters k l) in
      let high = leb low (code_in (the_settings letters k m) l) in
      let a = (and-eq-true_iff own (high && (leb 1 (count_in k l) && leb (count_in k l) 4294967295))).0
      (passes 22 at (good_count (the_settings letters k m) low l) (later_none shaped counted here)) in
      let b = (and-eq-true_iff high (leb 1 (count_in k l) && leb (count_in k l) 4294967295)).0 a.1 in
      let c = (and-eq-true_iff (leb 1 (count_in k l)) (leb (count_in k l) 4294967295)).0 b.1 in
      let word = canonical_text letters k m good (word_in k l) C.word_long C.letters_only (word_same _ _ a.0) in
      record {
        is = C.is ∙ ap (λ (w : List ℕ). count_line w (count_in k l)) word;
        shape = passes 20 at (is_count_line letters k l) (first_none shaped counted here);
        rises = leb-true low (code_in (the_settings letters k m) l) b.0;
        below = place_below letters k m good (ranks_in letters k l) (word_is letters k m good (word_in k l) C.word_long);
        some = leb-true 1 (count_in k l) c.0;
        few = leb-true (count_in k l) 4294967295 c.1;
        later = later_none (shaped or_else counted) _ f;
      }
