-- Runs of letters, and the windows that have another byte: a window has only letters where the run that ends with it is as long as it is.
use Rattle.std.proofs.Common.{◌≡◌, refl, sym, ap, ◌∙◌, Bool, true, false, cond, ◌&&◌, List, [], ◌∷◌, ◌++◌, map, Option, None, Some, is_some, ℕ, zero, suc, ◌+◌, ◌-◌, ◌<◌, ◌≤◌, add-one, arith, length, get_or, take, drop, set, length-set, length-append, length-drop, drop_of_length-le, drop-cons, get_or-take, get_or-drop, get_or-set_other, get_or-append-add, ext_get_or, length-take-le}
use mathlib.Core.Bool.{and-true, and-false, and_assoc, and-eq-true_iff}
use Rattle.std.specs.Option.{unwrap_or}
use native.Mathlib.Decide.{ℕ_discrete, dec_le}
use lib.ListN.{get_or-append}
use Rattle.laws.proofs.Buffers.{set_next}
use Rattle.laws.proofs.Lists.{map_take, map_drop}
use Rattle.encoding.specs.Words.{Mirror}
use Rattle.encoding.specs.Codes.{code}
use Rattle.encoding.specs.Calls.{rank_or_zero}
use Rattle.laws.specs.Windows.{windows}
use Rattle.windows.specs.Windows.{window_codes}
use Rattle.sequence.specs.Sequences.{no_code}
use Rattle.settings.specs.declared.RankTable.{RankTable}
use Rattle.settings.specs.RankTables.{rank_by_table}
use Rattle.ranks.specs.Needs.{part}
use Rattle.windows.specs.Needs.{Fills}
use Rattle.words.specs.Needs.{ranks_by}
use Rattle.sequence.specs.Needs.{all_ranked, code_by, Run, Blanked}
use Rattle.windows.proofs.Windows.{window_at, length_codes}
use Rattle.windows.proofs.Lasts.{lasts, last_inside, lasts_end, last_at}
use Rattle.ranks.proofs.WordParts.{length_part}
use Rattle.sequence.proofs.RankTables.{length-ranks_by}

module _ (rank : ℕ → Option ℕ) where
  ranked_true : (w : List ℕ) → ((p : ℕ) → p < length w → is_some (rank (get_or w p 0)) ≡ true) → all_ranked rank w ≡ true
  unfolding all_ranked
  ranked_true [] f = refl
  ranked_true (b ∷ w) f = rw (f 0 (omega arith)) (ranked_true w (λ p h. f (suc p) (omega arith)))

  ranked_false : (w : List ℕ) (p : ℕ) → p < length w → is_some (rank (get_or w p 0)) ≡ false → all_ranked rank w ≡ false
  unfolding all_ranked
  ranked_false [] p h e = absurd (omega arith)
  ranked_false (b ∷ w) zero h e = rw e
  ranked_false (b ∷ w) (suc p) h e = rw (ranked_false w p (omega arith) e) (and-false (is_some (rank b)))

-- ---- bytes that are all letters

module _ (rank : ℕ → Option ℕ) (bytes : List ℕ) where
  -- All are letters where those up to the i-th are, and those that are left.
  pub ranked_next : (i : ℕ) (all : Bool) → i < length bytes → all_ranked rank bytes ≡ (all && all_ranked rank (drop i bytes))
      → all_ranked rank bytes ≡ ((all && is_some (rank (get_or bytes i 0))) && all_ranked rank (drop (i + 1) bytes))
  unfolding all_ranked
  ranked_next i all h e = e ∙ rw (add-one i, drop-cons bytes i 0 h) (sym (and_assoc all (is_some (rank (get_or bytes i 0))) (all_ranked rank (drop (suc i) bytes))))

  pub ranked_done : (i : ℕ) (all : Bool) → length bytes ≤ i → all_ranked rank bytes ≡ (all && all_ranked rank (drop i bytes)) → all ≡ all_ranked rank bytes
  unfolding all_ranked
  ranked_done i all h e = sym (and-true all) ∙ sym (e ∙ rw (drop_of_length-le bytes {i = i} h))

-- The rank of a byte or 0.
pub rank_written : (o : Option ℕ) → unwrap_or o 0 ≡ rank_or_zero o
rank_written None = refl
rank_written (Some x) = refl

ranked_at : (rank : ℕ → Option ℕ) (w : List ℕ) → all_ranked rank w ≡ true → (p : ℕ) → p < length w → is_some (rank (get_or w p 0)) ≡ true
unfolding all_ranked
ranked_at rank [] e p h = absurd (omega arith)
ranked_at rank (b ∷ w) e zero h = ((and-eq-true_iff (is_some (rank b)) (all_ranked rank w)).0 e).0
ranked_at rank (b ∷ w) e (suc p) h = ranked_at rank w ((and-eq-true_iff (is_some (rank b)) (all_ranked rank w)).0 e).1 p (omega arith)

at_part : (bytes : List ℕ) (j k p : ℕ) → p < k → get_or (part j k bytes) p 0 ≡ get_or bytes (j + p) 0
at_part bytes j k p h = get_or-take k (drop j bytes) p 0 h ∙ get_or-drop j bytes p 0

-- Nothing is to be blanked.
pub blanked_nothing : (table : RankTable) (k : ℕ) (bytes old : List ℕ) → all_ranked (rank_by_table table) bytes ≡ true
    → Blanked table k bytes old old (length bytes + 1 - k)
blanked_nothing table k bytes old all =
    record { kept_length = refl; at = λ j h. sym (rw (window j (omega arith))); later = λ j h. refl }
  where
    window : (j : ℕ) → j + k ≤ length bytes → all_ranked (rank_by_table table) (part j k bytes) ≡ true
    window j h =
        ranked_true (rank_by_table table) (part j k bytes)
        (λ p g.
        let q : p < k = omega (arith, length_part j k bytes h) in
        rw (at_part bytes j k p q) (ranked_at (rank_by_table table) bytes all (j + p) (omega arith)))

-- ---- runs

module _ {table : RankTable} {bytes : List ℕ} {i run : ℕ} (R : Run table bytes i run) where
  -- The next byte is a letter.
  run_more : is_some (rank_by_table table (get_or bytes i 0)) ≡ true → Run table bytes (i + 1) (run + 1)
  run_more h =
      record {
        upto = omega (arith, R.upto);
        letters = λ p g l. elim (ℕ_discrete p i) as (λ _. is_some (rank_by_table table (get_or bytes p 0)) ≡ true) [
          | yes e ↦ rw e h
          | no ne ↦ R.letters p (omega arith) (omega arith)
        ];
        stop = λ p e. R.stop p (omega arith);
      }

  -- It is none.
  run_over : is_some (rank_by_table table (get_or bytes i 0)) ≡ false → Run table bytes (i + 1) 0
  run_over h =
      record {
        upto = omega arith;
        letters = λ p g l. absurd (omega arith);
        stop = λ p e. let z : p ≡ i = omega arith in rw z h;
      }

  pub run_next : {r : ℕ} → r ≡ cond (is_some (rank_by_table table (get_or bytes i 0))) (run + 1) 0 → Run table bytes (i + 1) r
  run_next e = go (is_some (rank_by_table table (get_or bytes i 0))) refl e
    where
      go : {r : ℕ} (t : Bool) → is_some (rank_by_table table (get_or bytes i 0)) ≡ t → r ≡ cond t (run + 1) 0 → Run table bytes (i + 1) r
      go true h e = rw e (run_more h)
      go false h e = rw e (run_over h)

  -- The window that ends here has only letters where the run is k long.
  module _ (k j : ℕ) (end : j + k ≡ i) (inside : i ≤ length bytes) where
    len : length (part j k bytes) ≡ k
    len = length_part j k bytes (omega arith)

    ranked_yes : k ≤ run → all_ranked (rank_by_table table) (part j k bytes) ≡ true
    ranked_yes h =
        ranked_true (rank_by_table table) (part j k bytes)
        (λ p g. let q : p < k = omega (arith, len) in rw (at_part bytes j k p q) (R.letters (j + p) (omega arith) (omega arith)))

    ranked_no : run < k → all_ranked (rank_by_table table) (part j k bytes) ≡ false
    ranked_no h =
        let q : k - run - 1 < k = omega arith in
        ranked_false (rank_by_table table) (part j k bytes) (k - run - 1) (omega (arith, len))
        (rw (at_part bytes j k (k - run - 1) q) (R.stop (j + (k - run - 1)) (omega (arith, R.upto))))

    run_kept : (x code : ℕ) → (k ≤ run → x ≡ code) × (run < k → x ≡ no_code) → x ≡ cond (all_ranked (rank_by_table table) (part j k bytes)) code no_code
    run_kept x code f =
        elim (dec_le k run) as (λ _. x ≡ cond (all_ranked (rank_by_table table) (part j k bytes)) code no_code) [
          | yes h ↦ f.0 h ∙ rw (ranked_yes h)
          | no nh ↦ let h : run < k = omega arith in f.1 h ∙ rw (ranked_no h)
        ]

-- The run at the end of the first n bytes, taken as bytes of their own.
run_front : {table : RankTable} {bytes : List ℕ} (n : ℕ) {run : ℕ} → n ≤ length bytes → Run table (take n bytes) (length (take n bytes)) run → Run table bytes n run
run_front {table} {bytes} n {run} inside R =
    let l : length (take n bytes) ≡ n = length-take-le n bytes inside in
    record {
      upto = omega (arith, R.upto);
      letters = λ p h g. rw (sym (get_or-take n bytes p 0 g)) (R.letters p (omega arith) (omega arith));
      stop = λ p e. rw (sym (get_or-take n bytes p 0 (omega arith))) (R.stop p (omega arith));
    }

-- ---- the loop over the windows

blank_none : (table : RankTable) (k : ℕ) (bytes old : List ℕ) → Blanked table k bytes old old 0
blank_none table k bytes old = record { kept_length = refl; at = λ j h. absurd (omega arith); later = λ j h. refl }

-- The windows before the one at j are done, and the run that ends before its last byte is known.
pub record Blanking (table : RankTable) (k : ℕ) (bytes old new : List ℕ) (run j : ℕ) : Type 0 where
  pub ran : Run table bytes (j + k - 1) run
  pub inside : j + k ≤ length bytes + 1
  blanked : Blanked table k bytes old new j

module _ {table : RankTable} {k : ℕ} {bytes old : List ℕ} (some : 1 ≤ k) where
  blanking_none : {run : ℕ} → k ≤ length bytes → Run table bytes (k - 1) run → Blanking table k bytes old old run 0
  blanking_none h R =
      let z : 0 + k - 1 ≡ k - 1 = omega arith in
      record { ran = rw z R; inside = omega arith; blanked = blank_none table k bytes old }

  blanking_next : {new : List ℕ} {run j : ℕ} (r x : ℕ) → length bytes + 1 - k ≤ length old → Blanking table k bytes old new run j → j + k ≤ length bytes
      → Run table bytes (j + k - 1 + 1) r
      → (k ≤ r → x ≡ get_or new j 0) × (r < k → x ≡ no_code)
      → Blanking table k bytes old (set new j x) r (j + 1)
  blanking_next {new} {run} {j} r x room A more R f =
      let z : j + 1 + k - 1 ≡ j + k - 1 + 1 = omega arith in
      let e : j + k ≡ j + k - 1 + 1 = omega arith in
      record {
        ran = rw z R;
        inside = omega arith;
        blanked = record {
          kept_length = length-set new j x ∙ A.blanked.kept_length;
          at =
              set_next (λ (i y : ℕ). y ≡ cond (all_ranked (rank_by_table table) (part i k bytes)) (get_or old i 0) no_code) new
              (omega (arith, A.blanked.kept_length)) A.blanked.at
              (run_kept R k j e (omega arith) x (get_or new j 0) f ∙ rw (A.blanked.later j (omega arith)));
          later = λ i g. get_or-set_other new j i x 0 (λ q. omega arith) ∙ A.blanked.later i (omega arith);
        };
      }

  blanked_all : {new : List ℕ} {run j : ℕ} → Blanking table k bytes old new run j → length bytes < j + k
      → Blanked table k bytes old new (length bytes + 1 - k)
  blanked_all {new} {run} {j} A end = let n : length bytes + 1 - k ≡ j = omega (arith, A.inside) in rw n A.blanked

-- The bytes that end a window, one after the other.
module _ {table : RankTable} {k : ℕ} {bytes old : List ℕ} (some : 1 ≤ k) (long : k ≤ length bytes) where
  pub blanking_first : {run : ℕ} → Run table (take (k - 1) bytes) (length (take (k - 1) bytes)) run → Blanking table k bytes old old run 0
  blanking_first R = blanking_none some long (run_front (k - 1) (omega arith) R)

  pub blanking_byte : length bytes + 1 - k ≤ length old → {new : List ℕ} {run j r x : ℕ} → Blanking table k bytes old new run j → j < length (lasts k bytes)
      → r ≡ cond (is_some (rank_by_table table (get_or (lasts k bytes) j 0))) (run + 1) 0
      → (k ≤ r → x ≡ get_or new j 0) × (r < k → x ≡ no_code)
      → Blanking table k bytes old (set new j x) r (j + 1)
  blanking_byte room {new} {run} {j} {r} {x} A h e f =
      blanking_next some r x room A (last_inside k bytes some long h) (run_next A.ran (e ∙ rw (last_at k bytes some j))) f

  pub blanking_done : {new : List ℕ} {run j : ℕ} → Blanking table k bytes old new run j → length (lasts k bytes) ≤ j
      → Blanked table k bytes old new (length bytes + 1 - k)
  blanking_done A h = blanked_all some A (lasts_end k bytes some long h)

-- ---- codes, then blanks

-- A list that starts with the numbers C, place by place.
fills_at : {C o out : List ℕ} → Fills C o out → (j : ℕ) → j < length C → get_or out j 0 ≡ get_or C j 0
fills_at {C} {o} F j h = ap (λ (l : List ℕ). get_or l j 0) F.is ∙ get_or-append C (drop (length C) o) 0 j h

ranks_part_by : (rank : ℕ → Option ℕ) (j k : ℕ) (bytes : List ℕ) → part j k (ranks_by rank bytes) ≡ ranks_by rank (part j k bytes)
unfolding ranks_by
ranks_part_by rank j k bytes = ap (take k) (map_drop (λ (b : ℕ). rank_or_zero (rank b)) j bytes) ∙ map_take (λ (b : ℕ). rank_or_zero (rank b)) k (drop j bytes)

-- The codes of the windows of the ranks, blanked where a byte is no letter, are the numbers of the windows of the bytes.
module _ {table : RankTable} (s : ℕ) (m : Mirror) {k : ℕ} {bytes o mid new : List ℕ} (some : 1 ≤ k) (room : length bytes + 1 - k ≤ length o)
    (F : Fills (window_codes s m k (ranks_by (rank_by_table table) bytes)) o mid) (B : Blanked table k bytes mid new (length bytes + 1 - k)) where
  abbrev ranks : List ℕ
  ranks = ranks_by (rank_by_table table) bytes

  abbrev codes : List ℕ
  codes = window_codes s m k ranks

  abbrev numbers : List ℕ
  numbers = map (code_by (rank_by_table table) s m k) (windows k bytes)

  n_codes : length codes ≡ length bytes + 1 - k
  n_codes = length_codes k some (code s m k) ranks ∙ rw (length-ranks_by (rank_by_table table) bytes)

  n_numbers : length numbers ≡ length bytes + 1 - k
  n_numbers = length_codes k some (code_by (rank_by_table table) s m k) bytes

  first_places : (j : ℕ) → j < length bytes + 1 - k → get_or new j 0 ≡ get_or numbers j 0
  unfolding code_by
  first_places j h =
      let inside : j + k ≤ length bytes = omega arith in
      let inside' : j + k ≤ length ranks = omega (arith, length-ranks_by (rank_by_table table) bytes) in
      B.at j h
      ∙ rw (fills_at F j (omega (arith, n_codes)), window_at k some (code s m k) j ranks inside', ranks_part_by (rank_by_table table) j k bytes)
      (sym (window_at k some (code_by (rank_by_table table) s m k) j bytes inside))

  pub blanked_codes : Fills numbers o new
  blanked_codes = record { is = ext_get_or 0 new (numbers ++ drop (length numbers) o) lengths each }
    where
      mid_length : length mid ≡ length o
      mid_length = ap length F.is ∙ omega (arith, length-append codes (drop (length codes) o), length-drop (length codes) o, n_codes)

      lengths : length new ≡ length (numbers ++ drop (length numbers) o)
      lengths = B.kept_length ∙ mid_length ∙ omega (arith, length-append numbers (drop (length numbers) o), length-drop (length numbers) o, n_numbers)

      later : (l : List ℕ) (j : ℕ) → length l ≡ length bytes + 1 - k → length bytes + 1 - k ≤ j → get_or (l ++ drop (length l) o) j 0 ≡ get_or o j 0
      later l j e h =
          let i : length l + (j - length l) ≡ j = omega arith in
          sym (ap (λ (i : ℕ). get_or (l ++ drop (length l) o) i 0) i)
          ∙ get_or-append-add l (drop (length l) o) (j - length l) 0
          ∙ get_or-drop (length l) o (j - length l) 0
          ∙ rw i

      each : (j : ℕ) → j < length new → get_or new j 0 ≡ get_or (numbers ++ drop (length numbers) o) j 0
      each j h =
          elim (dec_le (length bytes + 1 - k) j) as (λ _. get_or new j 0 ≡ get_or (numbers ++ drop (length numbers) o) j 0) [
            | yes g ↦ B.later j g ∙ ap (λ (l : List ℕ). get_or l j 0) F.is ∙ later codes j n_codes g ∙ sym (later numbers j n_numbers g)
            | no g ↦ first_places j (omega arith) ∙ sym (get_or-append numbers (drop (length numbers) o) 0 j (omega (arith, n_numbers)))
          ]
