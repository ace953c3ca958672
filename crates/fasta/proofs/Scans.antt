-- The scan: the machine that takes item by item answers by the definitions (`scan_is`); what holds at the head of the scan's loop, and
-- what a turn does to it.
use Rattle.std.proofs.Common.{◌≡◌, refl, sym, ap, ◌∙◌, ℕ, zero, suc, ◌+◌, ◌-◌, ◌<◌, ◌≤◌, add-one, arith, Bool, true, false, cond, Option, None, Some, List, [], ◌∷◌, ◌++◌, length, get_or, drop, drop_of_length-le, length-append, drop-cons, eqb, leb, ltb, rules, eqb-true, lt-ltb, le-ltb}
use borrow.Author.Tests.{eqb-false}
use Rattle.settings.specs.Grounds.{Ground, Outcome, given, refused, outcome}
use Rattle.fasta.specs.declared.Item.{Item}
use Rattle.fasta.specs.declared.Item.TheVariants.{Opens, Skip, Stray, Letter}
use Rattle.fasta.specs.declared.Mode.{Mode}
use Rattle.fasta.specs.declared.Numbers.{Numbers}
use Rattle.fasta.specs.declared.Scanned.{Scanned}
use Rattle.fasta.specs.Items.{records_in, letters_in, one_if_foreign, foreign_in, marks, numbers_in}
use Rattle.fasta.specs.File.{lf_next, item, next, items_from, fault_from}
use Rattle.fasta.specs.Needs.{with_header, with_letter, took, Small, skips, Skips}
use Rattle.fasta.proofs.Stream.{closes, windows_from, windows-stream, edges_from, edges_stream}

-- ---- the machine and the definitions

-- The answer after one step: the rest's, where the step goes on.
abbrev pub after_step : Outcome Scanned → (Scanned → Outcome Numbers) → Outcome Numbers
after_step (given t) rest = rest t
after_step (refused g) rest = refused g

-- The answer of a scan of all items that are left, the first of them at the offset `at`.
unfoldable pub scan_from : (ℕ → Option ℕ) → ℕ → ℕ → Scanned → List Item → Outcome Numbers
scan_from rank k at t [] = given t.numbers
scan_from rank k at t (i ∷ is) = after_step (took rank k at t i) (λ (u : Scanned). scan_from rank k (suc at) u is)

-- What a scan begins with.
abbrev pub nothing_yet : Scanned
nothing_yet = record { numbers = record { records = 0; letters = 0; foreign = 0; edge = 0; windows = 0 }; run = 0 }

-- The numbers of what was scanned, with so much more of each.
abbrev plus : Scanned → ℕ → ℕ → ℕ → ℕ → ℕ → Numbers
plus t a b c d e =
    let n = t.numbers in
    record { records = n.records + a; letters = n.letters + b; foreign = n.foreign + c; edge = n.edge + d; windows = n.windows + e }

-- What is still to come, after a run of the letters r.
abbrev rest : (ℕ → Option ℕ) → ℕ → Scanned → List ℕ → List Item → Numbers
rest rank k t r is =
    plus t (records_in is) (letters_in is) (foreign_in rank is) (edges_from k (length r) (marks rank is)) (length (windows_from k r (marks rank is)))

same_numbers : {a a' b b' c c' d d' e e' : ℕ} → a ≡ a' → b ≡ b' → c ≡ c' → d ≡ d' → e ≡ e'
    → ◌≡◌ {A = Numbers} (record { records = a; letters = b; foreign = c; edge = d; windows = e })
    (record { records = a'; letters = b'; foreign = c'; edge = d'; windows = e' })
same_numbers p q r s t = rw (p, q, r, s, t)

-- The windows of what is to come from the letter x on: one more where x closes one.
closes_one : (k : ℕ) (r : List ℕ) (x : ℕ) (ms : List (Option ℕ))
    → length (windows_from k r (Some x ∷ ms)) ≡ cond (leb k (length r + 1)) 1 0 + length (windows_from k (r ++ (x ∷ [])) ms)
unfolding closes windows_from
closes_one k r x ms =
    let n : length (r ++ (x ∷ [])) ≡ length r + 1 = omega (arith, length-append r (x ∷ [])) in
    rw n (go (leb k (length r + 1)))
  where
    go : (c : Bool)
        → length (cond c (drop (length r + 1 - k) (r ++ (x ∷ [])) ∷ []) [] ++ windows_from k (r ++ (x ∷ [])) ms)
        ≡ cond c 1 0 + length (windows_from k (r ++ (x ∷ [])) ms)
    go true = omega arith
    go false = omega arith

module _ (rank : ℕ → Option ℕ) (k : ℕ) where
  Told : List Item → Type 0
  Told is = (at : ℕ) (t : Scanned) (r : List ℕ) → t.run ≡ length r
      → scan_from rank k at t is ≡ outcome (fault_from (ltb 0 t.numbers.records) at is) (rest rank k t r is)

  opened : (is : List Item) → Told is → Told (Opens ∷ is)
  unfolding Told scan_from fault_from records_in letters_in foreign_in marks edges_from windows_from
  opened is ih at t r e =
      ih (suc at) (with_header t) [] refl
      ∙ rw (lt-ltb 0 (t.numbers.records + 1) (omega arith)) (ap (outcome (fault_from true (suc at) is)) (same_numbers (omega arith) refl refl refl refl))

  -- A letter after a header, by its rank.
  ranked : (is : List Item) → Told is → (o : Option ℕ) (at : ℕ) (t : Scanned) (r : List ℕ) → t.run ≡ length r → ltb 0 t.numbers.records ≡ true
      → scan_from rank k (suc at) (with_letter k t o) is
      ≡ outcome (fault_from true (suc at) is)
      (plus t (records_in is) (suc (letters_in is)) (one_if_foreign o + foreign_in rank is) (edges_from k (length r) (o ∷ marks rank is))
      (length (windows_from k r (o ∷ marks rank is))))
  unfolding Told with_letter one_if_foreign edges_from windows_from
  ranked is ih None at t r e h =
      ih (suc at) (with_letter k t None) [] refl
      ∙ rw h (ap (outcome (fault_from true (suc at) is)) (same_numbers refl (omega arith) (omega arith) refl refl))
  ranked is ih (Some x) at t r e h =
      let n : length (r ++ (x ∷ [])) ≡ length r + 1 = omega (arith, length-append r (x ∷ [])) in
      let l = closes_one k r x (marks rank is) in
      ih (suc at) (with_letter k t (Some x)) (r ++ (x ∷ [])) (omega arith)
      ∙ rw (h, n, e) (ap (outcome (fault_from true (suc at) is)) (same_numbers refl (omega arith) (omega arith) (omega arith) (omega arith)))

  lettered : (b : ℕ) (is : List Item) → Told is → Told (Letter b ∷ is)
  unfolding Told scan_from fault_from records_in letters_in foreign_in marks
  lettered b is ih at t r e = go (eqb t.numbers.records 0) refl
    where
      go : (c : Bool) → eqb t.numbers.records 0 ≡ c
          → after_step (cond c (refused (11, at)) (given (with_letter k t (rank b)))) (λ (u : Scanned). scan_from rank k (suc at) u is)
          ≡ outcome (cond (ltb 0 t.numbers.records) (fault_from (ltb 0 t.numbers.records) (suc at) is) (Some (11, at))) (rest rank k t r (Letter b ∷ is))
      go true f = rw (le-ltb 0 t.numbers.records (omega (arith, eqb-true t.numbers.records 0 f)))
      go false f =
          let ne = eqb-false t.numbers.records 0 f in
          let h = lt-ltb 0 t.numbers.records (omega arith) in
          rw h (ranked is ih (rank b) at t r e h)

  told : (is : List Item) → Told is
  unfolding Told scan_from fault_from records_in letters_in foreign_in marks edges_from windows_from
  told [] at t r e = ap given (same_numbers (omega arith) (omega arith) (omega arith) (omega arith) (omega arith))
  told (Opens ∷ is) at t r e = opened is (told is) at t r e
  told (Skip ∷ is) at t r e = told is (suc at) t r e
  told (Stray ∷ is) at t r e = refl
  told (Letter b ∷ is) at t r e = lettered b is (told is) at t r e

  -- The machine's answer on a whole file: the first fault, or the five numbers.
  scan_is : (is : List Item) → 1 ≤ k → scan_from rank k 0 nothing_yet is ≡ outcome (fault_from false 0 is) (numbers_in rank k is)
  unfolding Told
  scan_is is h =
      told is 0 nothing_yet [] refl
      ∙ ap (outcome (fault_from false 0 is))
      (same_numbers (omega arith) (omega arith) (omega arith) (omega (arith, edges_stream k (marks rank is) h))
      (omega (arith, ap length (windows-stream k (marks rank is) h))))

-- ---- the loop

module _ (file : List ℕ) (i : ℕ) (m : Mode) where
  -- The items from i on: that of the byte at i, and those of the bytes after it.
  pub items_step : i < length file
      → items_from m (drop i file) ≡ item m (get_or file i 0) (lf_next (drop (i + 1) file)) ∷ items_from (next m (get_or file i 0)) (drop (i + 1) file)
  unfolding items_from
  items_step h = rw (add-one i, drop-cons file i 0 h)

  pub items_end : length file ≤ i → items_from m (drop i file) ≡ []
  unfolding items_from
  items_end h = rw (drop_of_length-le file h)

-- One item makes each number larger by one at most.
SmallStep : ℕ → Outcome Scanned → Type 0
SmallStep n (given t) = Small n t
SmallStep n (refused g) = Unit {0}

-- What a settings letter adds to the edge letters and to the windows.
at_most_one : (c : Bool) → (cond c 0 1 ≤ 1) × (cond c 1 0 ≤ 1)
at_most_one true = omega arith
at_most_one false = omega arith

small_letter : (k n : ℕ) (t : Scanned) (o : Option ℕ) → Small n t → Small (n + 1) (with_letter k t o)
unfolding with_letter
small_letter k n t None s = search rules
small_letter k n t (Some x) s = let h = at_most_one (leb k (t.run + 1)) in search rules

small_step : (rank : ℕ → Option ℕ) (k n at : ℕ) (t : Scanned) (it : Item) → Small n t → SmallStep (n + 1) (took rank k at t it)
unfolding SmallStep
small_step rank k n at t Opens s = search rules
small_step rank k n at t Skip s = search rules
small_step rank k n at t Stray s = tt
small_step rank k n at t (Letter b) s = go (eqb t.numbers.records 0)
  where
    go : (c : Bool) → SmallStep (n + 1) (cond c (refused (11, at)) (given (with_letter k t (rank b))))
    go true = tt
    go false = small_letter k n t (rank b) s

-- At the head: the scan's answer is that of the items that are left, from here.
pub record Scanning (file : List ℕ) (from : Mode) (rank : ℕ → Option ℕ) (k : ℕ) (m : Mode) (t : Scanned) (i : ℕ) : Type 0 where
  pub inside : i ≤ length file
  pub small : Small i t
  pub answer : outcome (fault_from false 0 (items_from from file)) (numbers_in rank k (items_from from file)) ≡ scan_from rank k i t (items_from m (drop i file))

-- It holds where nothing is scanned yet.
pub start : (file : List ℕ) (from : Mode) (rank : ℕ → Option ℕ) (k : ℕ) (t : Scanned) → 1 ≤ k → t ≡ nothing_yet → Scanning file from rank k from t 0
start file from rank k t h e =
    rw e (record {
      inside = omega arith;
      small = search rules;
      answer = sym (scan_is rank k (items_from from file) h);
    })

-- Where nothing is left, the numbers of what was scanned are the answer.
pub done : {file : List ℕ} {from : Mode} {rank : ℕ → Option ℕ} {k : ℕ} {m : Mode} {t : Scanned} {i : ℕ} → Scanning file from rank k m t i → length file ≤ i
    → given t.numbers ≡ outcome (fault_from false 0 (items_from from file)) (numbers_in rank k (items_from from file))
unfolding scan_from
done {file} {m = m} {i = i} S h = sym (S.answer ∙ rw (items_end file i m h))

scan_skips : (rank : ℕ → Option ℕ) (k n at : ℕ) (t : Scanned) (is : List Item) → scan_from rank k at t (skips n is) ≡ scan_from rank k (at + n) t is
unfolding skips scan_from
scan_skips rank k zero at t is = let e : at + 0 ≡ at = omega arith in rw e
scan_skips rank k (suc n) at t is = let e : at + suc n ≡ suc at + n = omega arith in rw e (scan_skips rank k n (suc at) t is)

more_small : {i e : ℕ} {t : Scanned} → i ≤ e → Small i t → Small e t
more_small h s =
    record {
      records = omega (arith, s.records);
      letters = omega (arith, s.letters);
      foreign = omega (arith, s.foreign);
      edge = omega (arith, s.edge);
      windows = omega (arith, s.windows);
      run = omega (arith, s.run);
    }

-- Bytes that are skipped leave the scan as it is.
pub skip_on : {file : List ℕ} {from : Mode} {rank : ℕ → Option ℕ} {k : ℕ} {m : Mode} {t : Scanned} {i e : ℕ} → Scanning file from rank k m t i → Skips file m i e
    → Scanning file from rank k m t e
skip_on {file} {from} {rank} {k} {m} {t} {i} {e} S J =
    let n : i + (e - i) ≡ e = omega (arith, J.on) in
    record {
      inside = J.inside;
      small = more_small J.on S.small;
      answer =
          S.answer ∙ ap (scan_from rank k i t) J.skipped ∙ scan_skips rank k (e - i) i t (items_from m (drop e file))
          ∙ ap (λ (x : ℕ). scan_from rank k x t (items_from m (drop e file))) n;
    }

-- A turn: the bytes up to e are skipped, and the item of the byte at e is taken.
module _ {file : List ℕ} {from : Mode} {rank : ℕ → Option ℕ} {k : ℕ} {m : Mode} {t : Scanned} {i e : ℕ} (S : Scanning file from rank k m t i)
    (J : Skips file m i e) (more : e ≡ length file → ⊥) {it : Item} (it_is : it ≡ item m (get_or file e 0) (lf_next (drop (e + 1) file))) where
  here : Scanning file from rank k m t e
  here = skip_on S J

  inside : e < length file
  inside = omega (arith, J.inside, more)

  after : outcome (fault_from false 0 (items_from from file)) (numbers_in rank k (items_from from file))
      ≡ after_step (took rank k e t it) (λ (u : Scanned). scan_from rank k (suc e) u (items_from (next m (get_or file e 0)) (drop (e + 1) file)))
  unfolding scan_from
  after = here.answer ∙ rw (items_step file e m inside, it_is)

  pub at_fault : {g : Ground} → refused g ≡ took rank k e t it → refused g ≡ outcome (fault_from false 0 (items_from from file)) (numbers_in rank k (items_from from file))
  at_fault h = sym (after ∙ rw (← h))

  -- A turn that goes on keeps what holds at the head.
  pub goes_on : {u : Scanned} (m' : Mode) → given u ≡ took rank k e t it → m' ≡ next m (get_or file e 0) → Scanning file from rank k m' u (e + 1)
  unfolding SmallStep
  goes_on m' h m-is =
      let s : SmallStep (e + 1) (took rank k e t it) = small_step rank k e e t it here.small in
      rw m-is (record { inside = omega (arith, inside); small = rw (← h) at s; answer = after ∙ rw (← h, add-one e) })
