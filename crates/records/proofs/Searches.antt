-- A search that the record reader makes, for a header or for LF, step by step and whole, and what each of its functions answers, from the definitions.
use Rattle.std.proofs.Common.{◌≡◌, refl, sym, ◌∙◌, ℕ, zero, suc, ◌+◌, ◌-◌, ◌<◌, ◌≤◌, max, add-one, arith, Bool, true, false, None, Some, List, length, ltb, leb, eq-eqb, ne_eqb, lt-ltb, le-ltb, ltb-true, ltb-false, leb-true, leb-false}
use Rattle.lines.specs.Needs.{LineEnd}
use Rattle.records.specs.Records.{is_lf, is_header, first_from, header_at, line_end, record_to, record_from}

-- A search of the places below an end, from i on: the first is at i, or it is that from i + 1 on, or no place is left.
module _ (test : ℕ → Bool) (end i : ℕ) where
  one_more : i < end → end - i ≡ suc (end - suc i)
  one_more h = omega arith

  none_left : end ≤ i → end - i ≡ 0
  none_left h = omega arith

  pub first_here : i < end → test i ≡ true → first_from test i (end - i) ≡ i
  unfolding first_from
  first_here h e = rw (one_more h, e)

  pub first_next : i < end → test i ≡ false → first_from test i (end - i) ≡ first_from test (i + 1) (end - (i + 1))
  unfolding first_from
  first_next h e = rw (one_more h, e, add-one i)

  pub first_none : end ≤ i → first_from test i (end - i) ≡ i
  unfolding first_from
  first_none h = rw (none_left h)

-- The whole search: e is the first place that passes, or the end.
first_is : (test : ℕ → Bool) (end e : ℕ) → e ≤ end → (e < end → test e ≡ true) → (d i : ℕ) → i + d ≡ e
    → ((j : ℕ) → i ≤ j → j < e → test j ≡ false) → first_from test i (end - i) ≡ e
first_is test end e h there zero i z missed = let same : i ≡ e = omega arith in rw same (at_last (ltb e end) refl)
  where
    at_last : (t : Bool) → ltb e end ≡ t → first_from test e (end - e) ≡ e
    at_last true g = let below = ltb-true e end g in first_here test end e below (there below)
    at_last false g = first_none test end e (ltb-false e end g)
first_is test end e h there (suc d) i z missed =
    first_next test end i (omega arith) (missed i (omega arith) (omega arith))
    ∙ first_is test end e h there d (i + 1) (omega arith) (λ j x y. missed j (omega arith) y)

-- The end of a header's line, as `lines::line_end` finds it.
pub line_end_is : {file : List ℕ} {h e : ℕ} → h < length file → LineEnd file (h + 1) e → e ≡ line_end file h
line_end_is {file} {h} {e} g E =
    let N = E.none_before in
    let on = N.on in
    sym
    (first_is
    (is_lf file)
    (length file)
    e
    (N.inside (omega arith))
    (λ x. eq-eqb _ 10 (E.there x))
    (e - (h + 1))
    (h + 1)
    (omega arith)
    (λ j x y. ne_eqb _ 10 (N.bytes j x y)))

-- Past the last header the file's length, or the offset itself where that is past the end.
pub no_header_left : (file : List ℕ) (at i : ℕ) → (at ≤ length file → i ≤ length file) → length file ≤ i → header_at file at ≡ header_at file i
    → max at (length file) ≡ header_at file at
no_header_left file at i inside past same = by_end (leb at (length file)) refl
  where
    by_end : (c : Bool) → leb at (length file) ≡ c → max at (length file) ≡ header_at file at
    by_end true e = omega (arith, inside (leb-true at (length file) e), leb-true at (length file) e, same, first_none (is_header file) (length file) i past)
    by_end false e = omega (arith, leb-false at (length file) e, first_none (is_header file) (length file) at (omega (arith, leb-false at (length file) e)))

module _ (file : List ℕ) (at h : ℕ) (f : h ≡ header_at file at) where
  pub some_record : h < length file → (e : ℕ) → e ≡ line_end file h → Some (record_to file h e) ≡ record_from file at
  unfolding record_from
  some_record g e k = rw (← f, lt-ltb h (length file) g, k)

  pub no_record : length file ≤ h → None ≡ record_from file at
  unfolding record_from
  no_record g = rw (← f, le-ltb h (length file) g)
