-- Reading with a reader until none is given gives the file's records from the reader's offset on, each once and in file order: there is such a
-- reading (`reads_all`), and it is the only one (`reads_only`); so a reader that `new` made reads all records of the file and nothing else
-- (`reads_whole`, `reads_whole_only`). Each record's end is past its header, and no header stands between. Then the record with a
-- number, which the call after so many gives (`number_is`).
use Rattle.std.proofs.Common.{◌≡◌, refl, sym, ap, subst, ◌∙◌, ℕ, zero, suc, ◌+◌, ◌-◌, ◌<◌, ◌≤◌, add-one, arith, Bool, true, false, cond, ◌||◌, Option, None, Some, List, [], ◌∷◌, ◌++◌, map, append-nil, length, get_or, eqb, Bor, ne_eqb, eqb-true, lt-ltb, le-ltb}
use native.Mathlib.Decide.{dec_lt, ℕ_discrete}
use mathlib.Core.Bool.{and-false, and-eq-true_iff}
use Rattle.std.specs.Iterator.{Yields, SkipsThenYields}
use Rattle.std.proofs.lemmas.Option.{slice_get_past}
use lib.ListN.{length-map}
use Rattle.std.specs.List.{slice_get}
use Rattle.records.specs.declared.Record.{Record}
use Rattle.records.specs.declared.Reader.{Reader}
use Rattle.records.specs.Records.{Parts, parts_of, of_found, end_of, is_lf, is_header, first_from, header_at, line_end, header_length, record_to, record_of, record_from, offset_after, headers_from, records_from, all_records, record_number, Starts, Gives, Moves, Reads, ended, given}

-- ---- the first of some places

-- What the place h is that a search of n places from p gives.
record First (test : ℕ → Bool) (p n h : ℕ) : Type 0 where
  low : p ≤ h
  high : h ≤ p + n
  passes : h < p + n → test h ≡ true
  missed : (j : ℕ) → p ≤ j → j < h → test j ≡ false

first : (test : ℕ → Bool) (p n : ℕ) → First test p n (first_from test p n)
unfolding first_from
first test p zero = record { low = omega arith; high = omega arith; passes = λ h. absurd (omega arith); missed = λ j a b. absurd (omega arith) }
first test p (suc n) = go (test p) refl (first test (suc p) n)
  where
    go : (t : Bool) → test p ≡ t → First test (suc p) n (first_from test (suc p) n) → First test p (suc n) (cond t p (first_from test (suc p) n))
    go true e g = record { low = omega arith; high = omega arith; passes = λ h. e; missed = λ j a b. absurd (omega arith) }
    go false e g =
        record {
          low = omega (arith, g.low);
          high = omega (arith, g.high);
          passes = λ h. g.passes (omega arith);
          missed = λ j a b.
              elim (ℕ_discrete j p) as (λ _. test j ≡ false) [
                | yes q ↦ rw q e
                | no q ↦ g.missed j (omega arith) b
              ];
        }

-- ---- headers among some places

miss : (file : List ℕ) (p n : ℕ) → is_header file p ≡ false → headers_from file p (suc n) ≡ headers_from file (suc p) n
unfolding headers_from
miss file p n e = rw e

hit : (file : List ℕ) (p n : ℕ) → is_header file p ≡ true → headers_from file p (suc n) ≡ p ∷ headers_from file (suc p) n
unfolding headers_from
hit file p n e = rw e

-- Places with no header among them can be left out.
skip : (file : List ℕ) (k p n : ℕ) → ((j : ℕ) → p ≤ j → j < p + k → is_header file j ≡ false)
    → headers_from file p (k + n) ≡ headers_from file (p + k) n
skip file zero p n h =
    let e : zero + n ≡ n = omega arith in
    let f : p + zero ≡ p = omega arith in
    rw (e, f)
skip file (suc k) p n h =
    let e : suc k + n ≡ suc (k + n) = omega arith in
    let f : p + suc k ≡ suc p + k = omega arith in
    rw (e, f) (miss file p (k + n) (h p (omega arith) (omega arith)) ∙ skip file k (suc p) n (λ j a b. h j (omega arith) (omega arith)))

no_places : (file : List ℕ) (p n : ℕ) → n ≡ 0 → headers_from file p n ≡ []
unfolding headers_from
no_places file p n e = rw e

-- The headers from p on are those from h on, where none stands between.
skip_to : (file : List ℕ) (p h : ℕ) → p ≤ h → h ≤ p + (length file - p) → ((j : ℕ) → p ≤ j → j < h → is_header file j ≡ false)
    → headers_from file p (length file - p) ≡ headers_from file h (length file - h)
skip_to file p h low high missed =
    let e : length file - p ≡ h - p + (length file - h) = omega arith in
    let g : p + (h - p) ≡ h = omega arith in
    rw e (skip file (h - p) p (length file - h) (λ j a b. missed j a (omega arith)) ∙ ap (λ (x : ℕ). headers_from file x (length file - h)) g)

-- So they are those from the first of them on.
from_first : (file : List ℕ) (p h : ℕ) → First (is_header file) p (length file - p) h
    → headers_from file p (length file - p) ≡ headers_from file h (length file - h)
from_first file p h f = skip_to file p h f.low f.high f.missed

-- ---- the record of a header

mark : (file : List ℕ) (h : ℕ) → is_header file h ≡ true → get_or file h 0 ≡ 62
unfolding is_header
mark file h e = eqb-true (get_or file h 0) 62 ((and-eq-true_iff (eqb (get_or file h 0) 62) (eqb h 0 || is_lf file (h - 1))).0 e).0

-- No header starts after a byte that is not LF.
inside : (file : List ℕ) (j : ℕ) → 0 < j → is_lf file (j - 1) ≡ false → is_header file j ≡ false
unfolding is_header
inside file j h e = rw (ne_eqb j 0 (λ z. omega arith), e) (and-false (eqb (get_or file j 0) 62))

-- What the record p of the header at h says of what comes after it.
record After (file : List ℕ) (h : ℕ) (p : Parts) : Type 0 where
  later : h < end_of p
  within : end_of p ≤ length file
  same : headers_from file (h + 1) (length file - (h + 1)) ≡ headers_from file (end_of p) (length file - end_of p)

module _ (file : List ℕ) (h : ℕ) (low : h < length file) (is : is_header file h ≡ true) where
  abbrev lf : ℕ
  lf = line_end file h

  lf_first : First (is_lf file) (h + 1) (length file - (h + 1)) lf
  lf_first = first (is_lf file) (h + 1) (length file - (h + 1))

  no_lf : (j : ℕ) → h ≤ j → j < lf → is_lf file j ≡ false
  no_lf j a b =
      elim (ℕ_discrete j h) as (λ _. is_lf file j ≡ false) [
        | yes q ↦ rw (q, mark file h is)
        | no q ↦ lf_first.missed j (omega arith) b
      ]

  no_header : (j : ℕ) → h + 1 ≤ j → j < lf + 1 → is_header file j ≡ false
  no_header j a b = inside file j (omega arith) (no_lf (j - 1) (omega arith) (omega arith))

  whole : lf < length file → record_of file h ≡ ((h, header_length file h lf), (lf + 1, header_at file (lf + 1) - (lf + 1)))
  unfolding record_to
  whole g = rw (lt-ltb lf (length file) g)

  with_line : lf < length file → After file h (record_of file h)
  with_line g =
      let hd = first (is_header file) (lf + 1) (length file - (lf + 1)) in
      let end : lf + 1 + (header_at file (lf + 1) - (lf + 1)) ≡ header_at file (lf + 1) = omega (arith, hd.low) in
      let passed = skip_to file (h + 1) (lf + 1) (omega (arith, lf_first.low)) (omega arith) no_header in
      rw
      (whole g)
      (record {
        later = omega (arith, lf_first.low);
        within = omega (arith, hd.high);
        same = rw end (passed ∙ from_first file (lf + 1) (header_at file (lf + 1)) hd);
      })

  cut : length file ≤ lf → record_of file h ≡ ((h, length file - h), (length file, 0))
  unfolding record_to
  cut g = rw (le-ltb lf (length file) g)

  cut_off : length file ≤ lf → After file h (record_of file h)
  cut_off g =
      rw
      (cut g)
      (record {
        later = omega arith;
        within = omega arith;
        same = skip_to file (h + 1) (length file + 0) (omega arith) (omega arith) (λ j a b. no_header j a (omega arith));
      })

  after : After file h (record_of file h)
  after =
      elim (dec_lt lf (length file)) as (λ _. After file h (record_of file h)) [
        | yes g ↦ with_line g
        | no g ↦ cut_off (omega arith)
      ]

-- ---- what the reader gives from an offset

-- Either none, and there are no records from there; or the first of the records from there, after which the others are left.
data Next (file : List ℕ) (at : ℕ) : Type 0 where
  none_left : record_from file at ≡ None → records_from file at ≡ [] → Next file at
  one_more : (p : Parts) → record_from file at ≡ Some p → records_from file at ≡ p ∷ records_from file (end_of p) → at < end_of p
      → end_of p ≤ length file → Next file at

no_more : (file : List ℕ) (at : ℕ) → length file ≤ header_at file at → Next file at
unfolding record_from
no_more file at g =
    let hd = first (is_header file) at (length file - at) in
    let no-headers = from_first file at (header_at file at) hd ∙ no_places file (header_at file at) _ (omega arith) in
    none_left (rw (le-ltb (header_at file at) (length file) g)) (ap (map (record_of file)) no-headers)

-- The first header from an offset, and the headers after its record.
headers_split : (file : List ℕ) (at h end : ℕ) → First (is_header file) at (length file - at) h → h < length file → is_header file h ≡ true
    → headers_from file (h + 1) (length file - (h + 1)) ≡ headers_from file end (length file - end)
    → headers_from file at (length file - at) ≡ h ∷ headers_from file end (length file - end)
headers_split file at h end hd g is same =
    let n : length file - h ≡ suc (length file - (h + 1)) = omega arith in
    from_first file at h hd ∙ rw (n, hit file h (length file - (h + 1)) is, ← add-one h, same)

one_found : (file : List ℕ) (at h : ℕ) → h ≡ header_at file at → First (is_header file) at (length file - at) h → h < length file
    → is_header file h ≡ true → After file h (record_of file h) → Next file at
unfolding record_from
one_found file at h f hd g is a =
    one_more (record_of file h) (rw (← f, lt-ltb h (length file) g))
    (ap (map (record_of file)) (headers_split file at h (end_of (record_of file h)) hd g is a.same))
    (omega (arith, a.later, hd.low))
    a.within

next : (file : List ℕ) (at : ℕ) → Next file at
next file at =
    elim (dec_lt (header_at file at) (length file)) as (λ _. Next file at) [
      | yes g ↦
          let hd = first (is_header file) at (length file - at) in
          let is = hd.passes (omega (arith, hd.low)) in
          one_found file at (header_at file at) refl hd g is (after file (header_at file at) g is)
      | no g ↦ no_more file at (omega arith)
    ]

not_both : {p : Parts} {o : Option Parts} → o ≡ None → o ≡ Some p → ⊥
not_both e f = let z : ◌≡◌ {A = ℕ} 0 1 = cc in omega arith

-- A record ends behind the offset and within the file.
pub ends_within : (file : List ℕ) (at : ℕ) (p : Parts) → Some p ≡ record_from file at → (at < end_of p) × (end_of p ≤ length file)
ends_within file at p e = go (next file at)
  where
    go : Next file at → (at < end_of p) × (end_of p ≤ length file)
    go (none_left f g) = absurd (not_both f (sym e))
    go (one_more q f g k l) = let s : q ≡ p = cc in rw (← s) (k, l)

-- ---- all records

module _ (file : Bor (List ℕ)) where
  abbrev bytes : List ℕ
  bytes = file.now

  abbrev reader : ℕ → Reader
  reader at = record { file = file; at = at }

  by_next : (at : ℕ) → Next bytes at → ((end : ℕ) → at < end → end ≤ length bytes → Reads (reader end) (records_from bytes end))
      → Reads (reader at) (records_from bytes at)
  by_next at (none_left e f) ih = rw f (ended (sym e))
  by_next at (one_more p e f k l) ih = rw f (given (sym e) (refl, ap (offset_after at) (sym e)) (ih (end_of p) k l))

  reads_some : (n at : ℕ) → length bytes < at + n → Reads (reader at) (records_from bytes at)
  reads_some zero at h = by_next at (next bytes at) (λ end k l. absurd (omega arith))
  reads_some (suc n) at h = by_next at (next bytes at) (λ end k l. reads_some n end (omega arith))

-- "It gives each record, in file order, .. after the last, none", from any offset.
pub reads_all : (r : Reader) → Reads r (records_from r.file.now r.at)
reads_all r = reads_some r.file (suc (length r.file.now)) r.at (omega arith)

-- What a call gives is the first of the records from the offset on, and the others are those from the place to which it moves the reader.
call_gives : (r s : Reader) {p : Parts} → Gives r (Some p) → Moves r s → records_from r.file.now r.at ≡ p ∷ records_from s.file.now s.at
call_gives r s {p} e m = go (next r.file.now r.at)
  where
    go : Next r.file.now r.at → records_from r.file.now r.at ≡ p ∷ records_from s.file.now s.at
    go (none_left f g) = absurd (not_both f (sym e))
    go (one_more q f g k l) =
        let same : q ≡ p = cc in
        let at : s.at ≡ end_of p = m.1 ∙ ap (offset_after r.at) (sym e) in
        g ∙ rw (same, m.0, at)

-- Where it gives none, no record is left.
call_ends : (r : Reader) → Gives r None → records_from r.file.now r.at ≡ []
call_ends r e = go (next r.file.now r.at)
  where
    go : Next r.file.now r.at → records_from r.file.now r.at ≡ []
    go (none_left f g) = g
    go (one_more p f g k m) = absurd (not_both (sym e) f)

-- Nothing else can be read.
pub reads_only : {r : Reader} {l : List Parts} → Reads r l → l ≡ records_from r.file.now r.at
reads_only (ended {r = r} e) = sym (call_ends r e)
reads_only (given {r = r} {moved = s} {p = p} e m reads) = ap (λ (l : List Parts). p ∷ l) (reads_only reads) ∙ sym (call_gives r s e m)

-- A reader that `new` made reads all records of the file, and nothing else.
from_start : {file : Bor (List ℕ)} {r : Reader} → Starts file r → records_from r.file.now r.at ≡ all_records file.now
from_start s = rw (s.0, s.1)

pub reads_whole : {file : Bor (List ℕ)} {r : Reader} → Starts file r → Reads r (all_records file.now)
reads_whole {file} {r} s = subst (Reads r) (from_start s) (reads_all r)

pub reads_whole_only : {file : Bor (List ℕ)} {r : Reader} {l : List Parts} → Starts file r → Reads r l → l ≡ all_records file.now
reads_whole_only s reads = reads_only reads ∙ from_start s

-- ---- the record with a number

-- What `Reader::next` says of one call.
abbrev steps : Reader → Option Record → Reader → Type 0
steps r answer moved = Gives r (of_found answer) × Moves r moved

-- Calls that gave some records leave those behind them.
calls_give : (xs : List Record) (r t : Reader) → Yields steps r xs t → records_from r.file.now r.at ≡ map parts_of xs ++ records_from t.file.now t.at
calls_give [] r t same = rw same
calls_give (x ∷ xs) r t (j, call, later) = call_gives r j call.0 call.1 ∙ ap (λ (l : List Parts). parts_of x ∷ l) (calls_give xs j t later)

behind : (xs : List Record) (p : Parts) (rest : List Parts) → slice_get (map parts_of xs ++ (p ∷ rest)) (length xs) ≡ Some p
behind [] p rest = refl
behind (x ∷ xs) p rest = behind xs p rest

-- So the call after n of them gives the one with the number n, or none where there are no more.
nth_gives : (r t : Reader) (n : ℕ) (o : Option Record) → SkipsThenYields steps r n o t → of_found o ≡ slice_get (records_from r.file.now r.at) n
nth_gives r t n (Some x) (xs, (u, before, call), passed) =
    let all : records_from r.file.now r.at ≡ map parts_of xs ++ (parts_of x ∷ records_from t.file.now t.at)
    = calls_give xs r u before ∙ ap (λ (l : List Parts). map parts_of xs ++ l) (call_gives u t call.0 call.1) in
    sym (rw (all, ← passed) (behind xs (parts_of x) (records_from t.file.now t.at)))
nth_gives r t n None (xs, (u, before, call), passed) =
    let all : records_from r.file.now r.at ≡ map parts_of xs = calls_give xs r u before ∙ ap (λ (l : List Parts). map parts_of xs ++ l) (call_ends u call.0) ∙ append-nil (map parts_of xs) in
    sym (rw all (slice_get_past (map parts_of xs) n (omega (arith, length-map xs parts_of))))

pub number_is : {file : Bor (List ℕ)} {r t : Reader} (n : ℕ) (o : Option Record) → Starts file r → SkipsThenYields steps r n o t → of_found o ≡ record_number file.now n
number_is {r = r} {t = t} n o s ran = nth_gives r t n o ran ∙ ap (λ (l : List Parts). slice_get l n) (from_start s)
