-- Letters and records written one after the other: what a writer has still to write of them. From the definitions of lines and records, by one letter, one
-- line end, one line, one record.
use Rattle.std.proofs.Common.{◌≡◌, ℕ, zero, suc, ◌+◌, ◌-◌, ◌<◌, ◌≤◌, min, Bool, true, false, cond, eqb, ltb, ltb-true, ltb-false, List, [], ◌∷◌, ◌++◌, append_assoc, append-nil, length, take, drop, set, length-set, map, get_or, refl, sym, ap, ◌∙◌, add-one, zero-add, suc-add, arith, eq-eqb, ne_eqb}
use Rattle.laws.specs.Text.{bytes}
use Rattle.encoding.specs.Calls.{in_capitals}
use Rattle.texts.specs.Decimals.{decimal}
use Rattle.texts.specs.declared.Writer.{Writer}
use Rattle.texts.specs.Needs.{top, Puts, Writes}
use Rattle.texts.proofs.Writing.{Lacks, lacks_all, lacks_less, lacks_none, then}
use Rattle.testload.specs.TestLoad.{stepped, drawn_rank, drawn, drawn_letters, in_lines, state_after, record_text, records_from}
use lib.Seq.{sets, sets-eq, take-length, take-suc-set}
use borrow.Rule.Slice.PartMut.{put_mid}
use Rattle.std.proofs.lemmas.Slice.{put_mid-paste}
use Rattle.std.proofs.lemmas.List.{map-append}
use Rattle.testload.proofs.Drawn.{length-letters}

-- ---- the letters of a record

-- Letters are drawn in parts, each from the state after the one before.
state_parts : (n m x : ℕ) → state_after (n + m) x ≡ state_after m (state_after n x)
unfolding state_after
state_parts zero m x = rw (zero-add m)
state_parts (suc n) m x = rw (suc-add n m) (state_parts n m (stepped x))

drawn_parts : (s n m x : ℕ) → drawn s (n + m) x ≡ drawn s n x ++ drawn s m (state_after n x)
unfolding drawn state_after
drawn_parts s zero m x = rw (zero-add m)
drawn_parts s (suc n) m x = rw (suc-add n m) (ap (λ (l : List ℕ). drawn_rank s (stepped x) ∷ l) (drawn_parts s n m (stepped x)))

letters_parts : (letters : List ℕ) (n m x : ℕ) → drawn_letters letters (n + m) x ≡ drawn_letters letters n x ++ drawn_letters letters m (state_after n x)
unfolding drawn_letters in_capitals
letters_parts letters n m x =
    ap (map (λ (i : ℕ). get_or letters i 0)) (drawn_parts (length letters) n m x)
    ∙ map-append (λ (i : ℕ). get_or letters i 0) (drawn (length letters) n x) (drawn (length letters) m (state_after n x))

-- The letter that the state after x gives.
abbrev pub next_letter : (letters : List ℕ) (x : ℕ) → ℕ
next_letter letters x = get_or letters (drawn_rank (length letters) (stepped x)) 0

-- The first i places of a line have their letters, and x is the state with which the next is drawn.
pub record DrawnTo (letters : List ℕ) (n : ℕ) (line : List ℕ) (i start x : ℕ) : Type 0 where
  pub long : length line ≡ n
  pub within : i ≤ n
  pub front : take i line ≡ drawn_letters letters i start
  pub goes_on : x ≡ state_after i start

pub drawn_first : (letters line : List ℕ) (start : ℕ) → DrawnTo letters (length line) line 0 start start
unfolding drawn_letters drawn in_capitals state_after
drawn_first letters line start = record { long = refl; within = omega arith; front = refl; goes_on = refl }

-- One letter, and the state after it.
one_letter : (letters : List ℕ) (x : ℕ) → drawn_letters letters 1 x ≡ next_letter letters x ∷ []
unfolding drawn_letters drawn in_capitals
one_letter letters x = refl

one_state : (x : ℕ) → state_after 1 x ≡ stepped x
unfolding state_after
one_state x = refl

module _ {letters : List ℕ} {n : ℕ} {line : List ℕ} {i start x : ℕ} (D : DrawnTo letters n line i start x) where
  pub drawn_more : i < n → {b y : ℕ} → b ≡ next_letter letters x → y ≡ stepped x
      → DrawnTo letters n (set line i b) (i + 1) start y
  drawn_more inside {b} {y} letter step =
      let more : take (i + 1) (set line i b) ≡ take i line ++ (b ∷ []) =
      ap (λ (j : ℕ). take j (set line i b)) (add-one i) ∙ take-suc-set line i b (omega (arith, D.long)) in
      let next : drawn_letters letters 1 (state_after i start) ≡ b ∷ [] =
      ap (drawn_letters letters 1) (sym D.goes_on) ∙ one_letter letters x ∙ ap (λ (a : ℕ). a ∷ []) (sym letter) in
      record {
        long = length-set line i b ∙ D.long;
        within = omega arith;
        front =
            more ∙ ap (λ (l : List ℕ). l ++ (b ∷ [])) D.front
            ∙ ap (λ (l : List ℕ). drawn_letters letters i start ++ l) (sym next)
            ∙ sym (letters_parts letters i 1 start);
        goes_on = step ∙ ap stepped D.goes_on ∙ sym (one_state (state_after i start)) ∙ sym (state_parts i 1 start);
      }

  -- The whole line.
  module _ (all : n ≤ i) where
    last : i ≡ n
    last = omega (arith, D.within)

    pub drawn_whole : line ≡ drawn_letters letters n start
    drawn_whole =
        sym (take-length line) ∙ ap (λ (j : ℕ). take j line) (omega (arith, D.long, last)) ∙ D.front ∙ ap (λ (j : ℕ). drawn_letters letters j start) last

    pub drawn_state : x ≡ state_after n start
    drawn_state = D.goes_on ∙ ap (λ (j : ℕ). state_after j start) last

-- A part of a buffer that is a text now, of n bytes, is that text set there.
set_part : (out part text : List ℕ) (at k n : ℕ) → k ≡ n → part ≡ text → length text ≡ n → at + n ≤ length out → put_mid at k out part ≡ sets out at text
set_part out part text at k n K P long fits =
    put_mid-paste at k out part text n P (sym K) (sym long)
    ∙ ap (λ (q : List ℕ). take at out ++ q ++ drop (at + n) out) (ap (λ (i : ℕ). take i text) (sym long) ∙ take-length text)
    ∙ ap (λ (i : ℕ). take at out ++ text ++ drop (at + i) out) (sym long)
    ∙ sym (sets-eq text out at (omega (arith, long, fits)))

-- The letters of a line that were drawn in their places of a writer's buffer.
pub drawn_there : (letters out line : List ℕ) (at k n m start : ℕ) → k ≡ n → m ≡ n → line ≡ drawn_letters letters m start → at + n ≤ length out → length out ≤ top
    → Puts out (put_mid at k out line) at (at + n) (drawn_letters letters n start)
drawn_there letters out line at k n m start K M P fits few =
    let long : length (drawn_letters letters n start) ≡ n = length-letters letters n start in
    record {
      place = omega (arith, long, fits, few);
      leaves = set_part out line (drawn_letters letters n start) at k n K (P ∙ ap (λ (i : ℕ). drawn_letters letters i start) M) long fits;
      bounded = few;
    }

-- The letters that fill a line, of which j stand there already, and others behind them.
full_line : (j : ℕ) (ls q : List ℕ) → 0 < length ls → j + length ls ≡ 60 → in_lines j (ls ++ q) ≡ ls ++ (10 ∷ in_lines 0 q)
unfolding in_lines
full_line j [] q some e = absurd (omega arith)
full_line j (b ∷ []) q some e = rw (eq-eqb (suc j) 60 (omega (arith, e)))
full_line j (b ∷ (d ∷ ls)) q some e =
    rw (ne_eqb (suc j) 60 (λ h. omega (arith, e, h))) (ap (λ (l : List ℕ). b ∷ l) (full_line (suc j) (d ∷ ls) q (omega arith) (omega (arith, e))))

-- The letters that end a line before it is full, and none behind them.
last_line : (j : ℕ) (ls : List ℕ) → 0 < j + length ls → j + length ls < 60 → in_lines j ls ≡ ls ++ (10 ∷ [])
unfolding in_lines
last_line j [] some h = rw (ne_eqb j 0 (λ e. omega (arith, e)))
last_line j (b ∷ ls) some h =
    rw (ne_eqb (suc j) 60 (λ e. omega (arith, e))) (ap (λ (l : List ℕ). b ∷ l) (last_line (suc j) ls (omega arith) (omega arith)))

-- The letters that are left, of whose line `column` stand before them.
abbrev pub left_lines : (letters : List ℕ) (column left x : ℕ) → List ℕ
left_lines letters column left x = in_lines column (drawn_letters letters left x)

-- Of a record's letters `left` are still to be written, from the state x on; `column` others stand before them in their line, fewer than 60.
pub record Drawing (u w : Writer) (letters : List ℕ) (each start column left x : ℕ) : Type 0 where
  pub lacks : Lacks u w (left_lines letters 0 each start) (left_lines letters column left x)
  pub goes_on : state_after each start ≡ state_after left x
  pub short : column < 60

pub drawing_all : (w : Writer) (letters : List ℕ) (each left x : ℕ) → left ≡ each → Drawing w w letters each x 0 left x
drawing_all w letters each left x all =
    record { lacks = rw all (lacks_all w (left_lines letters 0 each x)); goes_on = rw all; short = omega arith }

-- ---- a letter more

letter_first : (letters : List ℕ) (column left x : ℕ) → left_lines letters column (suc left) x
    ≡ next_letter letters x
    ∷ cond (eqb (suc column) 60) (10 ∷ left_lines letters 0 left (stepped x)) (left_lines letters (suc column) left (stepped x))
unfolding drawn_letters drawn in_capitals in_lines
letter_first letters column left x = refl

module _ {u v : Writer} {letters : List ℕ} {each start column left left' x : ℕ} (D : Drawing u v letters each start column left x) (one_more : left ≡ suc left') where
  first : left_lines letters column left x
      ≡ next_letter letters x
      ∷ cond (eqb (suc column) 60) (10 ∷ left_lines letters 0 left' (stepped x)) (left_lines letters (suc column) left' (stepped x))
  first = rw one_more (letter_first letters column left' x)

  state_on : state_after each start ≡ state_after left' (stepped x)
  unfolding state_after
  state_on = D.goes_on ∙ rw one_more

  -- One letter more, b, in the same line; or the line's last letter and its end.
  module _ {b y : ℕ} (letter : b ≡ next_letter letters x) (step : y ≡ stepped x) {w : Writer} (P : Writes v w (b ∷ [])) where
    pub letter_drawn : column + 1 < 60 → Drawing u w letters each start (column + 1) left' y
    letter_drawn within =
        let same_line : left_lines letters column left x ≡ (b ∷ []) ++ left_lines letters (column + 1) left' y =
        first ∙ rw (ne_eqb (suc column) 60 (λ e. omega arith), add-one column, step, letter) in
        record { lacks = lacks_less (b ∷ []) (rw same_line at D.lacks) P; goes_on = rw step state_on; short = within }

    pub line_drawn : column + 1 ≡ 60 → {z : Writer} → Writes w z (10 ∷ []) → Drawing u z letters each start 0 left' y
    line_drawn full Q =
        let line_ended : left_lines letters column left x ≡ (b ∷ (10 ∷ [])) ++ left_lines letters 0 left' y =
        first ∙ rw (eq-eqb (suc column) 60 (omega arith), step, letter) in
        record { lacks = lacks_less (b ∷ (10 ∷ [])) (rw line_ended at D.lacks) (then P Q); goes_on = rw step state_on; short = omega arith }

-- ---- a line more

-- The first line of the letters that are left, and those behind it.
no_letters : (letters : List ℕ) (m x : ℕ) → m ≡ 0 → drawn_letters letters m x ≡ []
unfolding drawn_letters drawn in_capitals
no_letters letters m x none = rw none

no_lines : in_lines 0 [] ≡ []
unfolding in_lines
no_lines = refl

-- A line and what is behind it, where the line is full or nothing is.
line_first : (line behind : List ℕ) (left : ℕ) → 0 < left → length line ≡ min left 60 → (left < 60 → behind ≡ [])
    → in_lines 0 (line ++ behind) ≡ (line ++ (10 ∷ [])) ++ in_lines 0 behind
line_first line behind left some long none = go (ltb left 60) refl
  where
    go : (b : Bool) → ltb left 60 ≡ b → in_lines 0 (line ++ behind) ≡ (line ++ (10 ∷ [])) ++ in_lines 0 behind
    go false h =
        full_line 0 line behind (omega (arith, long, some)) (omega (arith, long, ltb-false left 60 h))
        ∙ sym (append_assoc line (10 ∷ []) (in_lines 0 behind))
    go true h =
        let e : behind ≡ [] = none (ltb-true left 60 h) in
        ap (λ (q : List ℕ). in_lines 0 (line ++ q)) e
        ∙ ap (in_lines 0) (append-nil line)
        ∙ last_line 0 line (omega (arith, long, some)) (omega (arith, long, ltb-true left 60 h))
        ∙ sym (append-nil (line ++ (10 ∷ [])))
        ∙ ap (λ (q : List ℕ). (line ++ (10 ∷ [])) ++ q) (sym no_lines)
        ∙ ap (λ (q : List ℕ). (line ++ (10 ∷ [])) ++ in_lines 0 q) (sym e)

next_line : (letters : List ℕ) (left x n : ℕ) → 0 < left → n ≡ min left 60
    → left_lines letters 0 left x ≡ (drawn_letters letters n x ++ (10 ∷ [])) ++ left_lines letters 0 (left - n) (state_after n x)
next_line letters left x n some e =
    let all : left ≡ n + (left - n) = omega (arith, e) in
    let behind : List ℕ = drawn_letters letters (left - n) (state_after n x) in
    ap (λ (i : ℕ). left_lines letters 0 i x) all ∙ ap (in_lines 0) (letters_parts letters n (left - n) x)
    ∙ line_first (drawn_letters letters n x) behind left some (length-letters letters n x ∙ e)
    (λ few. no_letters letters (left - n) (state_after n x) (omega (arith, e, few)))

-- A whole line more, and its end.
pub whole_line_drawn : {u v w z : Writer} {letters : List ℕ} {each start left x : ℕ} → Drawing u v letters each start 0 left x → (n : ℕ) → 0 < left → n ≡ min left 60
    → {m : ℕ} → m ≡ n → {line : List ℕ} {y : ℕ} → line ≡ drawn_letters letters m x → y ≡ state_after m x → Writes v w line → Writes w z (10 ∷ [])
    → Drawing u z letters each start 0 (left - n) y
whole_line_drawn {u} {v} {w} {z} {letters} {each} {start} {left} {x} D n some e {m} long {line} {y} drawn_is goes P Q =
    let all : left ≡ n + (left - n) = omega (arith, e) in
    let text : left_lines letters 0 left x ≡ (line ++ (10 ∷ [])) ++ left_lines letters 0 (left - n) y =
    next_line letters left x n some e ∙ rw (drawn_is, goes, long) in
    record {
      lacks = lacks_less (line ++ (10 ∷ [])) (rw text at D.lacks) (then P Q);
      goes_on = D.goes_on ∙ ap (λ (i : ℕ). state_after i x) all ∙ state_parts n (left - n) x ∙ rw (goes, long);
      short = D.short;
    }

-- ---- none is left

-- Behind the last letter: an LF, where its line is not ended.
module _ {u v : Writer} {letters : List ℕ} {each start column left x : ℕ} (D : Drawing u v letters each start column left x) (none_left : left ≡ 0) where
  pub last_state : x ≡ state_after each start
  unfolding state_after
  last_state = sym (D.goes_on ∙ rw none_left)

  pub last_ended : 0 < column → {w : Writer} → Writes v w (10 ∷ []) → Writes u w (left_lines letters 0 each start)
  unfolding drawn_letters drawn in_capitals in_lines
  last_ended some_column P =
      let one_end : left_lines letters column left x ≡ 10 ∷ [] = rw (none_left, ne_eqb column 0 (λ e. omega arith)) in
      lacks_none (lacks_less (10 ∷ []) (rw one_end at D.lacks) P)

  pub all_ended : column ≤ 0 → Writes u v (left_lines letters 0 each start)
  unfolding drawn_letters drawn in_capitals in_lines
  all_ended no_column =
      let e : column ≡ 0 = omega arith in
      let no_end : left_lines letters column left x ≡ [] = rw (none_left, e) in
      lacks_none (rw no_end at D.lacks)

-- Where each line was written whole, there is nothing to end.
pub all_drawn : {u v : Writer} {letters : List ℕ} {each start left x : ℕ} → Drawing u v letters each start 0 left x → left ≡ 0
    → Writes u v (left_lines letters 0 each start)
all_drawn D none_left = all_ended D none_left (omega arith)

-- ---- a record

-- A record is its header line and its letters.
pub record_drawn : (letters : List ℕ) (each i x : ℕ) {t u v w : Writer} → Writes t u (bytes ">" ++ decimal i) → Writes u v (bytes "\n")
    → Writes v w (in_lines 0 (drawn_letters letters each x))
    → Writes t w (record_text letters each i x)
unfolding record_text
record_drawn letters each i x P Q R = then P (then Q R)

-- ---- records

-- The records behind the first i.
abbrev pub left_records : (letters : List ℕ) (each records i x : ℕ) → List ℕ
left_records letters each records i x = records_from letters each (i + 1) (records - i) x

-- The records behind the first i are still to be written, from the state x on.
abbrev pub Recording : (u w : Writer) (letters : List ℕ) (each records start i x : ℕ) → Type 0
Recording u w letters each records start i x = Lacks u w (records_from letters each 1 records start) (left_records letters each records i x)

pub recording_all : (w : Writer) (letters : List ℕ) (each records start : ℕ) → Recording w w letters each records start 0 start
recording_all w letters each records start =
    let all : records - 0 ≡ records = omega arith in
    rw all (lacks_all w (records_from letters each 1 records start))

record_first : (letters : List ℕ) (each records i x : ℕ) → i < records
    → left_records letters each records i x ≡ record_text letters each (i + 1) x ++ left_records letters each records (i + 1) (state_after each x)
unfolding records_from
record_first letters each records i x more = let left : records - i ≡ suc (records - (i + 1)) = omega arith in rw (left, ← add-one (i + 1))

pub record_on : {u v w : Writer} (letters : List ℕ) (each records start i x : ℕ) {y : ℕ} → i < records → Recording u v letters each records start i x
    → Writes v w (record_text letters each (i + 1) x) → y ≡ state_after each x → Recording u w letters each records start (i + 1) y
record_on letters each records start i x more R P step =
    rw step (lacks_less (record_text letters each (i + 1) x) (rw (record_first letters each records i x more) at R) P)

pub recording_none : {u w : Writer} (letters : List ℕ) (each records start i x : ℕ) → records ≤ i → Recording u w letters each records start i x
    → Writes u w (records_from letters each 1 records start)
unfolding records_from
recording_none letters each records start i x h R = let none_left : records - i ≡ 0 = omega arith in lacks_none (rw none_left at R)
