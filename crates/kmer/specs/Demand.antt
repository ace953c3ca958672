-- Demand 3 as a C program has it, through `kmer_clear`, `kmer_add` and `kmer_withdraw`. Here it is stated; proofs/DemandThree.antt has the theorems.
use Rattle.std.specs.Prelude.{◌≡◌, Bool, true, cond, ℕ, ltb, length, drop, List, [], ◌∷◌, ◌++◌, map}
use Rattle.std.specs.Option.{unwrap_or}
use mathlib.Core.List.{zip_with, Forall₂}
use Rattle.settings.specs.Grounds.{Outcome, given, refused}
use Rattle.fasta.specs.declared.Numbers.{Numbers}
use Rattle.tally_book.specs.Table.{class_count, ready_ground, Call, call_file}
use Rattle.tally_book.specs.Book.{Book, cleared_book, book_answer, book_after}
use Rattle.tally_book.specs.Demand.{Calls, TableCalls, Kept, DemandThree, SameCountsExactlyWhen}
use Rattle.returned.specs.Returned.{returned_with_place}
use Rattle.returned.specs.FileNumbers.{five_numbers}
use Rattle.kmer.specs.FileCalls.{CallsInto}
use Rattle.settings.specs.Given.{Given}

-- ---- a list of calls

-- What a `kmer_add` or a `kmer_withdraw` is asked with: a file of either kind, which the call names by its number `fastq` (`kind_of_number`), and a list of any
-- length, lent for the file's five numbers.
pub record Asked : Type 0 where
  pub call : Call
  pub lent : List ℕ

-- What it tells: the number that it returns, and the list that it leaves.
pub record Told : Type 0 where
  pub number : ℕ
  pub list : List ℕ

-- A list of such calls with the same settings, each on the table that the call before left.
abbrev pub FileCalls : (settings : Given) → (t : List ℕ) (asked : List Asked) (told : List Told) (t' : List ℕ) → Type 0
FileCalls settings = Calls (λ (t : List ℕ) (c : Asked) (a : Told) (t' : List ℕ). CallsInto settings t c.call c.lent a.number t' a.list)

-- What a call tells of its answer: 5, with the file's five numbers in the first places of the list; or the refusal with its P as one number, and the
-- list is as it was lent.
abbrev pub told_by : Outcome Numbers → Asked → Told
told_by (given n) c = record { number = 5; list = five_numbers n ++ drop 5 c.lent }
told_by (refused g) c = record { number = returned_with_place (refused g); list = c.lent }

-- ---- lists that are too short for the five numbers

abbrev pub is_short : Asked → Bool
is_short c = ltb (length c.lent) 5

-- The answer to a call with such a list: it is refused by the first of the grounds before the list's own, which read the settings, the file's length and the
-- table's; and where none of them applies by 7, "a lent buffer too short; P is the length needed, the table before others".
abbrev pub short_answer : (settings : Given) (places : ℕ) → Call → Outcome Numbers
short_answer settings places c = refused (unwrap_or (ready_ground settings places (call_file c).bytes) (7, 5))

-- An answer that is this one, if the call's list is too short.
abbrev pub RefusedIfShort : (settings : Given) (places : ℕ) → Asked → Outcome Numbers → Type 0
RefusedIfShort settings places c answer = is_short c ≡ true → answer ≡ short_answer settings places c.call

-- Of a list with one element for each call, the elements for the calls whose lists have room.
unfoldable pub with_room : {A : Type 0} → List Asked → List A → List A
with_room [] all = []
with_room (c ∷ asked) [] = []
with_room (c ∷ asked) (x ∷ all) = cond (is_short c) (with_room asked all) (x ∷ with_room asked all)

-- The adds and withdrawals that these calls are.
abbrev pub table_calls : List Asked → List Call
table_calls asked = with_room asked (map (λ (c : Asked). c.call) asked)

-- ---- the claim

-- What the tally book tells of some calls, one after the other. It is "fed each add's arguments save the table", so the lent list too: where that is too short,
-- it "answers the number and P that the rules for the grounds give, and no tally changes".
unfoldable pub book_told : (settings : Given) → Book → List Asked → List Told
book_told settings book [] = []
book_told settings book (c ∷ asked) =
    cond (is_short c)
    (told_by (short_answer settings (class_count settings) c.call) c ∷ book_told settings book asked)
    (told_by (book_answer settings book c.call) c ∷ book_told settings (book_after settings book c.call) asked)

-- What a list of such calls from the table t is: each call has an answer, and tells it. The calls whose lists have room are a list of adds and withdrawals of
-- the same files on the same table. Each other call is refused and leaves the table; its grounds read no count, and no call changes the table's length.
pub record AsTableCalls (settings : Given) (t t' : List ℕ) (asked : List Asked) (told : List Told) : Type 0 where
  pub answers : List (Outcome Numbers)
  pub each_call_told_its_answer : told ≡ zip_with told_by answers asked
  pub calls : TableCalls settings t (table_calls asked) (with_room asked answers) t'
  pub each_short_list_refused : Forall₂ (RefusedIfShort settings (length t)) asked answers

-- Demand 3 for such a list, after a `kmer_clear` on t₀ that was not refused and left t: each call told what the book did, and the rest holds of the adds and
-- withdrawals that the calls are.
pub record DemandThreeFromC (settings : Given) (t₀ t t' : List ℕ) (asked : List Asked) (told : List Told) : Type 0 where
  pub as_calls : AsTableCalls settings t t' asked told
  pub each_call_told_what_the_book_did : told ≡ book_told settings cleared_book asked
  pub demand_three : DemandThree settings t₀ t (table_calls asked) (with_room asked as_calls.answers) t'

-- The same of such a list from any table t that agrees with a book.
pub record KeptFromC (settings : Given) (book : Book) (t t' : List ℕ) (asked : List Asked) (told : List Told) : Type 0 where
  pub as_calls : AsTableCalls settings t t' asked told
  pub each_call_told_what_the_book_did : told ≡ book_told settings book asked
  pub kept : Kept settings book t (table_calls asked) (with_room asked as_calls.answers) t'

-- Two such lists, from the tables t and u: they are lists of adds and withdrawals, of which "Two such lists with the same settings leave the same counts exactly
-- when .." is said.
pub record SameCountsFromC (settings : Given) (t t' : List ℕ) (asked : List Asked) (told : List Told) (u u' : List ℕ)
    (asked' : List Asked) (told' : List Told) : Type 0 where
  pub one : AsTableCalls settings t t' asked told
  pub other : AsTableCalls settings u u' asked' told'
  pub same_counts : SameCountsExactlyWhen settings (table_calls asked) (with_room asked one.answers) t'
      (table_calls asked') (with_room asked' other.answers) u'
