-- What functions below the calls ask of each other and promise each other: the scan takes item by item. No claim and no call of document 01 rests on it.
use Rattle.std.specs.Prelude.{ℕ, zero, suc, ◌+◌, ◌-◌, ◌≤◌, ◌≡◌, List, ◌∷◌, length, drop, Bool, true, false, cond, leb, eqb, Option, None, Some}
use Rattle.settings.specs.Grounds.{Outcome, given, refused}
use Rattle.fasta.specs.declared.Item.{Item}
use Rattle.fasta.specs.declared.Item.TheVariants.{Opens, Skip, Stray, Letter}
use Rattle.fasta.specs.declared.Mode.{Mode}
use Rattle.fasta.specs.declared.Mode.TheVariants.{Start, Header, Sequence, FastqStart, FastqHeader, FastqSequence, FastqPlus, FastqQuality}
use Rattle.fasta.specs.declared.Scanned.{Scanned}
use Rattle.fasta.specs.File.{items_from}

-- Whether the bytes of a mode are passed over, up to the line's LF.
abbrev pub is_passed_over : Mode → Bool
is_passed_over Start = false
is_passed_over Header = true
is_passed_over Sequence = false
is_passed_over FastqStart = false
is_passed_over FastqHeader = true
is_passed_over FastqSequence = false
is_passed_over FastqPlus = true
is_passed_over FastqQuality = true

-- A new record: the run ends.
abbrev pub with_header : Scanned → Scanned
with_header t = record { numbers = record t.numbers { records = t.numbers.records + 1 }; run = 0 }

-- A letter with its rank: a foreign one ends the run; a settings letter either closes a window or is one of the run's edge letters.
unfoldable pub with_letter : ℕ → Scanned → Option ℕ → Scanned
with_letter k t None =
    let n = t.numbers in
    record { numbers = record n { letters = n.letters + 1; foreign = n.foreign + 1 }; run = 0 }
with_letter k t (Some x) =
    let n = t.numbers in
    let closes = leb k (t.run + 1) in
    record {
      numbers = record n { letters = n.letters + 1; edge = n.edge + cond closes 0 1; windows = n.windows + cond closes 1 0 };
      run = t.run + 1;
    }

-- One item, that of the byte at an offset; or the ground that it is.
abbrev pub took : (ℕ → Option ℕ) → ℕ → ℕ → Scanned → Item → Outcome Scanned
took rank k at t Opens = given (with_header t)
took rank k at t Skip = given t
took rank k at t Stray = refused (10, at)
took rank k at t (Letter b) = cond (eqb t.numbers.records 0) (refused (11, at)) (given (with_letter k t (rank b)))

-- No number is above n, so that one more fits.
pub record Small (n : ℕ) (t : Scanned) : Type 0 where
  pub records : t.numbers.records ≤ n
  pub letters : t.numbers.letters ≤ n
  pub foreign : t.numbers.foreign ≤ n
  pub edge : t.numbers.edge ≤ n
  pub windows : t.numbers.windows ≤ n
  pub run : t.run ≤ n

-- So many skipped bytes in front of other items.
unfoldable pub skips : ℕ → List Item → List Item
skips zero is = is
skips (suc n) is = Skip ∷ skips n is

-- In a mode the bytes from i up to e are skipped and leave the mode as it is.
pub record Skips (file : List ℕ) (m : Mode) (i e : ℕ) : Type 0 where
  pub on : i ≤ e
  pub inside : e ≤ length file
  pub skipped : items_from m (drop i file) ≡ skips (e - i) (items_from m (drop e file))
