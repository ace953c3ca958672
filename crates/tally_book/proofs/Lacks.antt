-- Ground 18: it does not apply where each count is at least as high as its place is named, and it applies where some count is lower. From the definition
-- `lacks` (specs/Table.antt) and the laws of such tests (Some).
use Rattle.std.proofs.Common.{◌≡◌, true, false, List, ℕ, ◌<◌, ◌≤◌, length, get_or, le-ltb, lt-ltb}
use Rattle.tally_book.specs.Table.{occurrences, lacks}
use Rattle.tally_book.proofs.Some.{some_below_at, none_below_by}

pub none_lacking : (counts places : List ℕ) → ((q : ℕ) → q < length counts → occurrences q places ≤ get_or counts q 0) → lacks counts places ≡ false
none_lacking counts places enough = none_below_by (length counts) _ (λ q h. le-ltb (get_or counts q 0) (occurrences q places) (enough q h))

pub lacking_at : (counts places : List ℕ) (q : ℕ) → q < length counts → get_or counts q 0 < occurrences q places → lacks counts places ≡ true
lacking_at counts places q h low = some_below_at (length counts) _ q h (lt-ltb (get_or counts q 0) (occurrences q places) low)
