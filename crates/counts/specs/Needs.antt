-- What the functions that count codes, or take them away, ask of each other and promise each other. No claim and no call of document 01 rests on it.
use Rattle.std.specs.Prelude.{◌≡◌, ℕ, ◌+◌, ◌<◌, ◌≤◌, Bool, cond, List, length, get_or, take}
use Rattle.tally_book.specs.Table.{changes, one_more, one_less, occurrences, lacks}
use Rattle.counts.specs.declared.Way.{Way}
use Rattle.counts.specs.declared.Way.TheVariants.{In, Out}

-- What a way makes of a count.
abbrev pub by_way : Way → ℕ → ℕ
by_way In = one_more
by_way Out = one_less

-- Each count can take as many more as its place is named.
pub record Fits (places counts : List ℕ) : Type 0 where
  pub at : (q : ℕ) → q < length counts → get_or counts q 0 + occurrences q places ≤ 4294967295

-- Each count is at least as high as its place is named.
pub record Enough (places counts : List ℕ) : Type 0 where
  pub at : (q : ℕ) → q < length counts → occurrences q places ≤ get_or counts q 0

-- No count is left to be taken away: it is that of a class, and 0.
pub record NoneLeft (way : Way) (counts : List ℕ) (q : ℕ) : Type 0 where
  pub out : way ≡ Out
  pub inside : q < length counts
  pub zero : get_or counts q 0 ≡ 0

-- The counts once the first r of some codes were counted or taken away; taken away, each count was high enough for them. Where r is not all of them, no
-- count is left of the next one's class.
pub record Changed (way : Way) (counts codes : List ℕ) (r : ℕ) (counts' : List ℕ) : Type 0 where
  pub upto : r ≤ length codes
  pub leaves : counts' ≡ changes (by_way way) counts (take r codes)
  pub enough : way ≡ Out → Enough (take r codes) counts
  pub stopped : r < length codes → NoneLeft way counts' (get_or codes r 0)

-- One less for each of some codes, or all counts as before where some count is too low; which of the two is answered.
pub record TakenUnlessLacking (counts codes : List ℕ) (lacking : Bool) (counts' : List ℕ) : Type 0 where
  pub answers : lacking ≡ lacks counts codes
  pub leaves : counts' ≡ cond (lacks counts codes) counts (changes one_less counts codes)
