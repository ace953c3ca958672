-- Document 02, K2, "a file and its copy with T for U", of calls from C.
use Rattle.std.specs.Prelude.{◌≡◌}
use Rattle.tally_book.specs.Copies.{CallCopy}
use Rattle.kmer.specs.Demand.{Asked}

-- What two `kmer_add` calls, or two `kmer_withdraw` calls, are asked with: a file and its copy, and the same lent list.
abbrev pub AskedAlike : (asked asked' : Asked) → Type 0
AskedAlike asked asked' = CallCopy asked.call asked'.call × (asked.lent ≡ asked'.lent)
