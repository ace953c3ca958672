-- Which call a way names.
use Rattle.files.specs.File.{File}
use Rattle.tally_book.specs.Table.{Call, add, withdraw}
use Rattle.counts.specs.declared.Way.{Way}
use Rattle.counts.specs.declared.Way.TheVariants.{In, Out}

-- The add or the withdrawal of a file.
abbrev pub call_of : Way → File → Call
call_of In file = add file
call_of Out file = withdraw file
