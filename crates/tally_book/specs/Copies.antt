-- Document 02, K2: "a file and its copy with T for U", of adds and withdrawals.
use Rattle.files.specs.File.{File}
use Rattle.files.specs.Copies.{FileCopy}
use Rattle.tally_book.specs.Table.{Call, add, withdraw}

-- Two adds, or two withdrawals, of a file and of its copy.
pub data CallCopy : Call → Call → Type 0 where
  of_add : {file copy : File} → FileCopy file copy → CallCopy (add file) (add copy)
  of_withdrawal : {file copy : File} → FileCopy file copy → CallCopy (withdraw file) (withdraw copy)
