-- `kmer::call_into` meets its contract: a refusal leaves the table and the list as they were; else the list has the file's five numbers.
use Rattle.settings.proofs.Outcomes.{passed_on}
use Rattle.files.specs.File.{as_file}
use Rattle.second_pass.proofs.SecondPass.{file_of_lem}
use Rattle.kmer.proofs.FileCalls.{into_bad, into_short, into_refused, into_taken}
use Rattle.kmer.proofs.call_into.Goals as goal

pub returns-in_err-ready : goal.returns-in_err-ready
returns-in_err-ready c =
    rw (passed_on _ _ c.from_residual.ensures.1) (into_bad _ _ _ _ _ _ (as_file c.args.file.now) (file_of_lem c.args.way _) _ _ c.in_err-ready.ensures)

pub returns-then-answer-lt5 : goal.returns-then-answer-lt5
returns-then-answer-lt5 c = into_short _ _ _ _ _ _ (as_file c.args.file.now) (file_of_lem c.args.way _) _ c.in_ok-ready.ensures c.if-answer-lt5.true

pub returns-in_err-numbers : goal.returns-in_err-numbers
returns-in_err-numbers c =
    rw (passed_on _ _ c.from_residual-in_err-numbers.ensures.1) (into_refused _ _ _ _ _ _ c.if-answer-lt5.false _ c.in_err-numbers.ensures)

pub returns : goal.returns
returns c = into_taken _ _ _ _ _ _ c.if-answer-lt5.false _ c.in_ok-numbers.ensures c.write_numbers.ensures
