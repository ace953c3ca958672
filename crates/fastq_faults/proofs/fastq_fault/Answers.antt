-- `fastq_faults::fastq_fault` meets its contract. The invariant: the file's first fault is the first from the record at `header` on.
use Rattle.std.proofs.Common.{◌≡◌, sym, ◌∙◌, Some, Result, arith}
use Rattle.std.specs.Result.{IsErrAnd}
use Rattle.std.proofs.lemmas.Result.{err_from_is_err_and}
use Rattle.settings.specs.declared.Refusal.{Refusal}
use Rattle.settings.specs.Grounds.{fault_of, ground_of}
use Rattle.fastq_faults.proofs.Records.{faulty_record, clean_record, later_record, no_record}
use Rattle.fastq_faults.proofs.fastq_fault.Goals as goal

-- What the `?` returns where a record is at fault: that fault.
passed_on : (r : Result (Unit {0}) Refusal) (f : Refusal) → IsErrAnd r (λ x. x ≡ f) → fault_of r ≡ Some (ground_of f)
passed_on r f e = let (x, is, same) = err_from_is_err_and r e in rw (is, same)

pub returns-in_err-fault : goal.returns-in_err-fault
returns-in_err-fault c =
    let r = c.at-record in
    passed_on _ _ c.from_residual.ensures.1 ∙ faulty_record r.ensures.file r.ensures.header r.result.lines c.in_err-fault.ensures ∙ sym c.loop-header.invariant

pub loop-header-smaller : goal.loop-header-smaller
loop-header-smaller c = omega (arith, later_record c.at-record.ensures.file c.at-record.ensures.header c.at-record.result.lines)

pub loop-header-preserved : goal.loop-header-preserved
loop-header-preserved c =
    let r = c.at-record in
    c.loop-header.invariant ∙ clean_record r.ensures.file r.ensures.header r.result.lines c.in_ok-fault.ensures

pub returns : goal.returns
returns c = sym (c.loop-header.invariant ∙ no_record _ _ c.loop-header-test.false)
