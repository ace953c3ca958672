-- `fastq_faults::quality_fault` meets its contract: the lengths first, then the bytes.
use Rattle.std.proofs.Common.{rules, None}
use Rattle.fastq.specs.Fastq.{is_quality}
use Rattle.fastq_faults.proofs.Searching.{fails_at, fails_nowhere}
use Rattle.fastq_faults.proofs.Records.{length_differs, length_agrees}
use Rattle.fastq_faults.proofs.quality_fault.Goals as goal

pub returns-then-quality-count : goal.returns-then-quality-count
returns-then-quality-count c = length_differs c.args.count c.args.at c.args.quality.now c.if-quality-count.true

pub returns-in-Some : goal.returns-in-Some
unfolding is_quality
returns-in-Some c =
    let a = c.args in
    let found = c.in-Some.ensures in
    let first = fails_at is_quality a.at a.quality.now c.in-Some.p found.0 (search rules) (λ k h. let passes = found.2 k h in search rules) in
    length_agrees a.count a.at a.quality.now _ c.if-quality-count.false first

pub returns-in-None : goal.returns-in-None
unfolding is_quality
returns-in-None c =
    let a = c.args in
    let all = c.in-None.ensures in
    let none = fails_nowhere is_quality a.at a.quality.now (λ k h. let passes = all k h in search rules) in
    length_agrees a.count a.at a.quality.now None c.if-quality-count.false none
