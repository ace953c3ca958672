-- `fastq_faults::text_fault` meets its contract: the first stray byte, and where there is none what `quality_fault` answers.
use Rattle.std.proofs.Common.{◌∙◌, rules, None}
use Rattle.fasta.specs.File.{is_letter}
use Rattle.fastq_faults.proofs.Searching.{fails_at, fails_nowhere}
use Rattle.fastq_faults.proofs.Records.{stray_or_quality}
use Rattle.fastq_faults.proofs.text_fault.Goals as goal

pub returns-in-Some : goal.returns-in-Some
unfolding is_letter
returns-in-Some c =
    let a = c.args in
    let found = c.in-Some.ensures in
    let first = fails_at is_letter a.from a.sequence.now c.in-Some.p found.0 (search rules) (λ k h. let passes = found.2 k h in search rules) in
    stray_or_quality a.from a.at a.sequence.now a.quality.now _ first

pub returns-in-None : goal.returns-in-None
unfolding is_letter
returns-in-None c =
    let a = c.args in
    let all = c.in-None.ensures in
    let none = fails_nowhere is_letter a.from a.sequence.now (λ k h. let passes = all k h in search rules) in
    c.quality_fault.ensures ∙ stray_or_quality a.from a.at a.sequence.now a.quality.now None none
