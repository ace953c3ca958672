-- The loops of this function: what holds at each turn, and what falls.
use Rattle.std.proofs.Common.{◌≡◌, ◌-◌, length, drop}
use Rattle.lines.specs.Lines.{lines}
use Rattle.fastq.specs.Fastq.{fastq_fault}
use Rattle.fastq_faults.proofs.fastq_fault.Given as goal

abbrev pub invariant-loop-header : goal.invariant-loop-header
invariant-loop-header l = fastq_fault 0 (lines l.file) ≡ fastq_fault l.header (lines (drop l.header l.file))

abbrev pub decreases-loop-header : goal.decreases-loop-header
decreases-loop-header l = length l.file - l.header
