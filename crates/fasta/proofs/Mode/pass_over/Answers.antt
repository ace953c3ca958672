-- `Mode::pass_over` meets its contract: a stretch without LF is skipped where the mode passes over its bytes.
use Rattle.std.proofs.Common.{sym, ◌∙◌}
use Rattle.fasta.proofs.Skipping.{skips-passed, skips-none}
use Rattle.fasta.proofs.Mode.pass_over.Goals as goal

pub returns-then-is_passed_over : goal.returns-then-is_passed_over
returns-then-is_passed_over c =
    skips-passed (sym c.is_passed_over.ensures ∙ c.if-is_passed_over.true) c.requires c.line_end.ensures.none_before

pub returns-else-is_passed_over : goal.returns-else-is_passed_over
returns-else-is_passed_over c = skips-none c.requires
