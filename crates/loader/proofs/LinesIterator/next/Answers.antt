-- `Lines::next` of `loader` meets its contract: the text that is left is cut behind its first line.
use Rattle.std.proofs.Common.{arith, rules}
use Rattle.std.proofs.lemmas.Bool.Decides.{nat_tests}
use Rattle.lines.proofs.Lines.{first_within}
use Rattle.loader.proofs.Loops.{first_line_cut}
use Rattle.loader.proofs.LinesIterator.next.Goals as goal

pub split_at-requires : goal.split_at-requires
split_at-requires c = omega (arith, c.after_line.ensures, first_within c.args.self.now.rest.now)

pub returns-clause-steps : goal.returns-clause-steps
returns-clause-steps c =
    first_line_cut c.args.self.now.rest.now (grind (arith, nat_tests)) c.after_line.ensures c.split_at.ensures.front c.split_at.ensures.back

pub returns-clause-goes : goal.returns-clause-goes
returns-clause-goes c =
    let cut = first_line_cut c.args.self.now.rest.now (grind (arith, nat_tests)) c.after_line.ensures c.split_at.ensures.front c.split_at.ensures.back in
    search rules
