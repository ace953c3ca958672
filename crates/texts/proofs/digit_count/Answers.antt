-- `texts::digit_count` meets its contract, by the powers of 10 that its logarithm lies between.
use Rattle.texts.proofs.Decimals.{length_by_log}
use Rattle.texts.proofs.digit_count.Goals as goal

pub returns : goal.returns
returns c = length_by_log c.ilog10.result c.args.n (rw (← c.max.ensures) c.ilog10.ensures.power_le) (rw (← c.max.ensures) c.ilog10.ensures.next_power_gt)
