-- `TwoBit::middle_code` meets its contract. What is added up is the code, which is below 2^62 (TwoRanks).
use Rattle.std.proofs.Common.{arith}
use Rattle.two_bit.proofs.TwoRanks.{rest_lt, two_fits, palindrome_is, middle_is}
use Rattle.two_bit.proofs.TwoBit.middle_code.Goals as goal

pub returns : goal.returns
returns c =
    middle_is c.args.self.now.small c.requires.word c.requires.agrees _ _ _ _ c.if-self-eq0.false c.power_of_four-one.ensures c.low_letters-rest.ensures
    c.without_low-l.ensures c.middle_digit-middle.ensures

pub returns-then-self-eq0 : goal.returns-then-self-eq0
returns-then-self-eq0 c = palindrome_is c.args.self.now.small c.requires.word c.requires.agrees _ _ c.if-self-eq0.true c.power_of_four-one.ensures c.low_letters-rest.ensures

pub overflow_sub-result : goal.overflow_sub-result
overflow_sub-result c = omega (arith, rest_lt c.args.word.lower _ _ _ c.power_of_four-one.ensures c.low_letters-rest.ensures)

pub overflow_sub-result-then-self-eq0 : goal.overflow_sub-result-then-self-eq0
overflow_sub-result-then-self-eq0 c = omega (arith, rest_lt c.args.word.lower _ _ _ c.power_of_four-one.ensures c.low_letters-rest.ensures)

pub overflow_sub-result-2 : goal.overflow_sub-result-2
overflow_sub-result-2 c = omega (arith, rest_lt c.args.word.lower _ _ _ c.power_of_four-one.ensures c.low_letters-rest.ensures)

pub overflow_sub-result-3 : goal.overflow_sub-result-3
overflow_sub-result-3 c = omega (arith, rest_lt c.args.word.lower _ _ _ c.power_of_four-one.ensures c.low_letters-rest.ensures)

pub overflow_add-result : goal.overflow_add-result
overflow_add-result c = omega (arith, returns c, two_fits c.args.self.now.small c.requires.word)

pub overflow_mul-result : goal.overflow_mul-result
overflow_mul-result c = omega (arith, overflow_add-result c)
