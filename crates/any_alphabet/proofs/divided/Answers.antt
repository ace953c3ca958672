-- `any_alphabet::divided` meets its contract. A case for each number of letters.
use Rattle.std.proofs.Common.{◌≡◌, arith}
use Rattle.any_alphabet.proofs.divided.Goals as goal

pub returns-in-2 : goal.returns-in-2
returns-in-2 c = cc

pub returns-in-3 : goal.returns-in-3
returns-in-3 c = cc

pub returns-in-4 : goal.returns-in-4
returns-in-4 c = cc

pub returns-in-5 : goal.returns-in-5
returns-in-5 c = cc

pub returns-in-6 : goal.returns-in-6
returns-in-6 c = cc

pub returns-in_default : goal.returns-in_default
returns-in_default c = let e : c.args.s ≡ 7 = omega arith in cc

pub returns-in-8 : goal.returns-in-8
returns-in-8 c = cc

pub returns-in-9 : goal.returns-in-9
returns-in-9 c = cc

pub returns-in-10 : goal.returns-in-10
returns-in-10 c = cc

pub returns-in-11 : goal.returns-in-11
returns-in-11 c = cc

pub returns-in_default-s : goal.returns-in_default-s
returns-in_default-s c = let e : c.args.s ≡ 12 = omega arith in cc

pub returns-in-13 : goal.returns-in-13
returns-in-13 c = cc

pub returns-in-14 : goal.returns-in-14
returns-in-14 c = cc

pub returns-in-15 : goal.returns-in-15
returns-in-15 c = cc

pub returns-in_default-s-2 : goal.returns-in_default-s-2
returns-in_default-s-2 c = let e : c.args.s ≡ 16 = omega arith in cc
