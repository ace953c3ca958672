-- `any_alphabet::middle_code` meets its contract. A case for each mirror and, under complement, for each half of the ranks (OneLetter).
use Rattle.any_alphabet.proofs.OneLetter.{one_reversed, one_low, one_high}
use Rattle.any_alphabet.proofs.middle_code.Goals as goal

pub returns-in-Reversal : goal.returns-in-Reversal
returns-in-Reversal c =
    one_reversed c.args.s c.args.x c.requires.lt_s c.requires.x_lt_s c.in-Reversal.is

pub returns-then-x-half : goal.returns-then-x-half
returns-then-x-half c =
    one_low c.args.s c.args.x c.requires.lt_s c.requires.x_lt_s c.in-Complement.is c.if-x-half.true

pub returns-else-x-half : goal.returns-else-x-half
returns-else-x-half c =
    one_high c.args.s c.args.x c.requires.lt_s c.requires.x_lt_s c.in-Complement.is c.if-x-half.false
