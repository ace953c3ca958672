-- `lines::byte_is` meets its contract: by what `get` says of the place.
use Rattle.std.proofs.Common.{rules}
use Rattle.lines.proofs.Lines.{byte_got}
use Rattle.lines.proofs.byte_is.Goals as goal

pub returns : goal.returns
returns c = byte_got c.args.text.now c.args.at c.args.b c.get.result c.is_some_and.result c.get.ensures.lookup.3 (search rules)
