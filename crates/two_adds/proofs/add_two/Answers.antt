-- `two_adds::add_two` meets its contract: the contracts of its calls make a list of adds after a clearing, of which demand 3 is proved.
use Rattle.tally_book.specs.Demand.Calls.{done, then}
use Rattle.tally_book.proofs.DemandThree.{demand_three}
use Rattle.two_adds.proofs.add_two.Goals as goal

pub returns : goal.returns
returns c =
    let a = c.args in
    let clearing = c.clear-cleared.ensures in
    let adds = then c.add-first.ensures (then c.add-second.ensures done) in
    record {
      table_cleared = _;
      clearing = clearing;
      adds = adds;
      demand_three = λ none_applies_lem. demand_three a.settings.now.letters.now a.settings.now.k a.settings.now.mirror none_applies_lem clearing adds;
    }
