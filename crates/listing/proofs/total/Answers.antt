-- `listing::total` meets its contract: std's sum is the sum of the counts.
use Rattle.std.proofs.Common.{◌≡◌, ◌∙◌, rules}
use Rattle.std.specs.List.{sum_by}
use Rattle.listing.proofs.Lines.{counts-add-up, sum_by_is}
use Rattle.listing.proofs.total.Goals as goal

pub returns : goal.returns
returns c =
    let summed : c.sum.result ≡ sum_by (λ n. n) c.args.counts.now = search rules in
    summed ∙ sum_by_is counts-add-up c.args.counts.now
