-- `listing::listing_length` meets its contract: a listing is as long as its parts (`parts_are`), whose lengths are the callees' answers.
use Rattle.std.proofs.Common.{arith}
use Rattle.settings.proofs.SettingsGrounds.{good_settings}
use Rattle.listing.proofs.Lengths.{parts_are}
use Rattle.listing.proofs.listing_length.Goals as goal

pub lines_length-requires : goal.lines_length-requires
lines_length-requires c = ((good_settings _ _ _ c.requires.good).short_k, c.requires.few)

pub overflow_add-result : goal.overflow_add-result
overflow_add-result c =
    let parts = parts_are _ _ _ _ c.requires (λ i. omega (arith, c.type_inv.counts i)) c.new-w.ensures.start c.put_survey.ensures c.put_total.ensures c.lines_length.ensures in
    omega (arith, c.place.ensures, parts.1)

pub returns : goal.returns
returns c =
    let parts = parts_are _ _ _ _ c.requires (λ i. omega (arith, c.type_inv.counts i)) c.new-w.ensures.start c.put_survey.ensures c.put_total.ensures c.lines_length.ensures in
    omega (arith, c.place.ensures, parts.0)
