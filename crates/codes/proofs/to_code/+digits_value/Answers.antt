-- `codes::to_code::digits_value` meets its contract: the digits of the word within, two letters shorter, or those of a word whose ends differ (DigitValues).
use Rattle.std.proofs.Common.{◌∙◌, ◌-◌, ◌<◌, ℕ, length, take, drop, subst, arith}
use Rattle.codes.proofs.DigitValues.{digits-none, digits-one, shorter, inner_canonical, value_equal, value_small, fit_differing, differing_answer}
use Rattle.codes.proofs.to_code.+digits_value.Goals as goal

pub returns-in-empty : goal.returns-in-empty
returns-in-empty t c = digits-none c.args.s c.args.m c.args.w.now c.in-empty.len_below

pub returns-in-len1 : goal.returns-in-len1
returns-in-len1 t c = c.mirror_rank.ensures ∙ digits-one c.args.s c.args.m c.args.w.now c.in-len1.len_at_least c.in-len1.len_below

pub digits_value-requires : goal.digits_value-requires
digits_value-requires t c =
    let w = c.args.w.now in
    let two = c.in-len2-up.len_at_least in
    let e = c.if-first-last.true ∙ c.mirror_rank-last.ensures in
    (subst (λ (j : ℕ). length (take (length w - 1 - 1) (drop 1 w)) < j) c.decreases (shorter c.requires two), inner_canonical c.requires two e)

pub overflow_add-result : goal.overflow_add-result
overflow_add-result t c =
    let two = c.in-len2-up.len_at_least in
    let e = c.if-first-last.true ∙ c.mirror_rank-last.ensures in
    omega (arith, c.mirror_rank-last.ensures, value_equal c.requires two e _ c.digits_value.ensures, value_small c.requires two)

pub overflow_mul-result : goal.overflow_mul-result
overflow_mul-result t c = omega (arith, overflow_add-result t c)

pub returns-then-first-last : goal.returns-then-first-last
returns-then-first-last t c =
    let e = c.if-first-last.true ∙ c.mirror_rank-last.ensures in
    rw c.mirror_rank-last.ensures (value_equal c.requires c.in-len2-up.len_at_least e _ c.digits_value.ensures)

pub differing_value-requires : goal.differing_value-requires
differing_value-requires t c = fit_differing c.requires c.in-len2-up.len_at_least _ c.mirror_rank-last.ensures c.if-first-last.false

pub returns-else-first-last : goal.returns-else-first-last
returns-else-first-last t c =
    differing_answer c.requires c.in-len2-up.len_at_least _ c.mirror_rank-last.ensures c.if-first-last.false _ c.differing_value.ensures
