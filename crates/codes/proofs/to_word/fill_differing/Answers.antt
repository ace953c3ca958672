-- `codes::to_word::fill_differing` meets its contract. The high part of the code ranks the pair of the ends, the rest the letters within (ReadSteps).
use Rattle.codes.proofs.ReadSteps.{p_is, p_pos, rank_below, right_lt, remainder_lt, part_length, high_word}
use Rattle.codes.proofs.to_word.fill_differing.Goals as goal

pub nonzero_div-q : goal.nonzero_div-q
nonzero_div-q c = p_pos c.requires c.power-p.ensures

pub pair_of-l-requires : goal.pair_of-l-requires
pair_of-l-requires c = rank_below c.requires c.power-p.ensures

pub mirror_rank-requires : goal.mirror_rank-requires
mirror_rank-requires c = right_lt c.requires c.power-p.ensures _ _ c.pair_of-l.ensures

pub nonzero_rem-q : goal.nonzero_rem-q
nonzero_rem-q c = p_pos c.requires c.power-p.ensures

pub fill_plain-requires : goal.fill_plain-requires
fill_plain-requires c =
    (c.requires.limits.two, remainder_lt c.requires c.power-p.ensures _ (part_length c.args.out.now _ c.requires.long _ _ c.set_ends.ensures))

pub returns : goal.returns
returns c =
    let a = c.args in
    high_word a.s a.m a.out.now c.requires.long a.q _ (p_is c.requires c.power-p.ensures) _ _ _ _ _ c.pair_of-l.ensures
    c.mirror_rank.ensures c.set_ends.ensures c.fill_plain.ensures
