-- `codes::to_word::fill_word` meets its contract: a code below low is that of a word with equal ends, whose inner word is written by a call on the
-- span within; any other is that of a word whose ends differ (ReadSteps).
use Rattle.std.proofs.Common.{subst, ap, ◌-◌, ℕ, ◌<◌, ◌*◌, arith, length}
use Rattle.laws.proofs.Powers.{pow-fits}
use Rattle.settings.specs.Settings.{classes}
use Rattle.codes.proofs.ReadSteps.{none_word, one_word, low_small, low_word}
use Rattle.codes.proofs.to_word.+fill_word.Goals as goal

pub returns-then-n-eq0 : goal.returns-then-n-eq0
returns-then-n-eq0 t c = none_word c.args.s c.args.m c.args.q c.args.out.now c.if-n-eq0.true

pub returns-then-n-eq1 : goal.returns-then-n-eq1
returns-then-n-eq1 t c =
    one_word c.args.s c.args.m c.args.q c.args.out.now c.if-n-eq1.true _ c.middle_of.ensures

pub class_count-requires : goal.class_count-requires
class_count-requires t c =
    let n = length c.args.out.now in
    let within = c.requires.0 in
    (within.two, pow-fits c.args.s (n - 2) n within.two (omega arith) within.small)

pub overflow_mul-low : goal.overflow_mul-low
overflow_mul-low t c =
    let a = c.args in
    omega (arith, low_small a.s a.m a.out.now (omega arith) c.requires.0, ap (λ (x : ℕ). a.s * x) c.class_count.ensures)

pub returns-then-q-low : goal.returns-then-q-low
returns-then-q-low t c =
    let a = c.args in
    let below_low : a.q < a.s * classes a.s a.m (length a.out.now - 2) = subst (λ (x : ℕ). a.q < a.s * x) c.class_count.ensures c.if-q-low.true in
    low_word a.s a.m a.out.now (omega arith) a.q below_low _ _ _ c.mirror_rank.ensures c.set_ends.ensures c.fill_word.ensures
