-- `words::letters::write_word` meets its contract. The first k places hold the word of the code (ReadSteps), which is written in capitals.
use Rattle.std.proofs.Common.{ℕ, ◌<◌, length, sym, arith}
use mathlib.Core.Path.{subst⁻¹}
use Rattle.settings.specs.Limits.{Limits}
use Rattle.settings.specs.Settings.{classes}
use Rattle.settings.proofs.Limits.{k_at_most}
use Rattle.codes.proofs.ReadSteps.{zeros_length, filled_length, filled_ranks, filled_written}
use Rattle.words.proofs.letters.write_word.Goals as goal

pub slice_bounds-places-end : goal.slice_bounds-places-end
slice_bounds-places-end c = omega (arith, k_at_most c.requires.0)

pub slice_bounds-ranks-end : goal.slice_bounds-ranks-end
slice_bounds-ranks-end c = sym (zeros_length c.requires.0)

pub fill_word-requires : goal.fill_word-requires
fill_word-requires c =
    let a = c.args in
    let s = length a.letters.now in
    let k-places = zeros_length c.requires.0 in
    (subst⁻¹ (λ (n : ℕ). Limits s n) k-places c.requires.0, subst⁻¹ (λ (n : ℕ). a.q < classes s a.m n) k-places c.requires.1)

pub write_letters-requires : goal.write_letters-requires
write_letters-requires c =
    let a = c.args in (
      filled_ranks a.letters.now a.k a.m a.q c.requires.0 c.requires.1 c.fill_word.ensures,
      omega (arith, filled_length a.letters.now a.k a.m a.q c.requires.0 c.requires.1 c.fill_word.ensures, c.requires.2),
    )

pub returns : goal.returns
returns c =
    let a = c.args in
    filled_written a.letters.now a.k a.m a.q c.requires.0 c.requires.1 c.fill_word.ensures _ _ c.write_letters.ensures
