-- `settings::class_count` meets its contract: by cases on the mirror and on whether k is odd, from the laws of proofs/ClassCount.antt.
use native.Mathlib.Omega.{arith}
use mathlib.Core.Path.{◌≡◌, sym, ap, ◌∙◌}
use Prim.Native.Nat.{ℕ}
use Rattle.settings.specs.declared.Mirror.{Mirror}
use Rattle.settings.specs.Settings.{classes}
use Rattle.settings.proofs.ClassCount.{Powered, odd_fits, odd_reversal, even_reversal, odd_complement_fits, odd_complement, even_complement}
use borrow.Author.Rules.{rules}
use Rattle.settings.proofs.class_count.Goals as goal

-- The classes under a mirror that a match told.
under : {m told : Mirror} (s k : ℕ) → m ≡ told → classes s told k ≡ classes s m k
under s k e = ap (λ (m : Mirror). classes s m k) (sym e)

pub enum_told-1 : goal.enum_told-1
enum_told-1 c = search rules

pub overflow_add-result : goal.overflow_add-result
overflow_add-result c =
    let powered : Powered c.args.s c.args.k c.power-words.result c.power-half.result = record { two = c.requires.0; small = c.requires.1; words_by = c.power-words.ensures; half_by = c.power-half.ensures } in
    omega (arith, odd_fits _ _ _ _ powered c.if-k-eq1.true)

pub overflow_mul-result : goal.overflow_mul-result
overflow_mul-result c = omega (arith, overflow_add-result c)

pub overflow_add-result-then-k-eq1-2 : goal.overflow_add-result-then-k-eq1-2
overflow_add-result-then-k-eq1-2 c =
    omega (arith, odd_complement_fits c.args.s c.power-half.result)

pub overflow_mul-result-then-k-eq1-2 : goal.overflow_mul-result-then-k-eq1-2
overflow_mul-result-then-k-eq1-2 c = omega (arith, overflow_add-result-then-k-eq1-2 c)

pub returns-then-k-eq1 : goal.returns-then-k-eq1
returns-then-k-eq1 c =
    let powered : Powered c.args.s c.args.k c.power-words.result c.power-half.result = record { two = c.requires.0; small = c.requires.1; words_by = c.power-words.ensures; half_by = c.power-half.ensures } in
    odd_reversal _ _ _ _ powered c.if-k-eq1.true ∙ under _ _ c.in-Reversal.is

pub returns-else-k-eq1 : goal.returns-else-k-eq1
returns-else-k-eq1 c =
    let powered : Powered c.args.s c.args.k c.power-words.result c.power-half.result = record { two = c.requires.0; small = c.requires.1; words_by = c.power-words.ensures; half_by = c.power-half.ensures } in
    even_reversal _ _ _ _ powered c.if-k-eq1.false ∙ under _ _ c.in-Reversal.is

pub returns-then-k-eq1-2 : goal.returns-then-k-eq1-2
returns-then-k-eq1-2 c =
    let powered : Powered c.args.s c.args.k c.power-words.result c.power-half.result = record { two = c.requires.0; small = c.requires.1; words_by = c.power-words.ensures; half_by = c.power-half.ensures } in
    odd_complement _ _ _ _ powered c.if-k-eq1-2.true ∙ under _ _ c.in-Complement.is

pub returns-else-k-eq1-2 : goal.returns-else-k-eq1-2
returns-else-k-eq1-2 c =
    let powered : Powered c.args.s c.args.k c.power-words.result c.power-half.result = record { two = c.requires.0; small = c.requires.1; words_by = c.power-words.ensures; half_by = c.power-half.ensures } in
    even_complement _ _ _ _ powered c.if-k-eq1-2.false ∙ under _ _ c.in-Complement.is
