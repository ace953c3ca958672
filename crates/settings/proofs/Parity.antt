-- What the test for odd numbers tells: the remainder by 2.
use mathlib.Core.Path.{◌≡◌}
use mathlib.Core.Bool.{true, false}
use Prim.Native.Nat.{ℕ, ◌%◌}
use native.Mathlib.Omega.{arith}
use borrow.Author.Tests.{eqb-true, eqb-false}
use Rattle.settings.specs.Settings.{is_odd}

pub odd_is : (n : ℕ) → is_odd n ≡ true → n % 2 ≡ 1
unfolding is_odd
odd_is n e = eqb-true (n % 2) 1 e

pub even_is : (n : ℕ) → is_odd n ≡ false → n % 2 ≡ 0
unfolding is_odd
even_is n e = omega (arith, eqb-false (n % 2) 1 e)
