-- The loop of this function: what holds at each turn, and what falls.
use mathlib.Core.Path.{◌≡◌}
use Prim.Native.Nat.{◌-◌, ◌^◌, ◌≤◌}
use Rattle.settings.proofs.power.Given as goal

abbrev pub invariant-loop : goal.invariant-loop
invariant-loop l = (l.p ≡ l.s ^ l.counter) × (l.p ≤ 4611686018427387904)

abbrev pub decreases-loop : goal.decreases-loop
decreases-loop l = 63 - l.counter
