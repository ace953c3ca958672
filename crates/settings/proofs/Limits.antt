-- What follows from settings within the limits (specs/Limits.antt): k is at most 62, and fewer letters are within them too.
use Prim.Native.Nat.{ℕ, ◌≤◌}
use Rattle.laws.proofs.Powers.{exponent_le, pow-fits}
use Rattle.settings.specs.Limits.{Limits}

pub k_at_most : {s k : ℕ} → Limits s k → k ≤ 62
k_at_most {s} {k} f = exponent_le s k f.two f.small

pub limits_less : {s k n : ℕ} → Limits s k → n ≤ k → Limits s n
limits_less {s} {k} {n} f h = record { two = f.two; few = f.few; small = pow-fits s n k f.two h f.small }
