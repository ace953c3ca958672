-- The table of powers, filled from the front.
use Rattle.std.proofs.Common.{◌≡◌, List, ℕ, ◌+◌, ◌*◌, ◌^◌, ◌<◌, ◌≤◌, arith, length, get_or, set}
use Rattle.laws.proofs.Buffers.{set_next}
use Rattle.laws.proofs.Powers.{exponent_le, pow-fits}
use Rattle.settings.proofs.Powers.{power_next}
use Rattle.any_alphabet.specs.Needs.{Powers}

module _ (s k : ℕ) (two : 1 < s) (small : s ^ k ≤ 2 ^ 62) {i : ℕ} {table : List ℕ} (P : Powers s i table) (more : i < k) where
  next_is : get_or table i 0 * s ≡ s ^ (i + 1)
  next_is = power_next s (get_or table i 0) i (P.at i (omega arith))

  pub next_fits : get_or table i 0 * s ≤ 2 ^ 62
  next_fits = rw next_is (pow-fits s (i + 1) k two (omega arith) small)

  pub next_inside : i + 1 < 64
  next_inside = omega (arith, exponent_le s k two small)

  pub powers_next : length table ≡ 64 → Powers s (i + 1) (set table (i + 1) (get_or table i 0 * s))
  powers_next l = record { at = λ j h. set_next (λ (e x : ℕ). x ≡ s ^ e) table (omega (arith, next_inside)) (λ e g. P.at e (omega arith)) next_is j (omega arith) }
