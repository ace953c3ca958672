-- The kernel by two-bit numbers under settings that it takes: what it asks holds, and its codes are those of the settings.
use Rattle.std.proofs.Common.{◌≡◌, ◌∙◌, subst, List, ℕ, ◌*◌, ◌^◌, ◌≤◌, arith}
use Rattle.laws.proofs.Powers.{exponent_le, four_pow}
use Rattle.any_alphabet.specs.Needs as any
use Rattle.encoding.specs.Words.{Mirror, Complement, Ranks}
use Rattle.kernels.specs.Kernels.{Takes}
use Rattle.kernels.specs.declared.Kernel.{Kernel}
use Rattle.kernels.specs.declared.Kernel.TheVariants.{TwoBit}
use Rattle.kernels.specs.declared.Coder.{Coder}
use Rattle.kernels.specs.declared.RankCoder.{RankCoder}
use Rattle.windows.specs.Windows.{window_codes}
use Rattle.windows.specs.Needs.{Fills}
use Rattle.two_bit.specs.Needs.{CountsPalindromes}

four_exponent : (k : ℕ) → 4 ^ k ≤ 2 ^ 62 → k ≤ 31
four_exponent k h =
    let e : 2 ^ (2 * k) ≤ 2 ^ 62 = rw (four_pow k) at h in
    omega (arith, exponent_le 2 (2 * k) (omega arith) e)

-- Of a number of letters and a mirror that the kernel takes.
module _ {kernel : Kernel} {s : ℕ} {m : Mirror} (takes : Takes kernel s m) (two : kernel ≡ TwoBit) where
  taken : (s ≡ 4) × (m ≡ Complement)
  taken = takes two

  taken_ranks : (ranks : List ℕ) → Ranks s ranks → Ranks 4 ranks
  taken_ranks ranks R = subst (λ (n : ℕ). Ranks n ranks) taken.0 R

  taken_small : (k : ℕ) → s ^ k ≤ 2 ^ 62 → k ≤ 31
  taken_small k h = four_exponent k (subst (λ (n : ℕ). n ^ k ≤ 2 ^ 62) taken.0 h)

  taken_count : (k : ℕ) {p : ℕ} → any.CountsPalindromes s m k p → CountsPalindromes k p
  taken_count k count = count ∙ rw (taken.0, taken.1)

  taken_codes : (k : ℕ) (ranks : List ℕ) {o new : List ℕ} → Fills (window_codes 4 Complement k ranks) o new → Fills (window_codes s m k ranks) o new
  taken_codes k ranks F = rw (taken.0, taken.1) F

-- Of those of a coder.
module _ (c : Coder) (two : c.kernel ≡ TwoBit) where
  pub two_bit_ranks : (ranks : List ℕ) → Ranks c.s ranks → Ranks 4 ranks
  two_bit_ranks = taken_ranks c.takes two

  pub two_bit_small : c.k ≤ 31
  two_bit_small = taken_small c.takes two c.k c.limits.small

  pub two_bit_count : CountsPalindromes c.k c.palindromes
  two_bit_count = taken_count c.takes two c.k c.count

  pub two_bit_codes : (ranks : List ℕ) {o new : List ℕ} → Fills (window_codes 4 Complement c.k ranks) o new
      → Fills (window_codes c.s c.mirror c.k ranks) o new
  two_bit_codes = taken_codes c.takes two c.k

-- Of those of a coder of ranks.
module _ (c : RankCoder) (two : c.kernel ≡ TwoBit) where
  pub rank_coder_ranks : (ranks : List ℕ) → Ranks c.s ranks → Ranks 4 ranks
  rank_coder_ranks = taken_ranks c.takes two

  pub rank_coder_small : c.k ≤ 31
  rank_coder_small = taken_small c.takes two c.k c.limits.small

  pub rank_coder_count : CountsPalindromes c.k c.palindromes
  rank_coder_count = taken_count c.takes two c.k c.count

  pub rank_coder_codes : (ranks : List ℕ) {o new : List ℕ} → Fills (window_codes 4 Complement c.k ranks) o new
      → Fills (window_codes c.s c.mirror c.k ranks) o new
  rank_coder_codes = taken_codes c.takes two c.k
