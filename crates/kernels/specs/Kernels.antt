-- What the kernels ask of settings. No sentence of document 01 rests on it; the contracts of `kernels::Coder` and `kernels::RankCoder` do, which codes along
-- a sequence, adding and withdrawing a file use.
use Rattle.std.specs.Prelude.{◌≡◌, List, ℕ, ◌≤◌, length}
use Rattle.settings.specs.declared.Checked.{Checked}
use Rattle.settings.specs.Settings.{settings_for}
use Rattle.settings.specs.Limits.{Limits}
use Rattle.encoding.specs.Words.{Mirror, Complement}
use Rattle.kernels.specs.declared.Kernel.{Kernel}
use Rattle.kernels.specs.declared.Kernel.TheVariants.{TwoBit}

-- The kernel by two-bit numbers takes four letters under complement alone.
abbrev pub Takes : Kernel → ℕ → Mirror → Type 0
Takes kernel s m = kernel ≡ TwoBit → (s ≡ 4) × (m ≡ Complement)

-- Settings of some letters to which no ground applies.
pub record GoodSettings (letters : List ℕ) (st : Checked) : Type 0 where
  pub limits : Limits st.s st.k
  pub some : 1 ≤ st.k
  pub is : st ≡ settings_for (length letters) st.k st.mirror
