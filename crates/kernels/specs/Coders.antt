-- What a coder is of: the settings for which it was made. No sentence of document 01 rests on it.
use Rattle.std.specs.Prelude.{◌≡◌, List, ℕ}
use Rattle.settings.specs.declared.Checked.{Checked}
use Rattle.settings.specs.RankTables.{RanksOf}
use Rattle.kernels.specs.declared.Kernel.{Kernel}
use Rattle.kernels.specs.declared.Coder.{Coder}

-- A coder of settings: their numbers, the kernel, and the rank of every byte among their letters.
pub record CoderOf (letters : List ℕ) (st : Checked) (kernel : Kernel) (c : Coder) : Type 0 where
  pub kernel_is : c.kernel ≡ kernel
  pub s_is : c.s ≡ st.s
  pub k_is : c.k ≡ st.k
  pub mirror_is : c.mirror ≡ st.mirror
  pub ranks_are : RanksOf letters c.ranks
