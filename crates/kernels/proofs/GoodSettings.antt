-- What `Coder::new` asks of settings and shows of their numbers.
use Rattle.std.proofs.Common.{◌≡◌, refl, ap, ◌∙◌, List, None, ℕ, ◌+◌, ◌*◌, ◌^◌, ◌<◌, ◌≤◌, arith, length}
use mathlib.Core.Path.{subst⁻¹}
use Rattle.settings.specs.declared.Checked.{Checked}
use Rattle.settings.specs.declared.RankTable.{RankTable}
use Rattle.settings.specs.Settings.{classes, settings_ground, settings_of}
use Rattle.settings.specs.RankTables.{RanksOf, RanksBelow}
use Rattle.settings.proofs.SettingsGrounds.{good_settings, limits}
use Rattle.settings.proofs.RankTables.{table_below}
use Rattle.encoding.specs.Needs.{palindromes}
use Rattle.encoding.proofs.ClassNumbers.{twice_classes, palindromes-le}
use Rattle.kernels.specs.Kernels.{GoodSettings}
use Rattle.settings.specs.Given.{the_settings}

-- Settings that pass the check are good.
pub good : (letters : List ℕ) (k m : ℕ) (st : Checked) → settings_ground (the_settings letters k m) ≡ None → st ≡ settings_of (the_settings letters k m) → GoodSettings letters st
good letters k m st none_applies is =
    subst⁻¹ (GoodSettings letters) is
    (record { limits = limits letters k m none_applies; some = (good_settings letters k m none_applies).some_k; is = refl })

module _ {letters : List ℕ} {st : Checked} (G : GoodSettings letters st) where
  pub s_is : st.s ≡ length letters
  s_is = ap (λ (x : Checked). x.s) G.is

  pub few_letters : length letters ≤ 16
  few_letters = omega (arith, s_is, G.limits.few)

  power_is : st.power ≡ st.s ^ st.k
  power_is = ap (λ (x : Checked). x.power) G.is ∙ rw (← s_is)

  classes_are : st.classes ≡ classes st.s st.mirror st.k
  classes_are = ap (λ (x : Checked). x.classes) G.is ∙ rw (← s_is)

  -- Of w words in c classes 2c - w are palindromes.
  pub twice : 2 * st.classes ≡ st.power + palindromes st.s st.mirror st.k
  twice = omega (arith, twice_classes st.s st.mirror st.k, power_is, classes_are)

  pub twice_fits : 2 * st.classes < 2 ^ 64
  twice_fits = omega (arith, twice, power_is, G.limits.small, palindromes-le st.s st.mirror st.k G.limits.two)

  pub below : {table : RankTable} → RanksOf letters table → RanksBelow st.s table
  below {table} T = subst⁻¹ (λ (s : ℕ). RanksBelow s table) s_is (table_below T)
