-- The grounds of the calls along a sequence one after the other, as the calls meet them, and the numbers by a coder of the settings.
use Rattle.std.proofs.Common.{◌≡◌, sym, ap, ◌∙◌, List, None, ℕ, ◌+◌, ◌-◌, ◌<◌, ◌≤◌, lt-ltb, le-ltb, length}
use Rattle.settings.specs.declared.Refusal.{Refusal}
use Rattle.settings.specs.declared.Checked.{Checked}
use Rattle.settings.specs.Grounds.{given, refused, ground_of, ground_at, too_short, outcome}
use Rattle.settings.specs.Settings.{mirror_of, settings_ground, settings_of}
use Rattle.settings.proofs.Outcomes.{kept_by, set_by, kept_on}
use Rattle.settings.proofs.SettingsGrounds.{good_settings}
use Rattle.settings.specs.Limits.{too_long}
use Rattle.kernels.specs.declared.Kernel.{Kernel}
use Rattle.kernels.specs.declared.Coder.{Coder}
use Rattle.laws.specs.Windows.{windows}
use Rattle.sequence.specs.Sequences.{sequence_codes, sequence_ground, FillsCodes}
use Rattle.windows.specs.Needs.{Fills}
use Rattle.kernels.specs.Coders.{CoderOf}
use Rattle.sequence.specs.Needs.{codes_by}
use Rattle.laws.proofs.Windows.{length-windows}
use Rattle.sequence.proofs.RankTables.{Bytes, codes_by_table}
use Rattle.settings.specs.Given.{the_settings}

module _ (letters : List ℕ) (k m : ℕ) (sequence old : List ℕ) where
  -- Bad settings.
  pub settings_refused : (f : Refusal) → refused (ground_of f) ≡ outcome (settings_ground (the_settings letters k m)) (settings_of (the_settings letters k m))
      → FillsCodes (the_settings letters k m) sequence old (refused (ground_of f)) old
  unfolding sequence_ground
  settings_refused f e = kept_on (ground_of f) (settings_of (the_settings letters k m)) (settings_ground (the_settings letters k m)) _ _ _ old e

  module _ (good : settings_ground (the_settings letters k m) ≡ None) where
    some_k : 1 ≤ k
    some_k = (good_settings letters k m good).some_k

    pub too_large : 16777216 < length sequence → FillsCodes (the_settings letters k m) sequence old (refused (6, 0)) old
    unfolding sequence_ground too_long
    too_large h = kept_by _ _ _ old _ (rw (good, lt-ltb 16777216 (length sequence) h))

    module _ (within : length sequence ≤ 16777216) (needed : ℕ) (is : needed ≡ length sequence + 1 - k) where
      needed_is : length (windows k sequence) ≡ needed
      needed_is = length-windows k some_k sequence ∙ sym is

      room_alone : sequence_ground (the_settings letters k m) sequence (length old) ≡ ground_at 7 (too_short (length old) needed)
      unfolding sequence_ground too_long
      room_alone = rw (good, le-ltb 16777216 (length sequence) within, needed_is)

      pub too_short_lem : length old < needed → FillsCodes (the_settings letters k m) sequence old (refused (7, needed)) old
      too_short_lem h = kept_by _ _ _ old _ (room_alone ∙ rw (lt-ltb (length old) needed h))

      -- The numbers by the coder of the settings are those of the settings.
      pub all_filled : {st : Checked} {kernel : Kernel} {c : Coder} {new : List ℕ} → needed ≤ length old → st ≡ settings_of (the_settings letters k m)
          → CoderOf letters st kernel c → Bytes sequence → Fills (codes_by c sequence) old new → FillsCodes (the_settings letters k m) sequence old (given needed) new
      all_filled {st} {kernel} {c} h is C B F =
          let s : c.s ≡ length letters = C.s_is ∙ ap (λ (x : Checked). x.s) is in
          let mirror : c.mirror ≡ mirror_of m = C.mirror_is ∙ ap (λ (x : Checked). x.mirror) is in
          let k-is : c.k ≡ k = C.k_is ∙ ap (λ (x : Checked). x.k) is in
          let numbers : codes_by c sequence ≡ sequence_codes (the_settings letters k m) sequence = rw (s, mirror, k-is) (codes_by_table C.ranks_are k m sequence B) in
          rw (← needed_is) (set_by _ _ _ old _ (room_alone ∙ rw (le-ltb (length old) needed h)) (F.is ∙ rw numbers))
