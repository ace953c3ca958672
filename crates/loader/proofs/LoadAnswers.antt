-- What a load answers and leaves, from its steps: the counts set from zeros (`counts_set`, `counts_replaced`), in the first places of a table (`loaded`); and
-- the grounds before the text's at each test. From the laws of a clearing's grounds and the definitions of loading.
use Rattle.std.proofs.Common.{◌≡◌, sym, ap, ◌∙◌, None, Some, List, [], ◌++◌, append-nil, ℕ, ◌<◌, ◌≤◌, arith, length, take, drop, replicate, drop_of_length-le}
use Rattle.settings.specs.declared.Checked.{Checked}
use Rattle.settings.specs.Given.{Given}
use Rattle.settings.specs.Grounds.{Ground, Outcome, given, refused, outcome}
use Rattle.settings.specs.Settings.{settings_ground, settings_of}
use Rattle.settings.proofs.Outcomes.{kept_by, set_by, prefix_overwritten}
use Rattle.settings.proofs.SettingsGrounds.{known}
use Rattle.lines.specs.Lines.{lines}
use Rattle.tally_book.specs.Table.{class_count}
use Rattle.tally_book.proofs.Clearing.{clear_settings, clear_many, clear_short, clear_passed}
use Rattle.loading.specs.Loading.{text_fault, load_ground, loaded_from, loaded_counts, Loads}
use Rattle.loading.proofs.Theorems.{loaded_length}
use Rattle.loader.specs.Needs.{LoadsCounts}

-- ---- in counts, one a class

-- As many zeros as there are counts, in the first places: no count is left behind them.
pub all_cleared : (counts : List ℕ) {zeros : List ℕ} → zeros ≡ replicate (length counts) 0 ++ drop (length counts) counts → zeros ≡ replicate (length counts) 0
all_cleared counts e =
    let nothing_left : drop (length counts) counts ≡ [] = drop_of_length-le counts (omega arith) in
    e ∙ rw nothing_left (append-nil (replicate (length counts) 0))

module _ (settings : Given) (text counts : List ℕ) (size : length counts ≡ class_count settings) (clean : text_fault settings text ≡ None) {zeros : List ℕ}
    (cleared : zeros ≡ replicate (length counts) 0) where
  all_zeros : zeros ≡ replicate (class_count settings) 0
  all_zeros = cleared ∙ rw size

  set_there : {counts' : List ℕ} → counts' ≡ loaded_from settings zeros (drop 1 (lines text)) → counts' ≡ loaded_counts settings text
  unfolding loaded_counts
  set_there e = e ∙ ap (λ (cs : List ℕ). loaded_from settings cs (drop 1 (lines text))) all_zeros

  set_long : {counts' : List ℕ} → counts' ≡ loaded_from settings zeros (drop 1 (lines text)) → length counts' ≡ class_count settings
  set_long e = ap length (set_there e) ∙ loaded_length settings.letters settings.k settings.mirror text

  -- The answer is how many counts there are now, or how many there were: they are as many.
  pub counts_set : {counts' : List ℕ} → counts' ≡ loaded_from settings zeros (drop 1 (lines text)) → LoadsCounts settings text counts (given (length counts')) counts'
  counts_set {counts'} e =
      let new = loaded_counts settings text in
      let long = loaded_length settings.letters settings.k settings.mirror text in
      let nothing_left : drop (length new) counts ≡ [] = drop_of_length-le counts (omega (arith, long)) in
      let is : counts' ≡ new ++ drop (length new) counts = set_there e ∙ sym (ap (λ (l : List ℕ). new ++ l) nothing_left ∙ append-nil new) in
      rw (set_long e) (set_by (text_fault settings text) (class_count settings) new counts counts' clean is)

  pub counts_replaced : {counts' : List ℕ} → counts' ≡ loaded_from settings zeros (drop 1 (lines text)) → LoadsCounts settings text counts (given (length counts)) counts'
  counts_replaced {counts'} e = let n : length counts' ≡ length counts = set_long e ∙ sym size in rw n at (counts_set e)

-- ---- in the first places of a table

module _ (settings : Given) (text t : List ℕ) where
  refused_by : (f : Ground) → load_ground settings (length t) text ≡ Some f → Loads settings text t (refused f) t
  refused_by f e = kept_by _ (class_count settings) (loaded_counts settings text) t f e

  pub settings_refused : (f : Ground) → refused f ≡ outcome (settings_ground settings) (settings_of settings) → Loads settings text t (refused f) t
  unfolding load_ground
  settings_refused f e = refused_by f (rw (clear_settings settings.letters settings.k settings.mirror (length t) f e))

  module _ (st : Checked) (e : given st ≡ outcome (settings_ground settings) (settings_of settings)) where
    pub many_classes : 16777216 < st.classes → Loads settings text t (refused (6, 0)) t
    unfolding load_ground
    many_classes h = refused_by (6, 0) (rw (clear_many settings.letters settings.k settings.mirror (length t) st e h))

    module _ (few : st.classes ≤ 16777216) where
      pub short_table : length t < st.classes → Loads settings text t (refused (7, st.classes)) t
      unfolding load_ground
      short_table h = refused_by (7, st.classes) (rw (clear_short settings.letters settings.k settings.mirror (length t) st e few h))

      -- By a judge of these settings.
      pub loaded : {answer : Outcome ℕ} {new : List ℕ} (own : Given) → own ≡ settings → st.classes ≤ length t → LoadsCounts own text (take st.classes t) answer new
          → Loads settings text t answer (new ++ drop st.classes t)
      unfolding load_ground
      loaded {answer} {new} own is long L′ =
          let n = (known settings.letters settings.k settings.mirror st e).classes_are in
          let L : LoadsCounts settings text (take st.classes t) answer new = rw is at L′ in
          rw (clear_passed settings.letters settings.k settings.mirror (length t) st e few long, n)
          (prefix_overwritten (text_fault settings text) (class_count settings) (loaded_counts settings text) t
          (loaded_length settings.letters settings.k settings.mirror text) (omega (arith, n)) (rw n at L))
