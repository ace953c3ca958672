-- A sequence in batches: the numbers of a batch, and how the numbers of the batches follow each other.
-- From the windows of the first letters and of the later ones (`windows_take`, `windows_drop` of the crate windows).
use Rattle.std.proofs.Common.{◌≡◌, sym, ap, ◌∙◌, List, [], ◌++◌, map, append-nil, Bool, true, ℕ, ◌+◌, ◌-◌, ◌<◌, ◌≤◌, min, arith, length, take, drop, length-drop, drop_of_length-le, take_all}
use Rattle.laws.proofs.Buffers.{Written, written_none, written_more, written_length, written_all}
use Rattle.laws.proofs.Lists.{map_take, map_drop}
use Rattle.encoding.specs.Words.{Mirror}
use Rattle.laws.specs.Windows.{windows}
use Rattle.windows.specs.Windows.{window_codes}
use Rattle.settings.specs.declared.RankTable.{RankTable}
use Rattle.settings.specs.RankTables.{rank_by_table}
use Rattle.ranks.specs.Needs.{part}
use Rattle.windows.specs.Needs.{Fills}
use Rattle.words.specs.Needs.{ranks_by}
use Rattle.sequence.specs.Needs.{all_ranked, code_by, Blanked}
use Rattle.windows.proofs.Windows.{windows_take, windows_drop, length_codes}
use Rattle.ranks.proofs.WordParts.{length_part}
use Rattle.sequence.proofs.Blanks.{blanked_codes, blanked_nothing}

-- ---- the numbers of a batch

module _ (table : RankTable) (s : ℕ) (m : Mirror) (k : ℕ) (bytes : List ℕ) {o mid : List ℕ} (ranks : List ℕ)
    (is : ranks ≡ ranks_by (rank_by_table table) bytes) (some : 1 ≤ k) (room : length bytes + 1 - k ≤ length o) (F : Fills (window_codes s m k ranks) o mid) where
  pub batch_numbers : {new : List ℕ} → Blanked table k bytes mid new (length bytes + 1 - k)
      → Fills (map (code_by (rank_by_table table) s m k) (windows k bytes)) o new
  batch_numbers B = blanked_codes s m some room (rw is at F) B

  -- Where all bytes are letters nothing is to be blanked.
  pub batch_letters : (all : Bool) → all ≡ all_ranked (rank_by_table table) bytes → all ≡ true
      → Fills (map (code_by (rank_by_table table) s m k) (windows k bytes)) o mid
  batch_letters all e h = batch_numbers (blanked_nothing table k bytes mid (sym e ∙ h))

-- ---- batch after batch

-- A batch of at most 4,096 letters, of the n there are, that has at least one window.
pub record Batch (k n at end : ℕ) : Type 0 where
  pub window : at + k ≤ end
  pub inside : end ≤ n
  pub few : end ≤ at + 4096

pub batch_of : {k n at end : ℕ} → k ≤ 62 → at + k ≤ n → end ≡ min (at + 4096) n → Batch k n at end
batch_of small more is = record { window = omega arith; inside = omega arith; few = omega arith }

-- The next one begins later, and not past the end.
module _ {k n at end : ℕ} (some : 1 ≤ k) (B : Batch k n at end) where
  pub batch_inside : end + 1 - k ≤ n
  batch_inside = omega (arith, B.inside)

  pub batch_less : n + 1 - (end + 1 - k) < n + 1 - at
  batch_less = omega (arith, B.inside, B.window)

-- Wherever one begins later, not past the end, fewer letters are left.
pub later_less : {n at next : ℕ} → at < next → next ≤ n → n + 1 - next < n + 1 - at
later_less later inside = omega arith

module _ (f : List ℕ → ℕ) {k : ℕ} (some : 1 ≤ k) (w : List ℕ) where
  -- The numbers of the windows of a part are some of those of the whole.
  part_numbers : (at b : ℕ) → at + b + k ≤ length w + 1 → take b (drop at (map f (windows k w))) ≡ map f (windows k (take (b + k - 1) (drop at w)))
  part_numbers at b h =
      ap (take b) (map_drop f at (windows k w) ∙ ap (map f) (windows_drop k some at w))
      ∙ map_take f b (windows k (drop at w))
      ∙ ap (map f) (windows_take k some b (drop at w) (omega (arith, length-drop at w)))

  module _ {o list : List ℕ} {at end : ℕ} (W : Written (map f (windows k w)) o at list) (B : Batch k (length w) at end) where
    fewer : at + (end - at + 1 - k) ≤ length (map f (windows k w))
    fewer =
        let i : at + (end - at + 1 - k) + k ≡ end + 1 = omega (arith, B.window) in
        omega (arith, i, B.inside, length_codes k some f w)

    -- The list was lent from the place at to its end, and comes back with the numbers of the batch.
    pub batch_next : (new : List ℕ) → Fills (map f (windows k (part at (end - at) w))) (take (length list - at) (drop at list)) new
        → Written (map f (windows k w)) o (end + 1 - k) (take at list ++ (new ++ drop (length list - at) (drop at list)))
    batch_next new F =
        let l : end - at + 1 - k + k - 1 ≡ end - at = omega (arith, B.window) in
        let b : at + (end - at + 1 - k) ≡ end + 1 - k = omega (arith, B.window) in
        let n : length (map f (windows k (part at (end - at) w))) ≡ end - at + 1 - k =
        length_codes k some f (part at (end - at) w)
        ∙ rw (length_part at (end - at) w (omega (arith, B.window, B.inside))) in
        let whole : take (length list - at) (drop at list) ≡ drop at list = take_all (length list - at) (drop at list) (omega (arith, length-drop at list)) in
        let none : drop (length list - at) (drop at list) ≡ [] = drop_of_length-le (drop at list) {i = length list - at} (omega (arith, length-drop at list)) in
        let q : map f (windows k (part at (end - at) w)) ≡ take (end - at + 1 - k) (drop at (map f (windows k w))) =
        sym (part_numbers at (end - at + 1 - k) (omega (arith, fewer, length_codes k some f w)) ∙ ap (λ (i : ℕ). map f (windows k (take i (drop at w)))) l) in
        let is : new ≡ take (end - at + 1 - k) (drop at (map f (windows k w))) ++ drop (end - at + 1 - k) (drop at list) =
        F.is ∙ rw (n, whole) (ap (λ (r : List ℕ). r ++ drop (end - at + 1 - k) (drop at list)) q) in
        rw b at
        (written_more W (end - at + 1 - k) (take at list ++ (new ++ drop (length list - at) (drop at list))) fewer
        (ap (λ (r : List ℕ). take at list ++ r) (rw none (append-nil new) ∙ is)))

    -- However the place of the next batch is worked out.
    pub batch_on : (new : List ℕ) → Fills (map f (windows k (part at (end - at) w))) (take (length list - at) (drop at list)) new
        → {next : ℕ} → next ≡ end + 1 - k
        → Written (map f (windows k w)) o next (take at list ++ (new ++ drop (length list - at) (drop at list)))
    batch_on new F is = rw is (batch_next new F)

    pub batch_from : at ≤ length list
    batch_from = omega (arith, W.upto, W.room, written_length W)

    -- There is room for the numbers of the batch.
    pub batch_room : (length (part at (end - at) w) ≤ 4096) × (length (part at (end - at) w) + 1 - k ≤ length (take (length list - at) (drop at list)))
    batch_room =
        let n : length (part at (end - at) w) ≡ end - at = length_part at (end - at) w (omega (arith, B.window, B.inside)) in
        let whole : take (length list - at) (drop at list) ≡ drop at list = take_all (length list - at) (drop at list) (omega (arith, length-drop at list)) in
        (omega (arith, n, B.few), rw (n, whole) (omega (arith, fewer, batch_from, W.room, written_length W, length-drop at list)))

  pub batches_none : (o : List ℕ) → length w + 1 - k ≤ length o → Written (map f (windows k w)) o 0 o
  batches_none o h = written_none (map f (windows k w)) o (omega (arith, length_codes k some f w))

  pub batches_all : {o list : List ℕ} {at : ℕ} → Written (map f (windows k w)) o at list → length w < at + k → Fills (map f (windows k w)) o list
  batches_all W h = record { is = written_all W (omega (arith, length_codes k some f w)) }
