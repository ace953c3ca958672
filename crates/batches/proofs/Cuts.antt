-- A file's windows as the batches take them, `cut`: what each byte does to them, what a batch takes off, and that all of them are the file's windows.
use Rattle.std.proofs.Common.{◌≡◌, refl, sym, ap, ◌∙◌, ℕ, ◌+◌, ◌-◌, ◌≤◌, arith, cond, Option, None, Some, List, [], ◌∷◌, ◌++◌, append_assoc, append-nil, length, take, drop, length-append, length-drop, take_at, drop-drop}
use lib.Seq.{drop-append-le}
use Rattle.fasta.specs.declared.Item.{Item}
use Rattle.fasta.specs.declared.Item.TheVariants.{Opens, Skip, Stray, Letter}
use Rattle.fasta.specs.Items.{marks, runs, windows_of}
use Rattle.fasta.proofs.Stream.{windows-snoc, windows_from, windows-stream}
use Rattle.laws.specs.Windows.{windows}
use Rattle.laws.proofs.Windows.{windows-none}
use Rattle.windows.proofs.Windows.{pieces}
use Rattle.batches.specs.Needs.{mark_of_rank, mark_of, cut}

-- ---- all windows of a file

cut-stream : (k : ℕ) (r : List ℕ) (ms : List (Option ℕ)) → 1 ≤ k → cut k r ms ≡ windows k r ++ windows_from k r ms
unfolding cut windows_from windows
cut-stream k r [] h = sym (append-nil (windows k r))
cut-stream k r (None ∷ ms) h = rw (cut-stream k [] ms h)
cut-stream k r (Some x ∷ ms) h = cut-stream k (r ++ (x ∷ [])) ms h ∙ rw (windows-snoc k r x h, append_assoc)

-- From the start, with no letter at hand, the windows that the batches take are those of all runs.
pub cut_all : (k : ℕ) (ms : List (Option ℕ)) → 1 ≤ k → cut k [] ms ≡ windows_of k (runs ms)
unfolding windows
cut_all k ms h = cut-stream k [] ms h ∙ sym (windows-stream k ms h)

-- ---- one byte

-- What an item does to the windows to come.
pub cut-item : (rank : ℕ → Option ℕ) (k : ℕ) (r : List ℕ) (it : Item) (is : List Item)
    → cut k r (marks rank (it ∷ is))
    ≡ cond (mark_of rank it).ends (windows k r ++ cut k [] (marks rank is))
    (cut k (r ++ take (mark_of rank it).letters ((mark_of rank it).rank ∷ [])) (marks rank is))
unfolding cut marks
cut-item rank k r Opens is = refl
cut-item rank k r Skip is = rw (append-nil r)
cut-item rank k r Stray is = rw (append-nil r)
cut-item rank k r (Letter b) is = by_rank (rank b)
  where
    by_rank : (o : Option ℕ)
        → cut k r (o ∷ marks rank is)
        ≡ cond (mark_of_rank o).ends (windows k r ++ cut k [] (marks rank is))
        (cut k (r ++ take (mark_of_rank o).letters ((mark_of_rank o).rank ∷ [])) (marks rank is))
    by_rank None = refl
    by_rank (Some x) = refl

-- ---- one batch

module _ (k : ℕ) (some_k : 1 ≤ k) where
  -- The windows with one letter more, from the last k - 1 letters on.
  one_more : (r : List ℕ) (x : ℕ) → k ≤ length r + 1
      → windows k (r ++ (x ∷ [])) ≡ windows k r ++ windows k (drop (length r + 1 - k) r ++ (x ∷ []))
  one_more r x h =
      let n : length (r ++ (x ∷ [])) ≡ length r + 1 = length-append r (x ∷ []) in
      let a : length r + 1 - k + k - 1 ≡ length r = omega arith in
      pieces k some_k (length r + 1 - k) (r ++ (x ∷ [])) (omega arith)
      ∙ rw (a, take_at r (x ∷ []) (length r) refl, drop-append-le (length r + 1 - k) r (x ∷ []) (omega arith))

  -- A batch of letters r takes off the windows in it; its last k - 1 letters stay for the next.
  pub cut_batch : (ms : List (Option ℕ)) (r : List ℕ) → k ≤ length r + 1 → cut k r ms ≡ windows k r ++ cut k (drop (length r + 1 - k) r) ms
  unfolding cut
  cut_batch [] r h = rw (windows-none k (drop (length r + 1 - k) r) (omega (arith, length-drop (length r + 1 - k) r)), append-nil (windows k r))
  cut_batch (None ∷ ms) r h = rw (windows-none k (drop (length r + 1 - k) r) (omega (arith, length-drop (length r + 1 - k) r)))
  cut_batch (Some x ∷ ms) r h =
      let d : List ℕ = drop (length r + 1 - k) r in
      let nd : length d ≡ k - 1 = omega (arith, length-drop (length r + 1 - k) r) in
      let n : length (r ++ (x ∷ [])) ≡ length r + 1 = length-append r (x ∷ []) in
      let m : length (d ++ (x ∷ [])) ≡ length d + 1 = length-append d (x ∷ []) in
      let a : length (r ++ (x ∷ [])) + 1 - k ≡ length r + 1 - k + 1 = omega arith in
      let b : length (d ++ (x ∷ [])) + 1 - k ≡ 1 = omega arith in
      let e : drop (length r + 1 - k + 1) (r ++ (x ∷ [])) ≡ drop 1 (d ++ (x ∷ [])) =
      sym (drop-drop 1 (length r + 1 - k) (r ++ (x ∷ []))) ∙ ap (drop 1) (drop-append-le (length r + 1 - k) r (x ∷ []) (omega arith)) in
      cut_batch ms (r ++ (x ∷ [])) (omega arith)
      ∙ rw (a, e, one_more r x h, append_assoc)
      (ap (λ (l : List (List ℕ)). windows k r ++ l) (sym (cut_batch ms (d ++ (x ∷ [])) (omega arith) ∙ rw b)))
