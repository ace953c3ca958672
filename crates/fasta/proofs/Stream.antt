-- A file's windows and edge letters as its letters come in one by one: each settings letter either closes one window of its run or is
-- one more edge letter. So the windows of all runs are what a single pass closes (`windows-stream`), and likewise the edge letters.
use Rattle.std.proofs.Common.{◌≡◌, refl, sym, ap, ◌∙◌, ℕ, suc, ◌+◌, ◌-◌, ◌≤◌, min, arith, Bool, true, false, cond, Option, None, Some, List, [], ◌∷◌, ◌++◌, append_assoc, append-nil, length, take, drop, length-append, take_all, leb, leb-true, leb-false}
use lib.Seq.{take-append-le}
use Rattle.laws.proofs.Windows.{windows-none}
use Rattle.fasta.specs.Items.{on_first, runs, edge, windows, edges_of, windows_of}

-- The window that the last of a run's letters closes, if there are k of them.
unfoldable pub closes : ℕ → List ℕ → List (List ℕ)
closes k r = cond (leb k (length r)) (drop (length r - k) r ∷ []) []

snoc_case : (k : ℕ) (y x : ℕ) (ys : List ℕ) (b c : Bool) → leb k (suc (length ys)) ≡ b → leb k (suc (suc (length ys))) ≡ c → 1 ≤ k
    → cond c (take k (y ∷ ys ++ (x ∷ [])) ∷ (windows k ys ++ cond b (drop (suc (length ys) - k) (ys ++ (x ∷ [])) ∷ []) []))
    (windows k ys ++ cond b (drop (suc (length ys) - k) (ys ++ (x ∷ [])) ∷ []) [])
    ≡ cond b (take k (y ∷ ys) ∷ windows k ys) (windows k ys) ++ cond c (drop (suc (suc (length ys)) - k) (y ∷ ys ++ (x ∷ [])) ∷ []) []
snoc_case k y x ys true true e f h =
    let le = leb-true k (suc (length ys)) e in
    let one : suc (suc (length ys)) - k ≡ suc (suc (length ys) - k) = omega arith in
    rw (one, take-append-le k (y ∷ ys) (x ∷ []) le)
snoc_case k y x ys true false e f h = absurd (omega (arith, leb-true k (suc (length ys)) e, leb-false k (suc (suc (length ys))) f))
snoc_case k y x ys false true e f h =
    let lt = leb-false k (suc (length ys)) e in
    let le = leb-true k (suc (suc (length ys))) f in
    let none_left : suc (suc (length ys)) - k ≡ 0 = omega arith in
    let whole : length (y ∷ ys ++ (x ∷ [])) ≤ k = omega (arith, length-append ys (x ∷ [])) in
    rw (none_left, take_all k (y ∷ ys ++ (x ∷ [])) whole, windows-none k ys (omega arith))
snoc_case k y x ys false false e f h = refl

-- One letter more: the windows so far, and the one that the letter closes.
pub windows-snoc : (k : ℕ) (r : List ℕ) (x : ℕ) → 1 ≤ k → windows k (r ++ (x ∷ [])) ≡ windows k r ++ closes k (r ++ (x ∷ []))
unfolding windows closes
windows-snoc k [] x h = first (leb k 1) refl
  where
    first : (b : Bool) → leb k 1 ≡ b → cond b (take k (x ∷ []) ∷ []) [] ≡ cond b (drop (1 - k) (x ∷ []) ∷ []) []
    first true e =
        let one : k ≡ 1 = omega (arith, leb-true k 1 e) in
        rw one
    first false e = refl
windows-snoc k (y ∷ ys) x h =
    let n : length (ys ++ (x ∷ [])) ≡ suc (length ys) = omega (arith, length-append ys (x ∷ [])) in
    rw (windows-snoc k ys x h, n) (snoc_case k y x ys (leb k (suc (length ys))) (leb k (suc (suc (length ys)))) refl refl h)

-- The windows of what is still to come, where the present run has the letters r.
unfoldable pub windows_from : ℕ → List ℕ → List (Option ℕ) → List (List ℕ)
windows_from k r [] = []
windows_from k r (None ∷ ms) = windows_from k [] ms
windows_from k r (Some x ∷ ms) = closes k (r ++ (x ∷ [])) ++ windows_from k (r ++ (x ∷ [])) ms

-- The letters r in front of the first run.
prefixed : List ℕ → List (List ℕ) → List (List ℕ)
prefixed r [] = r ∷ []
prefixed r (s ∷ rs) = (r ++ s) ∷ rs

prefixed_on_first : (r : List ℕ) (x : ℕ) (rs : List (List ℕ)) → prefixed r (on_first x rs) ≡ prefixed (r ++ (x ∷ [])) rs
unfolding prefixed on_first
prefixed_on_first r x [] = refl
prefixed_on_first r x (s ∷ rs) = rw append_assoc

prefixed_none : (rs : List (List ℕ)) (x : ℕ) → prefixed [] (on_first x rs) ≡ on_first x rs
unfolding prefixed on_first
prefixed_none [] x = refl
prefixed_none (r ∷ rs) x = refl

runs-prefixed : (ms : List (Option ℕ)) → prefixed [] (runs ms) ≡ runs ms
unfolding runs prefixed
runs-prefixed [] = refl
runs-prefixed (None ∷ ms) = refl
runs-prefixed (Some x ∷ ms) = prefixed_none (runs ms) x

windows-from : (k : ℕ) (r : List ℕ) (ms : List (Option ℕ)) → 1 ≤ k → windows_of k (prefixed r (runs ms)) ≡ windows k r ++ windows_from k r ms
unfolding windows_of prefixed runs windows_from windows
windows-from k r [] h = simp append-nil
windows-from k r (None ∷ ms) h =
    rw append-nil (ap (λ (l : List (List ℕ)). windows k r ++ l) (ap (windows_of k) (sym (runs-prefixed ms)) ∙ windows-from k [] ms h))
windows-from k r (Some x ∷ ms) h = rw (prefixed_on_first r x (runs ms), windows-from k (r ++ (x ∷ [])) ms h, windows-snoc k r x h, append_assoc)

-- The windows of all runs, in the order in which the letters close them.
pub windows-stream : (k : ℕ) (ms : List (Option ℕ)) → 1 ≤ k → windows_of k (runs ms) ≡ windows_from k [] ms
unfolding windows
windows-stream k ms h = ap (windows_of k) (sym (runs-prefixed ms)) ∙ windows-from k [] ms h

-- The edge letters of what is still to come, where the present run has n letters.
unfoldable pub edges_from : ℕ → ℕ → List (Option ℕ) → ℕ
edges_from k n [] = 0
edges_from k n (None ∷ ms) = edges_from k 0 ms
edges_from k n (Some x ∷ ms) = cond (leb k (n + 1)) 0 1 + edges_from k (n + 1) ms

edge-snoc : (k n : ℕ) (b : Bool) → 1 ≤ k → leb k (n + 1) ≡ b → min (n + 1) (k - 1) ≡ min n (k - 1) + cond b 0 1
edge-snoc k n true h e = omega (arith, leb-true k (n + 1) e)
edge-snoc k n false h e = omega (arith, leb-false k (n + 1) e)

edges_from_lem : (k : ℕ) (r : List ℕ) (ms : List (Option ℕ)) → 1 ≤ k → edges_of k (prefixed r (runs ms)) ≡ edge k r + edges_from k (length r) ms
unfolding edges_of edge prefixed runs edges_from
edges_from_lem k r [] h = simp append-nil
edges_from_lem k r (None ∷ ms) h =
    let ih : edges_of k (runs ms) ≡ edges_from k 0 ms = ap (edges_of k) (sym (runs-prefixed ms)) ∙ edges_from_lem k [] ms h ∙ (omega arith) in
    rw append-nil (omega arith)
edges_from_lem k r (Some x ∷ ms) h =
    let n : length (r ++ (x ∷ [])) ≡ length r + 1 = omega (arith, length-append r (x ∷ [])) in
    rw (prefixed_on_first r x (runs ms), edges_from_lem k (r ++ (x ∷ [])) ms h, n) (omega (arith, edge-snoc k (length r) (leb k (length r + 1)) h refl))

-- The edge letters of all runs, as the letters come in.
pub edges_stream : (k : ℕ) (ms : List (Option ℕ)) → 1 ≤ k → edges_of k (runs ms) ≡ edges_from k 0 ms
unfolding edge
edges_stream k ms h = ap (edges_of k) (sym (runs-prefixed ms)) ∙ edges_from_lem k [] ms h ∙ (omega arith)
