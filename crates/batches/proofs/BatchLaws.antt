-- One batch: its codes in the array that was filled, of which `limit` at most are asked for, and what a batch keeps of its letters.
use Rattle.std.proofs.Common.{◌≡◌, sym, ap, ◌∙◌, ℕ, ◌+◌, ◌-◌, ◌≤◌, min, arith, false, List, length, take, drop, take-take, zero-add, length-drop}
use lib.Seq.{paste}
use Rattle.std.proofs.lemmas.List.{drop-take}
use Rattle.std.proofs.lemmas.List.Edits.{take-paste}
use Rattle.std.specs.List.{copy_within}
use Rattle.settings.specs.Settings.{classes}
use Rattle.encoding.specs.Words.{Ranks}
use Rattle.encoding.specs.Codes.{code}
use Rattle.kernels.specs.declared.Coder.{Coder}
use Rattle.laws.specs.Windows.{windows}
use Rattle.windows.specs.Needs.{Fills}
use Rattle.laws.proofs.Buffers.{front_is}
use Rattle.laws.proofs.Each.{each_take}
use Rattle.laws.proofs.Lists.{take_min}
use Rattle.windows.proofs.Windows.{length_codes}
use Rattle.laws.specs.Each.{Each}
use Rattle.tally_book.specs.Needs.{Below}
use Rattle.batches.specs.Needs.{codes_by, Carries}
use Rattle.tally_book.proofs.FileWords.{word_windows}
use Rattle.tally_book.proofs.Classes.{codes_below}

module _ (c : Coder) (ranks : List ℕ) where
  codes_length : length (codes_by c (windows c.k ranks)) ≡ length ranks + 1 - c.k
  codes_length = length_codes c.k c.some (code c.s c.mirror c.k) ranks

  -- The codes stand at the start of the list that was filled.
  codes_front : {old new : List ℕ} → Fills (codes_by c (windows c.k ranks)) old new → (n : ℕ) → n ≡ length ranks + 1 - c.k
      → take n new ≡ codes_by c (windows c.k ranks)
  codes_front F n e = front_is (codes_by c (windows c.k ranks)) _ F.is (codes_length ∙ sym e)

  -- And so do the first of them, where at most `limit` of m are asked for.
  pub codes_first : {old new : List ℕ} → Fills (codes_by c (windows c.k ranks)) old new → (limit m n : ℕ) → n ≡ min limit m → m ≡ length ranks + 1 - c.k
      → take n new ≡ take limit (codes_by c (windows c.k ranks))
  codes_first {new = new} F limit m n e f =
      let codes = codes_by c (windows c.k ranks) in
      sym (take-take n m new (omega arith))
      ∙ ap (take n) (codes_front F m f)
      ∙ ap (λ (i : ℕ). take i codes) (e ∙ ap (min limit) (f ∙ sym codes_length))
      ∙ take_min limit codes

  -- Each is below the number of classes.
  pub first_below : (limit : ℕ) → Ranks c.s ranks → Each (Below (classes c.s c.mirror c.k)) (take limit (codes_by c (windows c.k ranks)))
  first_below limit R =
      each_take (Below (classes c.s c.mirror c.k)) limit (codes_by c (windows c.k ranks))
      (codes_below c.mirror c.limits (windows c.k ranks) (word_windows c.s c.k ranks R))

-- What a batch keeps of its array.
pub carried : {array new : List ℕ} {n k : ℕ} → 1 ≤ k → k ≤ n + 1 → n ≤ length array → new ≡ copy_within array (n + 1 - k) n 0
    → Carries array n k false (k - 1) new
carried {array} {new} {n} {k} some long fits e =
    let m : n - (n + 1 - k) ≡ k - 1 = omega arith in
    let l : n ≡ n + 1 - k + (k - 1) = omega arith in
    let last : List ℕ = drop (n + 1 - k) array in
    let moved : take (k - 1) (paste array 0 last (k - 1)) ≡ take (k - 1) last =
    ap (λ (i : ℕ). take i (paste array 0 last (k - 1))) (sym (zero-add (k - 1)))
    ∙ take-paste array 0 last (k - 1) (omega arith) (omega (arith, length-drop (n + 1 - k) array)) in
    record {
      few = omega arith;
      letters =
          ap (take (k - 1)) (e ∙ ap (λ (i : ℕ). paste array 0 last i) m)
          ∙ moved
          ∙ sym (drop-take (n + 1 - k) (k - 1) array)
          ∙ ap (λ (i : ℕ). drop (n + 1 - k) (take i array)) (sym l);
    }
