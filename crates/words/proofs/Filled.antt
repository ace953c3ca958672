-- A list that a function's answers of bytes are written to: one more (`filled_next`), and all, where the function is known (`filled_with`).
use Rattle.std.proofs.Common.{◌≡◌, sym, ap, ◌∙◌, List, map, ◌++◌, ℕ, ◌<◌, ◌≤◌, ◌+◌, arith, length, get_or, set, take, drop, length-set, length-take-le, take-append-drop}
use Rattle.std.proofs.lemmas.List.{length-map}
use Rattle.std.proofs.lemmas.Grind.{same_number_lists}
use lib.Seq.{drop-drop, drop-set-lt, get_or-take}
use Rattle.laws.proofs.Buffers.{set_next}
use Rattle.laws.proofs.Lists.{get_d_map_in}
use Rattle.words.specs.Needs.{FilledBy}
use Rattle.words.proofs.RanksByTable.{Bytes}

module _ (A : ℕ → ℕ → Type 0) (bytes old new : List ℕ) where
  pub filled_next : (n x : ℕ) → FilledBy A bytes old new n → n < length old → A (get_or bytes n 0) x → FilledBy A bytes old (set new n x) (n + 1)
  filled_next n x W h e =
      record {
        long = length-set new n x ∙ W.long;
        each = set_next (λ i y. A (get_or bytes i 0) y) new (omega (arith, W.long)) W.each e;
        rest =
            drop-set-lt (n + 1) new n x (omega arith)
            ∙ sym (drop-drop 1 n new) ∙ ap (drop 1) W.rest ∙ drop-drop 1 n old;
      }

  -- The function answers f of a byte.
  pub filled_with : FilledBy A bytes old new (length bytes) → length bytes ≤ length old → Bytes bytes → (f : ℕ → ℕ)
      → ((b r : ℕ) → b < 256 → A b r → r ≡ f b) → new ≡ map f bytes ++ drop (length bytes) old
  filled_with W h B f is =
      sym (take-append-drop (length bytes) new)
      ∙ ap (λ (l : List ℕ). l ++ drop (length bytes) new) front
      ∙ ap (λ (l : List ℕ). map f bytes ++ l) W.rest
    where
      size : length (take (length bytes) new) ≡ length bytes
      size = length-take-le (length bytes) new (omega (arith, W.long))

      front : take (length bytes) new ≡ map f bytes
      front =
          same_number_lists (take (length bytes) new) (map f bytes) (size ∙ sym (length-map bytes f))
          (λ k g.
          let inside : k < length bytes = omega (arith, size) in
          get_or-take (length bytes) new k 0 inside
          ∙ is (get_or bytes k 0) (get_or new k 0) (B.below k inside) (W.each k inside)
          ∙ sym (get_d_map_in f bytes k inside))
