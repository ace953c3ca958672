-- The rank of U (document 02, K2), and copies with T for U. Where the settings have T and no U, U has T's rank (`rank_of_U`); else, and for all other bytes,
-- the rank is as before (`rank_as_before`). A function that takes U for T, and u for t, takes a byte for what stands for it in a copy (`same_at`), and the rank is
-- such a function (`same_rank`). All copies of some bytes become the same by T for every U (`copies_meet`), so what this leaves as it was is the same for all
-- of them (`same_of_copies`), their length too (`same_length`). By cases on the two bytes, and byte by byte.
use mathlib.Core.Path.{◌≡◌, refl, sym, ap, ap₂, ◌∙◌}
use mathlib.Core.Bool.{Bool, true, false}
use mathlib.Core.Logic.{◌⊎◌, ◌≢◌, inl, inr, ⊎_elim}
use mathlib.Core.List.Forall₂
use mathlib.Core.List.{List, [], ◌∷◌, map}
use Prim.Native.Nat.{ℕ}
use lib.Dec.{eqb}
use lib.ListN.{length, length-map}
use borrow.Author.Tests.{eqb-true}
use Rattle.laws.specs.Text.{bytes}
use Rattle.settings.specs.Settings.{capital_of, place_from, reads_u_as_t, read_as, rank_in}
use Rattle.settings.specs.Copies.{t_for_u, CopyWithT}
use Rattle.settings.proofs.Ranks.{read_own, read_other}

-- ---- a byte

-- The replacement, computed.
replaced : map t_for_u (bytes "AUuTtVv") ≡ bytes "ATtTtVv"
unfolding t_for_u
replaced = refl

-- Cases: U, u, and a byte that T for U leaves as it is.
pub byte_cases : (P : ℕ → Type 0) → P 85 → P 117 → ((b : ℕ) → t_for_u b ≡ b → P b) → (b : ℕ) → P b
unfolding t_for_u
byte_cases P capital small other b = go (eqb b 85) (eqb b 117) refl refl
  where
    go : (p q : Bool) → eqb b 85 ≡ p → eqb b 117 ≡ q → P b
    go true q e f = let same : b ≡ 85 = eqb-true b 85 e in rw same capital
    go false true e f = let same : b ≡ 117 = eqb-true b 117 f in rw same small
    go false false e f = other b (rw (e, f))

pub same_at : {X : Type 0} (f : ℕ → X) → f 85 ≡ f 84 → f 117 ≡ f 116 → (b : ℕ) → f (t_for_u b) ≡ f b
unfolding t_for_u
same_at f capital small = byte_cases (λ (b : ℕ). f (t_for_u b) ≡ f b) (sym capital) (sym small) (λ b e. ap f e)

-- LF is LF in the copy, and no other byte is.
pub same_lf : (b : ℕ) → eqb (t_for_u b) 10 ≡ eqb b 10
same_lf = same_at (λ (b : ℕ). eqb b 10) refl refl

-- ---- its rank

-- "Where the settings have T and no U, U and u have T's rank".
pub rank_of_U : (letters : List ℕ) → reads_u_as_t letters ≡ true → (rank_in letters 85 ≡ rank_in letters 84) × (rank_in letters 117 ≡ rank_in letters 84)
unfolding read_as capital_of
rank_of_U letters reads = (rw reads, rw reads)

-- Under all other settings, and of all other bytes, the rank is that of document 01: the place of the byte's capital.
pub rank_as_before : (letters : List ℕ) (b : ℕ) → (reads_u_as_t letters ≡ false) ⊎ (capital_of b ≢ 85) → rank_in letters b ≡ place_from 0 (capital_of b) letters
rank_as_before letters b (inl none) = ap (λ (c : ℕ). place_from 0 c letters) (sym (read_own letters b (sym none)))
rank_as_before letters b (inr other) = ap (λ (c : ℕ). place_from 0 c letters) (sym (read_other letters b other))

-- A byte and what stands for it in a copy have the same rank.
pub same_rank : (letters : List ℕ) → reads_u_as_t letters ≡ true → (b : ℕ) → rank_in letters (t_for_u b) ≡ rank_in letters b
unfolding read_as capital_of
same_rank letters reads = same_at (rank_in letters) (rw reads) (rw reads)

-- ---- some bytes

-- A copy with T for every U is one, and so are the bytes themselves.
pub copy_of_all : (l : List ℕ) → CopyWithT l (map t_for_u l)
copy_of_all [] = Forall₂.nil
copy_of_all (b ∷ l) = Forall₂.cons (inr refl) (copy_of_all l)

pub copy_of_none : (l : List ℕ) → CopyWithT l l
copy_of_none [] = Forall₂.nil
copy_of_none (b ∷ l) = Forall₂.cons (inl refl) (copy_of_none l)

copies_meet : {l copy : List ℕ} → CopyWithT l copy → map t_for_u l ≡ map t_for_u copy
unfolding t_for_u
copies_meet Forall₂.nil = refl
copies_meet (Forall₂.cons {a = b} {b = c} same rest) =
    ap₂ (λ (x : ℕ) (l : List ℕ). x ∷ l) (sym (⊎_elim (ap t_for_u) (λ e. ap t_for_u e ∙ same_at t_for_u refl refl b) same)) (copies_meet rest)

pub same_of_copies : {X : Type 0} (f : List ℕ → X) → ((l : List ℕ) → f (map t_for_u l) ≡ f l) → {l copy : List ℕ} → CopyWithT l copy → f l ≡ f copy
same_of_copies f same {l} {copy} C = sym (same l) ∙ ap f (copies_meet C) ∙ same copy

pub same_length : {l copy : List ℕ} → CopyWithT l copy → length l ≡ length copy
same_length = same_of_copies length (λ l. length-map l t_for_u)
