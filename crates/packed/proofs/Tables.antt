-- The rule of the mirror table. One test, computed over the whole table, is the rule at each entry (`table_by_test`); the rule is document 01's mirror of
-- four letters (`entry_mirror`); and it leaves no choice at any entry, so that no other list has it (`one_table`).
use Rattle.std.proofs.Common.{◌≡◌, sym, ap, ◌∙◌, Bool, true, ◌&&◌, List, [], ◌∷◌, ℕ, zero, suc, ◌+◌, ◌-◌, ◌*◌, ◌/◌, ◌%◌, ◌<◌, zero-add, arith, eqb-true, eqb, length, get_or, ext_get_or}
use mathlib.Core.Bool.{and-eq-true_iff}
use Rattle.encoding.specs.Words.{Complement, mirror_rank, mirror, plain}
use Rattle.packed.specs.Mirrors.{packed, MirrorTable}

-- ---- the test

-- What the rule gives for a byte, by its four ranks.
unfoldable pub mirrored_byte : ℕ → ℕ
mirrored_byte b = packed (3 - b % 4) (3 - b / 4 % 4) (3 - b / 16 % 4) (3 - b / 64 % 4)

-- Whether the entries of a list, the first of them at the place b, are what the rule gives.
unfoldable pub all_mirrored : (b : ℕ) → List ℕ → Bool
all_mirrored b [] = true
all_mirrored b (x ∷ xs) = eqb x (mirrored_byte b) && all_mirrored (suc b) xs

mirrored_from : (b : ℕ) (xs : List ℕ) → all_mirrored b xs ≡ true → (i : ℕ) → i < length xs → get_or xs i 0 ≡ mirrored_byte (b + i)
unfolding all_mirrored
mirrored_from b [] e i h = absurd (omega arith)
mirrored_from b (x ∷ xs) e zero h =
    let here : b + 0 ≡ b = omega arith in
    rw here (eqb-true x (mirrored_byte b) ((and-eq-true_iff (eqb x (mirrored_byte b)) (all_mirrored (suc b) xs)).0 e).0)
mirrored_from b (x ∷ xs) e (suc i) h =
    let later : b + suc i ≡ suc b + i = omega arith in
    rw later (mirrored_from (suc b) xs ((and-eq-true_iff (eqb x (mirrored_byte b)) (all_mirrored (suc b) xs)).0 e).1 i (omega arith))

-- Four packed letters are a byte, whose four ranks are theirs.
packed_lt : (a b c d : ℕ) → a < 4 → b < 4 → c < 4 → d < 4 → packed a b c d < 256
unfolding packed
packed_lt a b c d ha hb hc hd = omega arith

mirrored_packed : (a b c d : ℕ) → a < 4 → b < 4 → c < 4 → d < 4 → mirrored_byte (packed a b c d) ≡ packed (3 - d) (3 - c) (3 - b) (3 - a)
unfolding mirrored_byte packed
mirrored_packed a b c d ha hb hc hd =
    let x : ℕ = a * 64 + b * 16 + c * 4 + d in
    let first : x / 64 % 4 ≡ a = omega arith in
    let second : x / 16 % 4 ≡ b = omega arith in
    let third : x / 4 % 4 ≡ c = omega arith in
    let fourth : x % 4 ≡ d = omega arith in
    rw (first, second, third, fourth)

-- The test is the rule at each entry.
pub table_by_test : (table : List ℕ) → length table ≡ 256 → all_mirrored 0 table ≡ true → MirrorTable table
table_by_test table l e =
    record {
      entries = l;
      at = λ a b c d ha hb hc hd.
          mirrored_from 0 table e (packed a b c d) (omega (arith, packed_lt a b c d ha hb hc hd))
          ∙ ap mirrored_byte (zero-add (packed a b c d))
          ∙ mirrored_packed a b c d ha hb hc hd;
    }

-- ---- what the rule says of each byte

-- Every byte is one of four packed letters.
packed-ranks : (b : ℕ) → b < 256 → packed (b / 64 % 4) (b / 16 % 4) (b / 4 % 4) (b % 4) ≡ b
unfolding packed
packed-ranks b h = let first : b / 64 % 4 ≡ b / 64 = omega arith in rw first (omega arith)

module _ {table : List ℕ} (T : MirrorTable table) where
  entry : (b : ℕ) → b < 256 → get_or table b 0 ≡ mirrored_byte b
  unfolding mirrored_byte
  entry b h =
      ap (λ (x : ℕ). get_or table x 0) (sym (packed-ranks b h))
      ∙ T.at (b / 64 % 4) (b / 16 % 4) (b / 4 % 4) (b % 4) (omega arith) (omega arith) (omega arith) (omega arith)

  -- The rule is the mirror of document 01.
  pub entry_mirror : (a b c d : ℕ) → a < 4 → b < 4 → c < 4 → d < 4
      → get_or table (plain 4 (a ∷ b ∷ c ∷ d ∷ [])) 0 ≡ plain 4 (mirror 4 Complement (a ∷ b ∷ c ∷ d ∷ []))
  unfolding plain mirror mirror_rank packed
  entry_mirror a b c d ha hb hc hd =
      let here : a * 64 + (b * 16 + (c * 4 + (d * 1 + 0))) ≡ a * 64 + b * 16 + c * 4 + d = omega arith in
      ap (λ (x : ℕ). get_or table x 0) here ∙ T.at a b c d ha hb hc hd ∙ omega arith

-- Altering any entry breaks the rule.
pub one_table : (t u : List ℕ) → MirrorTable t → MirrorTable u → t ≡ u
one_table t u T U =
    ext_get_or 0 t u (T.entries ∙ sym U.entries) (λ i h. let b : i < 256 = omega (arith, T.entries) in entry T i b ∙ sym (entry U i b))
