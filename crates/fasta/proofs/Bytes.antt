-- What a byte of a line can be (`line_cases`, `item-cases`), and that every letter is a byte below 123.
use Rattle.std.proofs.Common.{◌≡◌, refl, ℕ, ◌≤◌, ◌<◌, arith, Bool, true, false, cond, ◌&&◌, ◌||◌, leb, eqb, le-leb, leb-true, ne_eqb}
use Rattle.fasta.specs.declared.Item.{Item}
use Rattle.fasta.specs.declared.Item.TheVariants.{Opens, Skip, Stray, Letter}
use Rattle.fasta.specs.declared.Mode.{Mode}
use Rattle.fasta.specs.declared.Mode.TheVariants.{Start, Header, Sequence, FastqStart, FastqHeader, FastqSequence, FastqPlus, FastqQuality}
use Rattle.fasta.specs.File.{is_letter, line_item, item}

-- A capital is a letter in a sequence line, whatever stands behind it.
pub capital : (b : ℕ) (lf : Bool) → 65 ≤ b → b ≤ 90 → Letter b ≡ line_item b lf
unfolding line_item is_letter
capital b lf h g = rw (ne_eqb b 10 (λ z. omega arith), ne_eqb b 13 (λ z. omega arith), le-leb 65 b h, le-leb b 90 g)

-- A byte of a line is skipped or stray or, where it is one of A to Z and a to z, a letter.
pub line_cases : (P : Item → Type 0) (b : ℕ) (lf : Bool) → P Skip → P Stray → (is_letter b ≡ true → P (Letter b)) → P (line_item b lf)
unfolding line_item
line_cases P b lf skip stray letter = go (eqb b 10 || (eqb b 13 && lf)) (is_letter b) refl
  where
    go : (s l : Bool) → is_letter b ≡ l → P (cond s Skip (cond l (Letter b) Stray))
    go true l e = skip
    go false true e = letter e
    go false false e = stray

-- A byte of a file is one of these, or opens a record.
pub item-cases : (P : Item → Type 0) (m : Mode) (b : ℕ) (lf : Bool) → P Opens → P Skip → P Stray → (is_letter b ≡ true → P (Letter b)) → P (item m b lf)
unfolding item
item-cases P Header b lf opens skip stray letter = skip
item-cases P Sequence b lf opens skip stray letter = line_cases P b lf skip stray letter
item-cases P FastqStart b lf opens skip stray letter = opens
item-cases P FastqHeader b lf opens skip stray letter = skip
item-cases P FastqSequence b lf opens skip stray letter = line_cases P b lf skip stray letter
item-cases P FastqPlus b lf opens skip stray letter = skip
item-cases P FastqQuality b lf opens skip stray letter = skip
item-cases P Start b lf opens skip stray letter = go (eqb b 62)
  where
    go : (s : Bool) → P (cond s Opens (line_item b lf))
    go true = opens
    go false = line_cases P b lf skip stray letter

pub letter_below : (b : ℕ) → is_letter b ≡ true → b < 123
unfolding is_letter
letter_below b e = go (leb 65 b) (leb b 90) (leb 97 b) (leb b 122) refl refl e
  where
    go : (p q r s : Bool) → leb b 90 ≡ q → leb b 122 ≡ s → ((p && q) || (r && s)) ≡ true → b < 123
    go p true r s f g h = omega (arith, leb-true b 90 f)
    go true false true true f g h = omega (arith, leb-true b 122 g)
    go false false true true f g h = omega (arith, leb-true b 122 g)
    go true false true false f g h = let z : ◌≡◌ {A = ℕ} 0 1 = cc in absurd (omega arith)
    go true false false s f g h = let z : ◌≡◌ {A = ℕ} 0 1 = cc in absurd (omega arith)
    go false false true false f g h = let z : ◌≡◌ {A = ℕ} 0 1 = cc in absurd (omega arith)
    go false false false s f g h = let z : ◌≡◌ {A = ℕ} 0 1 = cc in absurd (omega arith)
