-- The modes that skip every byte of a line up to its LF, and what a stretch without LF is in them: so the scan and the count pass over it by a search for
-- its end. By cases on the mode, and by induction over the stretch.
use Rattle.std.proofs.Common.{◌≡◌, refl, sym, ap, ◌∙◌, ℕ, zero, suc, ◌+◌, ◌-◌, ◌<◌, ◌≤◌, arith, Bool, true, Option, List, ◌∷◌, length, get_or, drop, ne_eqb}
use mathlib.Core.Bool.{false≢true}
use Rattle.fasta.specs.declared.Item.{Item}
use Rattle.fasta.specs.declared.Item.TheVariants.{Skip}
use Rattle.fasta.specs.declared.Mode.{Mode}
use Rattle.fasta.specs.declared.Mode.TheVariants.{Start, Header, Sequence, FastqStart, FastqHeader, FastqSequence, FastqPlus, FastqQuality}
use Rattle.fasta.specs.Items.{marks}
use Rattle.fasta.specs.File.{lf_next, item, next, items_from}
use Rattle.lines.specs.Needs.{NoLf}
use Rattle.fasta.specs.Needs.{is_passed_over, skips, Skips}
use Rattle.fasta.proofs.Scans.{items_step}

-- A byte that is passed over is skipped, and leaves the mode unless it is LF.
pub passed_item : (m : Mode) → is_passed_over m ≡ true → (b : ℕ) (lf : Bool) → item m b lf ≡ Skip
unfolding item
passed_item Header f b lf = refl
passed_item FastqHeader f b lf = refl
passed_item FastqPlus f b lf = refl
passed_item FastqQuality f b lf = refl
passed_item Start f b lf = absurd (false≢true f)
passed_item Sequence f b lf = absurd (false≢true f)
passed_item FastqStart f b lf = absurd (false≢true f)
passed_item FastqSequence f b lf = absurd (false≢true f)

pub passed_next : (m : Mode) → is_passed_over m ≡ true → (b : ℕ) → (b ≡ 10 → ⊥) → next m b ≡ m
unfolding next
passed_next Header f b ne = rw (ne_eqb b 10 ne)
passed_next FastqHeader f b ne = rw (ne_eqb b 10 ne)
passed_next FastqPlus f b ne = rw (ne_eqb b 10 ne)
passed_next FastqQuality f b ne = rw (ne_eqb b 10 ne)
passed_next Start f b ne = absurd (false≢true f)
passed_next Sequence f b ne = absurd (false≢true f)
passed_next FastqStart f b ne = absurd (false≢true f)
passed_next FastqSequence f b ne = absurd (false≢true f)

passed_items : (m : Mode) → is_passed_over m ≡ true → (f : List ℕ) (n i : ℕ) → i + n ≤ length f → ((j : ℕ) → i ≤ j → j < i + n → get_or f j 0 ≡ 10 → ⊥)
    → items_from m (drop i f) ≡ skips n (items_from m (drop (i + n) f))
unfolding skips
passed_items m F f zero i h b = let e : i + 0 ≡ i = omega arith in rw e
passed_items m F f (suc n) i h b =
    let e : i + suc n ≡ i + 1 + n = omega arith in
    let ne : get_or f i 0 ≡ 10 → ⊥ = b i (omega arith) (omega arith) in
    items_step f i m (omega arith)
    ∙ ap (λ (x : Item). x ∷ items_from (next m (get_or f i 0)) (drop (i + 1) f)) (passed_item m F (get_or f i 0) (lf_next (drop (i + 1) f)))
    ∙ ap (λ (x : Mode). Skip ∷ items_from x (drop (i + 1) f)) (passed_next m F (get_or f i 0) ne)
    ∙ ap (λ (x : List Item). Skip ∷ x) (passed_items m F f n (i + 1) (omega arith) (λ j x y. b j (omega arith) (omega arith)))
    ∙ ap (λ (x : ℕ). Skip ∷ skips n (items_from m (drop x f))) (sym e)

-- A stretch without LF is skipped.
pub skips-passed : {m : Mode} {f : List ℕ} {i e : ℕ} → is_passed_over m ≡ true → i ≤ length f → NoLf f i e → Skips f m i e
skips-passed {m} {f} {i} {e} F h N =
    let n : i + (e - i) ≡ e = omega (arith, N.on) in
    let inside = N.inside h in
    record {
      on = N.on;
      inside = inside;
      skipped = passed_items m F f (e - i) i (omega arith) (λ j x y. N.bytes j x (omega arith)) ∙ ap (λ (x : ℕ). skips (e - i) (items_from m (drop x f))) n;
    }

-- So is a stretch of no byte.
pub skips-none : {m : Mode} {f : List ℕ} {i : ℕ} → i ≤ length f → Skips f m i i
unfolding skips
skips-none {m} {f} {i} h = let z : i - i ≡ 0 = omega arith in record { on = omega arith; inside = h; skipped = rw z }

-- Skipped bytes leave no mark.
pub marks-skips : (rank : ℕ → Option ℕ) (n : ℕ) (is : List Item) → marks rank (skips n is) ≡ marks rank is
unfolding marks skips
marks-skips rank zero is = refl
marks-skips rank (suc n) is = marks-skips rank n is
