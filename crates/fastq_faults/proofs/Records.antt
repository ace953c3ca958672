-- The first fault of a FASTQ file as the functions meet it: the grounds of one record from the places of its lines (`LinesAt`), and the records one after the
-- other (`record_step`). From the definitions and the laws of lines.
use Rattle.std.proofs.Common.{◌≡◌, refl, sym, ap, ◌∙◌, true, false, Option, None, Some, List, [], ◌∷◌, ℕ, ◌+◌, ◌-◌, ◌≤◌, ◌<◌, arith, length, take, drop, length-drop, eq-eqb, ne_eqb}
use Rattle.lines.specs.Lines.{lines, text_of, first_byte_is}
use Rattle.lines.proofs.Lines.{first_of, rest_of, first_of_lines, lines_behind, lines_next, lines_end, line_inside, first_some, first_byte}
use Rattle.lines.proofs.Texts.{text_is_part, text_short}
use Rattle.settings.specs.Grounds.{Ground, ground_at, ◌or_else◌}
use Rattle.settings.proofs.Outcomes.{or_none}
use Rattle.fasta.specs.File.{is_letter}
use Rattle.fastq.specs.Fastq.{is_there, unless_at, first_failing, is_quality, record_fault, fastq_fault}
use Rattle.fastq_faults.specs.Needs.{quality_ground, text_ground, line_at, LinesAt, record_at}

-- ---- the grounds of the two texts

module _ (n at : ℕ) (text : List ℕ) where
  pub length_differs : (length text ≡ n → ⊥) → Some (16, at) ≡ quality_ground n at text
  unfolding quality_ground unless_at
  length_differs ne = rw (ne_eqb (length text) n ne)

  -- Where the lengths agree, the first byte outside.
  pub length_agrees : (o : Option ℕ) → length text ≡ n → first_failing is_quality at text ≡ o → ground_at 17 o ≡ quality_ground n at text
  unfolding quality_ground unless_at
  length_agrees o e h = rw (h, eq-eqb (length text) n e)

-- The first stray byte, and where there is none the grounds of the quality text.
pub stray_or_quality : (from at : ℕ) (s q : List ℕ) (o : Option ℕ) → first_failing is_letter from s ≡ o
    → ground_at 10 o or_else quality_ground (length s) at q ≡ text_ground from s at q
unfolding text_ground
stray_or_quality from at s q o e = rw e

-- ---- the grounds of a record

is_there_lem : (l : List ℕ) → 0 < length l → is_there l ≡ true
unfolding is_there
is_there_lem [] h = absurd (omega arith)
is_there_lem (b ∷ l) h = refl

not_there : (l : List ℕ) → length l ≡ 0 → is_there l ≡ false
unfolding is_there
not_there [] h = refl
not_there (b ∷ l) h = absurd (omega arith)

-- Its header line starts at h, the other three at s, p and q, and what follows it at e.
module _ {f : List ℕ} {h s p q e : ℕ} (L : LinesAt f h s p q e) where
  pub first_lacks : false ≡ first_byte_is 64 (drop h f) → Some (15, h) ≡ record_at f h s p q
  unfolding record_fault unless_at
  first_lacks x = rw (sym (x ∙ first_byte 64 (drop h f)))

  module _ (one : true ≡ first_byte_is 64 (drop h f)) where
    pub third_lacks : false ≡ first_byte_is 43 (drop p f) → Some (15, p) ≡ record_at f h s p q
    unfolding record_fault unless_at
    third_lacks x = rw (sym (one ∙ first_byte 64 (drop h f)), sym (x ∙ first_byte 43 (drop p f)), sym L.second, sym L.third)

    module _ (three : true ≡ first_byte_is 43 (drop p f)) where
      pub fourth_lacks : e ≤ q → Some (15, q) ≡ record_at f h s p q
      unfolding record_fault unless_at
      fourth_lacks x =
          rw (sym (one ∙ first_byte 64 (drop h f)), sym (three ∙ first_byte 43 (drop p f)), not_there (line_at f q) (omega (arith, L.behind)), sym L.second, sym L.third, sym L.fourth)

      -- Where all lines are there, the grounds of the texts.
      pub lines_there : q < e → (to end : ℕ) → to ≡ s + length (text_of (line_at f s)) → end ≡ q + length (text_of (line_at f q))
          → text_ground s (take (to - s) (drop s f)) q (take (end - q) (drop q f)) ≡ record_at f h s p q
      unfolding record_fault unless_at text_ground quality_ground
      lines_there x to end y z =
          let fourth = is_there_lem (line_at f q) (omega (arith, L.behind)) in
          rw (sym (text_is_part f s to y), sym (text_is_part f q end z), sym (one ∙ first_byte 64 (drop h f)), sym (three ∙ first_byte 43 (drop p f)), fourth, sym L.second, sym L.third, sym L.fourth)

  -- The texts of the sequence line and of the quality line lie inside the file.
  pub texts_inside : (to end : ℕ) → to ≡ s + length (text_of (line_at f s)) → end ≡ q + length (text_of (line_at f q))
      → (s ≤ to) × (to ≤ length f) × (q ≤ end) × (end ≤ length f)
  texts_inside to end y z =
      let s-inside : s ≤ length f = omega (arith, L.second, line_inside f h (omega (arith, L.there))) in
      let p-inside : p ≤ length f = omega (arith, L.third, line_inside f s s-inside) in
      let q-inside : q ≤ length f = omega (arith, L.fourth, line_inside f p p-inside) in (
        omega arith,
        omega (arith, line_inside f s s-inside, text_short (line_at f s)),
        omega arith,
        omega (arith, line_inside f q q-inside, text_short (line_at f q)),
      )

-- ---- record by record

-- A record takes the first four lines, of which some may be missing, and the others follow it.
four_lines : (at : ℕ) (h : List ℕ) (ls : List (List ℕ))
    → let s = first_of ls in
    let p = first_of (rest_of ls) in
    let q = first_of (rest_of (rest_of ls)) in
    fastq_fault at (h ∷ ls)
    ≡ record_fault at h s p q or_else fastq_fault (at + length h + length s + length p + length q) (rest_of (rest_of (rest_of ls)))
unfolding fastq_fault first_of rest_of
four_lines at h [] = or_none (record_fault at h [] [] [])
four_lines at h (s ∷ []) = or_none (record_fault at h s [] [])
four_lines at h (s ∷ p ∷ []) = or_none (record_fault at h s p [])
four_lines at h (s ∷ p ∷ q ∷ ls) = refl

module _ {f : List ℕ} {h s p q e : ℕ} (L : LinesAt f h s p q e) where
  behind_s : rest_of (lines (drop s f)) ≡ lines (drop p f)
  behind_s = lines_behind f s p L.third

  behind_p : rest_of (rest_of (lines (drop s f))) ≡ lines (drop q f)
  behind_p = ap rest_of behind_s ∙ lines_behind f p q L.fourth

  behind_q : rest_of (rest_of (rest_of (lines (drop s f)))) ≡ lines (drop e f)
  behind_q = ap rest_of behind_p ∙ lines_behind f q e L.behind

  -- The first fault from a record on is that of the record, or else the first from behind it on.
  record_step : fastq_fault h (lines (drop h f)) ≡ record_at f h s p q or_else fastq_fault e (lines (drop e f))
  record_step =
      let total : h + length (line_at f h) + length (line_at f s) + length (line_at f p) + length (line_at f q) ≡ e
      = omega (arith, L.second, L.third, L.fourth, L.behind) in
      ap (fastq_fault h) (lines_next f h s L.second L.there) ∙ four_lines h (line_at f h) (lines (drop s f))
      ∙ rw (behind_q, ap first_of behind_p ∙ first_of_lines (drop q f), ap first_of behind_s ∙ first_of_lines (drop p f), first_of_lines (drop s f), total)

  -- Each record has a byte.
  goes_on : h < e
  goes_on = omega (arith, first_some (drop h f) (omega (arith, length-drop h f, L.there)), L.second, L.third, L.fourth, L.behind)

-- The same of a record of a file that starts at a place, where its own file and place are known by equations.
module _ {f f' : List ℕ} {h h' s p q e : ℕ} (file : f' ≡ f) (start : h' ≡ h) (L : LinesAt f' h' s p q e) where
  pub faulty_record : {g : Ground} → Some g ≡ record_at f' h' s p q → Some g ≡ fastq_fault h (lines (drop h f))
  faulty_record x = rw (← file, ← start) (sym (record_step L ∙ rw (← x)))

  pub clean_record : None ≡ record_at f' h' s p q → fastq_fault h (lines (drop h f)) ≡ fastq_fault e (lines (drop e f))
  clean_record x = rw (← file, ← start) (record_step L ∙ rw (← x))

  pub later_record : h < e
  later_record = rw (← start) (goes_on L)

-- No record is left.
pub no_record : (f : List ℕ) (at : ℕ) → length f ≤ at → fastq_fault at (lines (drop at f)) ≡ None
unfolding fastq_fault
no_record f at x = rw (lines_end f at x)
