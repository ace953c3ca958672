-- The code of a word of one letter, as `middle_code` works it out: by cases on the mirror and, under complement, on the half of the ranks.
use Rattle.std.proofs.Common.{◌≡◌, sym, ap, ◌∙◌, [], ◌∷◌, ℕ, ◌-◌, ◌/◌, ◌<◌, ◌≤◌, min, arith}
use Rattle.encoding.specs.Words.{Mirror, Reversal, Complement}
use Rattle.encoding.specs.Codes.{code}
use Rattle.encoding.proofs.CodesByEnds.{middle_code, code_one}

module _ (s x : ℕ) {m : Mirror} (two : 1 < s) (low : x < s) where
  by_mirror : (n : Mirror) → m ≡ n → middle_code s n x ≡ code s m 1 (x ∷ [])
  by_mirror n e = sym (code_one s m two x low ∙ ap (λ (o : Mirror). middle_code s o x) e)

  pub one_reversed : m ≡ Reversal → x ≡ code s m 1 (x ∷ [])
  unfolding middle_code
  one_reversed e = by_mirror Reversal e

  -- Under complement: how far it is from the middle letter, or with even s from the nearer one of the two.
  module _ (e : m ≡ Complement) where
    from_middle : (s - 1) / 2 - min x (s - 1 - x) ≡ code s m 1 (x ∷ [])
    unfolding middle_code
    from_middle = by_mirror Complement e

    pub one_low : x < s / 2 → (s - 1) / 2 - x ≡ code s m 1 (x ∷ [])
    one_low g =
        let own : x ≡ min x (s - 1 - x) = omega arith in
        ap (λ (y : ℕ). (s - 1) / 2 - y) own ∙ from_middle

    pub one_high : s / 2 ≤ x → x - s / 2 ≡ code s m 1 (x ∷ [])
    one_high g =
        let other : s - 1 - x ≡ min x (s - 1 - x) = omega arith in
        let same : x - s / 2 ≡ (s - 1) / 2 - (s - 1 - x) = omega arith in
        same ∙ ap (λ (y : ℕ). (s - 1) / 2 - y) other ∙ from_middle
