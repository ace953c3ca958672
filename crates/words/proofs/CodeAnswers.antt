-- What `code_of` answers at each of its tests: the ground that applies, or the code.
use Rattle.std.proofs.Common.{◌≡◌, ◌∙◌, Result, Ok, Err, None, Some, List, ℕ, length}
use Rattle.std.specs.Result.{IsErrAnd, is_ok}
use Rattle.std.proofs.lemmas.Result.{err_from_is_err_and}
use Rattle.settings.specs.Grounds.{Ground, ground, ground_at, ground_of, refused, outcome, given}
use Rattle.settings.specs.declared.Refusal.{Refusal}
use Rattle.ranks.specs.declared.Code.{Code}
use Rattle.words.specs.Answers.{of_coding}
use Rattle.words.specs.Needs.{none_applies}
use Rattle.words.proofs.PickAnswers.{coded_none, refused_coding}
use Rattle.settings.specs.Limits.{Limits}
use Rattle.settings.specs.Settings.{settings_ground, settings_of}
use Rattle.settings.proofs.Outcomes.{refused_on, refused_by, given_by}
use Rattle.settings.proofs.SettingsGrounds.{known}
use Rattle.settings.specs.declared.Checked.{Checked}
use Rattle.encoding.specs.Calls.{coding, code_ground, wrong_length, foreign_from, ranks_of}
use Rattle.encoding.specs.Codes.{code}
use Rattle.words.proofs.CallGrounds.{length_right, code_length, code_foreign}
use Rattle.settings.specs.Given.{the_settings}

module _ (letters : List ℕ) (k m : ℕ) (word : List ℕ) where
  pub bad_settings : (f : Ground) → refused f ≡ outcome (settings_ground (the_settings letters k m)) (settings_of (the_settings letters k m)) → refused f ≡ coding (the_settings letters k m) word
  unfolding coding code_ground
  bad_settings f e = refused_on f (settings_of (the_settings letters k m)) _ (settings_ground (the_settings letters k m)) _ e

  module _ (st : Checked) (e : given st ≡ outcome (settings_ground (the_settings letters k m)) (settings_of (the_settings letters k m))) where
    none_yet : settings_ground (the_settings letters k m) ≡ None
    none_yet = (known letters k m st e).none_applies_lem

    pub bad_length : (f : Ground) → Some f ≡ ground 5 (wrong_length k word) → refused f ≡ coding (the_settings letters k m) word
    unfolding coding
    bad_length f g = refused_by f _ (code_ground (the_settings letters k m) word) (code_length letters k m none_yet word f g)

    module _ (right : None ≡ ground 5 (wrong_length k word)) where
      pub word_within : Limits (length letters) (length word)
      word_within = rw (length_right k word right) (known letters k m st e).within

      pub bad_byte : (f : Ground) → Some f ≡ ground_at 9 (foreign_from letters 0 word) → refused f ≡ coding (the_settings letters k m) word
      unfolding coding
      bad_byte f g = refused_by f _ (code_ground (the_settings letters k m) word) (code_foreign letters k m none_yet word right (Some f) g)

      pub coded_word : None ≡ ground_at 9 (foreign_from letters 0 word) → (q : ℕ) → q ≡ code (length letters) st.mirror (length word) (ranks_of letters word)
          → given q ≡ coding (the_settings letters k m) word
      unfolding coding
      coded_word h q g =
          given_by q _ (code_ground (the_settings letters k m) word) (code_foreign letters k m none_yet word right None h)
          (g ∙ rw ((known letters k m st e).mirror_is, length_right k word right))

-- What `code_of` returns where a check refused: that refusal.
pub coding_passed_on : (r : Result Code Refusal) (f : Refusal) → IsErrAnd r (λ x. x ≡ f) → of_coding r ≡ refused (ground_of f)
coding_passed_on r f e = let (x, is, same) = err_from_is_err_and r e in rw (is, same)

-- It answers a code exactly where no ground applies.
pub codes_where_none : (letters : List ℕ) (k m : ℕ) (word : List ℕ) (r : Result Code Refusal) → of_coding r ≡ coding (the_settings letters k m) word
    → is_ok r ≡ none_applies (code_ground (the_settings letters k m) word)
codes_where_none letters k m word (Ok q) e = coded_none letters k m word q.0 e
codes_where_none letters k m word (Err f) e = refused_coding letters k m word (ground_of f) e
