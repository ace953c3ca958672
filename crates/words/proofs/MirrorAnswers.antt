-- What `mirror_of` answers and leaves at each of its tests.
use Rattle.std.proofs.Common.{◌≡◌, ap, ◌∙◌, sym, Some, None, List, ◌++◌, ℕ, length, drop}
use Rattle.settings.specs.Grounds.{Outcome, Overwrites, Ground, ground, ground_at, too_short, refused, outcome, given}
use Rattle.settings.specs.Settings.{settings_ground, settings_of}
use Rattle.settings.proofs.Outcomes.{kept_by, kept_on, set_by}
use Rattle.settings.proofs.SettingsGrounds.{Known, known}
use Rattle.settings.specs.declared.Checked.{Checked}
use Rattle.encoding.specs.Calls.{mirror_ground, mirror_bytes, wrong_length, foreign_from, in_capitals, ranks_of}
use Rattle.encoding.specs.Words.{mirror}
use Rattle.words.proofs.CallGrounds.{mirror-length, mirror_short, mirror_foreign}
use Rattle.encoding.proofs.Ends.{length-mirror}
use Rattle.words.proofs.LetterLoops.{mirrored_bytes, length-capitals, length-ranks_of}
use Rattle.settings.specs.Given.{the_settings}

module _ (letters : List ℕ) (k m : ℕ) (word old : List ℕ) where
  -- The contract of `mirror_of`, for an answer and what is left in the buffer.
  abbrev pub Mirrors : Outcome ℕ → List ℕ → Type 0
  Mirrors answer new = Overwrites (mirror_ground (the_settings letters k m) word (length old)) k (mirror_bytes letters m word) old answer new

  kept : (f : Ground) → mirror_ground (the_settings letters k m) word (length old) ≡ Some f → Mirrors (refused f) old
  kept f e = kept_by (mirror_ground (the_settings letters k m) word (length old)) k (mirror_bytes letters m word) old f e

  pub mirror_bad_settings : (f : Ground) → refused f ≡ outcome (settings_ground (the_settings letters k m)) (settings_of (the_settings letters k m)) → Mirrors (refused f) old
  unfolding mirror_ground
  mirror_bad_settings f e = kept_on f (settings_of (the_settings letters k m)) (settings_ground (the_settings letters k m)) _ k (mirror_bytes letters m word) old e

  module _ (st : Checked) (e : given st ≡ outcome (settings_ground (the_settings letters k m)) (settings_of (the_settings letters k m))) where
    good : Known letters k m st
    good = known letters k m st e

    pub mirror_bad_length : (f : Ground) → Some f ≡ ground 5 (wrong_length k word) → Mirrors (refused f) old
    mirror_bad_length f h = kept f (mirror-length letters k m good.none_applies_lem word (length old) f h)

    pub mirror_into_short : None ≡ ground 5 (wrong_length k word) → (f : Ground) → Some f ≡ ground_at 7 (too_short (length old) k) → Mirrors (refused f) old
    mirror_into_short right f h = kept f (mirror_short letters k m good.none_applies_lem word (length old) right f h)

    pub mirror_bad_byte : None ≡ ground 5 (wrong_length k word) → None ≡ ground_at 7 (too_short (length old) k) → (f : Ground)
        → Some f ≡ ground_at 9 (foreign_from letters 0 word) → Mirrors (refused f) old
    mirror_bad_byte right there f h = kept f (mirror_foreign letters k m good.none_applies_lem word (length old) right there (Some f) h)

    pub mirror_written_out : None ≡ ground 5 (wrong_length k word) → None ≡ ground_at 7 (too_short (length old) k) → None ≡ ground_at 9 (foreign_from letters 0 word)
        → (new : List ℕ) → new ≡ in_capitals letters (mirror (length letters) st.mirror (ranks_of letters word)) ++ drop (length word) old → Mirrors (given k) new
    mirror_written_out right there h new x =
        set_by (mirror_ground (the_settings letters k m) word (length old)) k (mirror_bytes letters m word) old new
        (mirror_foreign letters k m good.none_applies_lem word (length old) right there None h)
        (x ∙ ap (λ (w : List ℕ). w ++ drop (length word) old) bytes_are ∙ ap (λ (n : ℕ). mirror_bytes letters m word ++ drop n old) (sym bytes_length))
      where
        bytes_are : in_capitals letters (mirror (length letters) st.mirror (ranks_of letters word)) ≡ mirror_bytes letters m word
        bytes_are = mirrored_bytes letters m word st.mirror good.mirror_is

        bytes_length : length (mirror_bytes letters m word) ≡ length word
        bytes_length =
            sym (ap length bytes_are)
            ∙ length-capitals letters _
            ∙ length-mirror (length letters) st.mirror (ranks_of letters word)
            ∙ length-ranks_of letters word
