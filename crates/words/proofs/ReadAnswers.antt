-- What `word_of` answers and leaves at each of its tests; a code's word has k bytes (`word_bytes_length`).
use Rattle.std.proofs.Common.{◌≡◌, ap, ◌∙◌, sym, None, Some, List, ◌++◌, ℕ, ◌<◌, ◌≤◌, arith, length, drop}
use Rattle.settings.specs.Grounds.{Outcome, Overwrites, Ground, ground_at, too_short, refused, outcome, given}
use Rattle.settings.specs.Settings.{settings_ground, settings_of, classes, mirror_of}
use Rattle.settings.proofs.Outcomes.{kept_on, kept_by, set_by}
use Rattle.settings.proofs.SettingsGrounds.{Known, known, limits}
use Rattle.settings.specs.declared.Checked.{Checked}
use Rattle.encoding.specs.Calls.{read_ground, word_bytes, in_capitals}
use Rattle.encoding.specs.WordsOfCodes.{word_of}
use Rattle.words.proofs.CallGrounds.{room_there, read_short, read_no_code, reading_none}
use Rattle.words.proofs.LetterLoops.{read_bytes, length-capitals}
use Rattle.codes.proofs.ReadSteps.{word_length}
use Rattle.settings.specs.Given.{the_settings}

pub word_bytes_length : (letters : List ℕ) (k m q : ℕ) → settings_ground (the_settings letters k m) ≡ None → q < classes (length letters) (mirror_of m) k
    → length (word_bytes (the_settings letters k m) q) ≡ k
unfolding word_bytes
word_bytes_length letters k m q good below = length-capitals letters _ ∙ word_length letters k (mirror_of m) q (limits letters k m good) below

module _ (letters : List ℕ) (k m q : ℕ) (old : List ℕ) where
  -- The contract of `word_of`, for an answer and what is left in the buffer.
  abbrev pub Reads : Outcome ℕ → List ℕ → Type 0
  Reads answer new = Overwrites (read_ground (the_settings letters k m) q (length old)) k (word_bytes (the_settings letters k m) q) old answer new

  pub read_bad_settings : (f : Ground) → refused f ≡ outcome (settings_ground (the_settings letters k m)) (settings_of (the_settings letters k m)) → Reads (refused f) old
  unfolding read_ground
  read_bad_settings f e = kept_on f (settings_of (the_settings letters k m)) (settings_ground (the_settings letters k m)) _ k (word_bytes (the_settings letters k m) q) old e

  module _ (st : Checked) (e : given st ≡ outcome (settings_ground (the_settings letters k m)) (settings_of (the_settings letters k m))) where
    good : Known letters k m st
    good = known letters k m st e

    pub read_into_short : (f : Ground) → Some f ≡ ground_at 7 (too_short (length old) k) → Reads (refused f) old
    read_into_short f h =
        kept_by (read_ground (the_settings letters k m) q (length old)) k (word_bytes (the_settings letters k m) q) old f
        (read_short letters k m good.none_applies_lem q (length old) f h)

    pub read_bad_code : None ≡ ground_at 7 (too_short (length old) k) → st.classes ≤ q → Reads (refused (8, 0)) old
    read_bad_code h g =
        kept_by (read_ground (the_settings letters k m) q (length old)) k (word_bytes (the_settings letters k m) q) old (8, 0)
        (read_no_code letters k m good.none_applies_lem q (length old) h (omega (arith, good.classes_are)))

    pub good_code : q < st.classes → q < classes (length letters) st.mirror k
    good_code g = rw good.mirror_is (omega (arith, good.classes_are))

    pub word_read : None ≡ ground_at 7 (too_short (length old) k) → q < st.classes → (new : List ℕ)
        → new ≡ in_capitals letters (word_of (length letters) st.mirror k q) ++ drop k old → Reads (given k) new
    word_read h g new x =
        set_by (read_ground (the_settings letters k m) q (length old)) k (word_bytes (the_settings letters k m) q) old new
        (reading_none letters k m good.none_applies_lem q (length old) (room_there (length old) k h) below)
        (x ∙ ap (λ (w : List ℕ). w ++ drop k old) bytes_are ∙ ap (λ (n : ℕ). word_bytes (the_settings letters k m) q ++ drop n old) (sym bytes_length))
      where
        below : q < classes (length letters) (mirror_of m) k
        below = rw good.mirror_is at (good_code g)

        bytes_are : in_capitals letters (word_of (length letters) st.mirror k q) ≡ word_bytes (the_settings letters k m) q
        bytes_are = read_bytes letters k m q st.mirror good.mirror_is

        bytes_length : length (word_bytes (the_settings letters k m) q) ≡ k
        bytes_length = word_bytes_length letters k m q good.none_applies_lem below
