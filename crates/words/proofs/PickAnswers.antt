-- What `pick` hands back at each of its tests.
use Rattle.std.proofs.Common.{sym, ◌≡◌, refl, ◌∙◌, Bool, true, false, None, Option, Some, List, [], ℕ, ◌≤◌, ◌<◌, arith, le-leb, Bor, length}
use borrow.Author.Tests.{lt-leb}
use Rattle.settings.specs.Grounds.{given, Ground, refused}
use Rattle.settings.specs.Limits.{Limits}
use Rattle.settings.specs.Settings.{settings_ground}
use Rattle.settings.proofs.Outcomes.{passed, refused_is, first_none, later_none}
use Rattle.settings.proofs.SettingsGrounds.{limits}
use Rattle.words.proofs.CallGrounds.{length_right}
use Rattle.words.specs.Answers.{Picked}
use Rattle.encoding.specs.Calls.{coding, code_ground, pick_ground, ranks_of, first_picked}
use Rattle.words.specs.Needs.{none_applies}
use Rattle.encoding.specs.Words.{plain}
use Rattle.settings.specs.Given.{the_settings}

-- ---- whether a word can be coded

pub coded_none : (letters : List ℕ) (k m : ℕ) (word : List ℕ) (q : ℕ) → given q ≡ coding (the_settings letters k m) word → true ≡ none_applies (code_ground (the_settings letters k m) word)
unfolding coding
coded_none letters k m word q e = rw (passed _ (code_ground (the_settings letters k m) word) e).none_applies_lem

pub refused_coding : (letters : List ℕ) (k m : ℕ) (word : List ℕ) (f : Ground) → refused f ≡ coding (the_settings letters k m) word
    → false ≡ none_applies (code_ground (the_settings letters k m) word)
unfolding coding
refused_coding letters k m word f e = rw (refused_is f _ (code_ground (the_settings letters k m) word) e)

none_is : (g : Option Ground) → true ≡ none_applies g → g ≡ None
none_is None e = refl
none_is (Some f) e = absurd (let z : ◌≡◌ {A = ℕ} 0 1 = cc in omega arith)

some_is : (g : Option Ground) → false ≡ none_applies g → (f : Ground) × (g ≡ Some f)
some_is None e = absurd (let z : ◌≡◌ {A = ℕ} 0 1 = cc in omega arith)
some_is (Some f) e = (f, refl)

-- Whether either of two words is refused: the second shows where the first is not.
module _ (letters : List ℕ) (k m : ℕ) (first second : List ℕ) {x : Bool} where
  pub second_tells : true ≡ none_applies (code_ground (the_settings letters k m) first) → x ≡ none_applies (code_ground (the_settings letters k m) second)
      → x ≡ none_applies (pick_ground (the_settings letters k m) first second)
  unfolding pick_ground
  second_tells e f = f ∙ rw (none_is (code_ground (the_settings letters k m) first) e)

  pub first_tells : false ≡ none_applies (code_ground (the_settings letters k m) first) → x ≡ none_applies (code_ground (the_settings letters k m) first)
      → x ≡ none_applies (pick_ground (the_settings letters k m) first second)
  unfolding pick_ground
  first_tells e f = let (g, is) = some_is (code_ground (the_settings letters k m) first) e in f ∙ rw is

-- A word that can be coded has a plain rank that fits.
within_of : (letters : List ℕ) (k m : ℕ) (w : List ℕ) → code_ground (the_settings letters k m) w ≡ None → Limits (length letters) (length w)
unfolding code_ground
within_of letters k m w n =
    rw (length_right k w (sym (first_none _ _ (later_none (settings_ground (the_settings letters k m)) _ n)))) (limits letters k m (first_none _ _ n))

-- ---- the part that is handed back

module _ (letters : List ℕ) (k m : ℕ) (a b : Bor (List ℕ)) where
  pub neither_picked : (r : Bor (List ℕ)) → false ≡ none_applies (pick_ground (the_settings letters k m) a.now b.now) → r.ref_ptr ≡ a.ref_ptr → r.now ≡ [] → Picked (the_settings letters k m) a b r
  neither_picked r e p n = let (f, is) = some_is (pick_ground (the_settings letters k m) a.now b.now) e in rw is (record { origin = p; holds = n })

  module _ (e : true ≡ none_applies (pick_ground (the_settings letters k m) a.now b.now)) where
    no_ground : pick_ground (the_settings letters k m) a.now b.now ≡ None
    no_ground = none_is (pick_ground (the_settings letters k m) a.now b.now) e

    pub first_within : Limits (length letters) (length a.now)
    unfolding pick_ground
    first_within = within_of letters k m a.now (first_none (code_ground (the_settings letters k m) a.now) (code_ground (the_settings letters k m) b.now) no_ground)

    pub second_within : Limits (length letters) (length b.now)
    unfolding pick_ground
    second_within = within_of letters k m b.now (later_none (code_ground (the_settings letters k m) a.now) (code_ground (the_settings letters k m) b.now) no_ground)

    -- With the plain ranks p and q of the two.
    module _ (p q : ℕ) (f : p ≡ plain (length letters) (ranks_of letters a.now)) (g : q ≡ plain (length letters) (ranks_of letters b.now)) where
      lower : p ≤ q → first_picked letters a.now b.now ≡ true
      unfolding first_picked
      lower h = le-leb (plain (length letters) (ranks_of letters a.now)) (plain (length letters) (ranks_of letters b.now)) (omega arith)

      higher : q < p → first_picked letters a.now b.now ≡ false
      unfolding first_picked
      higher h = lt-leb (plain (length letters) (ranks_of letters a.now)) (plain (length letters) (ranks_of letters b.now)) (omega arith)

      pub first_taken : p ≤ q → Picked (the_settings letters k m) a b a
      first_taken h = rw (no_ground, lower h) (record { origin = refl; holds = refl })

      pub second_taken : q < p → Picked (the_settings letters k m) a b b
      second_taken h = rw (no_ground, higher h) (record { origin = refl; holds = refl })
