-- What is claimed of the codes along a sequence. Each theorem stands below its statement in words; docs/CLAIMS.md cites them by name. The contracts
-- of `codes` and `codes_two_bit` are one definition, `FillsCodes`.
use Rattle.std.proofs.Common.{◌≡◌, refl, sym, ap, ◌∙◌, Bool, true, false, cond, List, ◌++◌, map, ◌↔◌, None, ℕ, suc, ◌+◌, ◌-◌, ◌<◌, ◌≤◌, arith, length, get_or, take, drop}
use mathlib.Core.List.{map-append}
use Rattle.laws.specs.Text.{bytes}
use Rattle.settings.specs.Settings.{mirror_of, settings_ground}
use Rattle.settings.proofs.SettingsGrounds.{limits}
use Rattle.encoding.specs.Words.{Mirror}
use Rattle.encoding.specs.Codes.{code}
use Rattle.encoding.specs.Calls.{ranks_of}
use Rattle.encoding.proofs.ClassNumbers.{classes-le}
use Rattle.encoding.proofs.Codes.{code_below}
use Rattle.words.proofs.LetterLoops.{ranks_below, length-ranks_of}
use Rattle.settings.specs.Grounds.{Outcome}
use Rattle.laws.specs.Windows.{windows}
use Rattle.windows.specs.Windows.{window_codes}
use Rattle.sequence.specs.Sequences.{no_code, all_letters, code_or_none, sequence_codes, FillsCodes}
use Rattle.windows.proofs.Windows.{length_codes, window_at, pieces}
use Rattle.settings.specs.Given.{the_settings}

-- ---- which number stands at which place

module _ (letters : List ℕ) (k m : ℕ) (sequence : List ℕ) (some_k : 1 ≤ k) where
  -- There is one number for each start where k bytes fit.
  pub how_many : length (sequence_codes (the_settings letters k m) sequence) ≡ length sequence + 1 - k
  unfolding sequence_codes
  how_many = length_codes k some_k (code_or_none (the_settings letters k m)) sequence

  -- Place j has the number of the k bytes from j.
  pub at_place : (j : ℕ) → j + k ≤ length sequence → get_or (sequence_codes (the_settings letters k m) sequence) j 0 ≡ code_or_none (the_settings letters k m) (take k (drop j sequence))
  unfolding sequence_codes
  at_place j inside = window_at k some_k (code_or_none (the_settings letters k m)) j sequence inside

-- Under good settings 2^64 - 1 is no code: it stands exactly for the words of k bytes of which one is no letter of the settings.
pub no_code_lem : (letters : List ℕ) (k m : ℕ) → settings_ground (the_settings letters k m) ≡ None → (word : List ℕ) → length word ≡ k
    → (code_or_none (the_settings letters k m) word ≡ no_code) ↔ (all_letters letters word ≡ false)
unfolding code_or_none
no_code_lem letters k m good word l = go (all_letters letters word)
  where
    below : code (length letters) (mirror_of m) k (ranks_of letters word) < no_code
    below =
        let L = limits letters k m good in
        let n : length (ranks_of letters word) ≡ k = length-ranks_of letters word ∙ l in
        omega (
          arith,
          code_below (length letters) (mirror_of m) L.two k (ranks_of letters word) n (ranks_below letters word (omega (arith, L.two))),
          classes-le (length letters) (mirror_of m) k L.two,
          L.small,
        )

    go : (t : Bool) → (cond t (code (length letters) (mirror_of m) k (ranks_of letters word)) no_code ≡ no_code) ↔ (t ≡ false)
    go true = (λ e. absurd (omega (arith, below, e)), λ e. absurd (let z : ◌≡◌ {A = ℕ} 0 1 = cc in omega arith))
    go false = (λ e. refl, λ e. refl)

-- ---- pieces

-- A run cut into pieces that overlap by k - 1 letters has the same windows (`pieces`), and so the same codes, one piece after the other.
pub pieces_codes : (s : ℕ) (m : Mirror) (k : ℕ) → 1 ≤ k → (a : ℕ) (run : List ℕ) → a + k ≤ suc (length run)
    → window_codes s m k run ≡ window_codes s m k (take (a + k - 1) run) ++ window_codes s m k (drop a run)
pieces_codes s m k some_k a run h =
    ap (map (code s m k)) (pieces k some_k a run h)
    ∙ map-append (code s m k) (windows k (take (a + k - 1) run)) (windows k (drop a run))

-- ---- the two paths agree

-- A call of the general path with ACGT, k and mirror 1 and one of the two-bit path with k, on the same sequence and the same list: they answer the
-- same number or the same refusal, and leave the same list.
pub paths_agree : (k : ℕ) (sequence old : List ℕ) (general two-bit : Outcome ℕ) (list list' : List ℕ)
    → FillsCodes (the_settings (bytes "ACGT") k 1) sequence old general list
    → FillsCodes (the_settings (bytes "ACGT") k 1) sequence old two-bit list'
    → (general ≡ two-bit) × (list ≡ list')
paths_agree k sequence old general two-bit list list' g t = (g.answers ∙ sym t.answers, g.leaves ∙ sym t.leaves)
