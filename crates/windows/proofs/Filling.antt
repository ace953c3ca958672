-- The codes of all windows as they are written into a lent list. By two-bit numbers: one a turn from the first on. By the kernel for every alphabet: the
-- first before the loop, then one a turn.
use Rattle.std.proofs.Common.{◌≡◌, sym, ◌∙◌, List, ℕ, ◌+◌, ◌-◌, ◌<◌, ◌≤◌, arith, length, set, length-set}
use Rattle.laws.proofs.Buffers.{Written, written_none, written_first, written_next, written_rest, written_length, written_all}
use Rattle.encoding.specs.Words.{Mirror}
use Rattle.encoding.specs.Codes.{code}
use Rattle.windows.specs.Windows.{window_codes}
use Rattle.ranks.specs.Needs.{part}
use Rattle.windows.specs.Needs.{Fills}
use Rattle.laws.proofs.Windows.{windows-none}
use Rattle.windows.proofs.Windows.{length_codes, window_at}

-- ---- one a turn from the first on

module _ (s : ℕ) (m : Mirror) (k : ℕ) (some : 1 ≤ k) (d : List ℕ) where
  n_codes : length (window_codes s m k d) ≡ length d + 1 - k
  n_codes = length_codes k some (code s m k) d

  pub codes_none : (o : List ℕ) → length d + 1 - k ≤ length o → Written (window_codes s m k d) o 0 o
  codes_none o room = written_none (window_codes s m k d) o (omega (arith, n_codes))

  module _ {o out : List ℕ} {j : ℕ} (W : Written (window_codes s m k d) o j out) where
    pub codes_upto : j ≤ length d
    codes_upto = omega (arith, n_codes, W.upto)

    pub codes_room : j + k ≤ length d → j < length out
    codes_room more = omega (arith, n_codes, written_length W, W.room)

    pub codes_next : (x : ℕ) → j + k ≤ length d → x ≡ code s m k (part j k d) → Written (window_codes s m k d) o (j + 1) (set out j x)
    codes_next x more e = written_next W x (omega (arith, n_codes)) (e ∙ sym (window_at k some (code s m k) j d more))

    pub codes_all : length d < j + k → Fills (window_codes s m k d) o out
    codes_all end = record { is = written_all W (omega (arith, n_codes)) }

-- ---- the first before the loop, then one a turn

-- The codes of the windows up to the one at i are written.
pub record Filling (s : ℕ) (m : Mirror) (k : ℕ) (d o out : List ℕ) (i : ℕ) : Type 0 where
  pub some : 1 ≤ k
  pub inside : i + k ≤ length d
  pub written : Written (window_codes s m k d) o (i + 1) out

pub fills_none : (s : ℕ) (m : Mirror) (k : ℕ) (d o : List ℕ) → length d < k → Fills (window_codes s m k d) o o
fills_none s m k d o h = record { is = rw (windows-none k d h) }

module _ {s : ℕ} {m : Mirror} {k : ℕ} {d : List ℕ} (o : List ℕ) (x : ℕ) where
  pub filling_first : 1 ≤ k → k ≤ length d → length d + 1 - k ≤ length o → x ≡ code s m k (part 0 k d) → Filling s m k d (set o 0 x) (set o 0 x) 0
  filling_first some long room e =
      let n = length_codes k some (code s m k) d in
      record {
        some = some;
        inside = omega arith;
        written = written_first o x (omega arith) (omega arith) (e ∙ sym (window_at k some (code s m k) 0 d (omega arith)));
      }

  pub filling_done : {out : List ℕ} {i : ℕ} → Filling s m k d (set o 0 x) out i → length d ≤ i + k → Fills (window_codes s m k d) o out
  filling_done F end =
      let n = length_codes k F.some (code s m k) d in
      record { is = written_all (written_rest o x (omega arith) F.written) (omega (arith, F.inside)) }

  pub filling_length : {out : List ℕ} {i : ℕ} → Filling s m k d (set o 0 x) out i → length out ≡ length o
  filling_length F = written_length F.written ∙ length-set o 0 x

module _ {s : ℕ} {m : Mirror} {k : ℕ} {d o out : List ℕ} {i : ℕ} (F : Filling s m k d o out i) where
  pub filling_next : (x : ℕ) → i + k < length d → x ≡ code s m k (part (i + 1) k d) → Filling s m k d o (set out (i + 1) x) (i + 1)
  filling_next x more e =
      record {
        some = F.some;
        inside = omega arith;
        written = codes_next s m k F.some d F.written x (omega arith) e;
      }

  -- There is room for the next code.
  pub filling_room : i + k < length d → i + 1 < length out
  filling_room more = codes_room s m k F.some d F.written (omega arith)
