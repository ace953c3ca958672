-- From ranks to bytes, a place at a time (`write_letters`), and the first byte that is no letter (`foreign_at`); ranks are below the number of letters.
use Rattle.std.proofs.Common.{◌≡◌, refl, sym, ap, ◌∙◌, None, Some, Option, Bool, cond, ltb, List, ◌∷◌, [], ◌++◌, ℕ, ◌<◌, ◌+◌, ◌≤◌, suc, add-one, arith, length, get_or, set, drop}
use Rattle.std.proofs.lemmas.List.{length-map}
use Rattle.std.specs.Option.{is_none}
use Rattle.std.specs.List.{position_from, position_or_len}
use Rattle.std.proofs.lemmas.Iterator.Adapters.{position_from-zero}
use Rattle.laws.proofs.Buffers.{Written, written_none, written_next, written_all}
use Rattle.settings.specs.Settings.{rank_in, mirror_of}
use Rattle.settings.proofs.Ranks.{rank_below_count}
use Rattle.laws.proofs.Lists.{get_d_map_in}
use Rattle.encoding.specs.Calls.{ranks_of, rank_at, foreign_from, here_or, rank_or_zero, in_capitals, word_bytes, mirror_bytes}
use Rattle.encoding.specs.Words.{Ranks, Mirror, mirror}
use Rattle.encoding.specs.WordsOfCodes.{word_of}
use Rattle.settings.specs.Given.{the_settings}

-- ---- ranks in capitals, written to the start of a buffer

pub length-capitals : (letters w : List ℕ) → length (in_capitals letters w) ≡ length w
unfolding in_capitals
length-capitals letters w = length-map w (λ (i : ℕ). get_or letters i 0)

in_capitals-at : (letters w : List ℕ) (i : ℕ) → i < length w → get_or (in_capitals letters w) i 0 ≡ get_or letters (get_or w i 0) 0
unfolding in_capitals
in_capitals-at letters w i h = get_d_map_in (λ (j : ℕ). get_or letters j 0) w i h

module _ (letters w o : List ℕ) where
  pub capitals_none : length w ≤ length o → Written (in_capitals letters w) o 0 o
  capitals_none h = written_none (in_capitals letters w) o (omega (arith, length-capitals letters w))

  pub capitals_next : {i : ℕ} {out : List ℕ} → Written (in_capitals letters w) o i out → i < length w
      → Written (in_capitals letters w) o (i + 1) (set out i (get_or letters (get_or w i 0) 0))
  capitals_next {i} W h = written_next W _ (omega (arith, length-capitals letters w)) (sym (in_capitals-at letters w i h))

  pub capitals_all : {i : ℕ} {out : List ℕ} → Written (in_capitals letters w) o i out → length w ≤ i → out ≡ in_capitals letters w ++ drop (length w) o
  capitals_all W h =
      written_all W (omega (arith, length-capitals letters w)) ∙ ap (λ (n : ℕ). in_capitals letters w ++ drop n o) (length-capitals letters w)

-- ---- the first byte that is no letter

-- It is where `position` finds the first byte without a rank.
here : (o : Option ℕ) (n : ℕ) (later : Option ℕ) → cond (is_none o) (Some n) later ≡ here_or o n later
here None n later = refl
here (Some rank) n later = refl

foreign-position : (letters : List ℕ) (n : ℕ) (word : List ℕ) → position_from (λ b. is_none (rank_in letters b)) n word ≡ foreign_from letters n word
unfolding foreign_from
foreign-position letters n [] = refl
foreign-position letters n (b ∷ word) =
    here (rank_in letters b) n _ ∙ rw add-one (ap (here_or (rank_in letters b) n) (foreign-position letters (suc n) word))

pub foreign_found : (letters word : List ℕ) → let test : ℕ → Bool = λ b. is_none (rank_in letters b) in
    cond (ltb (position_or_len test word) (length word)) (Some (position_or_len test word)) None ≡ foreign_from letters 0 word
foreign_found letters word = position_from-zero (λ b. is_none (rank_in letters b)) word ∙ foreign-position letters 0 word

-- ---- ranks are below s

-- What stands for a byte is below s where its rank, if it has one, is.
pub or_zero_below : {s : ℕ} (o : Option ℕ) → 0 < s → ((x : ℕ) → o ≡ Some x → x < s) → rank_or_zero o < s
or_zero_below None h f = h
or_zero_below (Some x) h f = f x refl

rank_lt : (letters : List ℕ) (b : ℕ) → 0 < length letters → rank_at letters b < length letters
rank_lt letters b h = or_zero_below (rank_in letters b) h (λ x e. rank_below_count letters b x (sym e))

pub ranks_below : (letters word : List ℕ) → 0 < length letters → Ranks (length letters) (ranks_of letters word)
unfolding ranks_of
ranks_below letters [] h = tt
ranks_below letters (b ∷ word) h = (rank_lt letters b h, ranks_below letters word h)

pub length-ranks_of : (letters word : List ℕ) → length (ranks_of letters word) ≡ length word
unfolding ranks_of
length-ranks_of letters word = length-map word (rank_at letters)

-- ---- the bytes that the calls write

pub read_bytes : (letters : List ℕ) (k m q : ℕ) (strand : Mirror) → strand ≡ mirror_of m
    → in_capitals letters (word_of (length letters) strand k q) ≡ word_bytes (the_settings letters k m) q
unfolding word_bytes
read_bytes letters k m q strand e = rw e

pub mirrored_bytes : (letters : List ℕ) (m : ℕ) (word : List ℕ) (strand : Mirror) → strand ≡ mirror_of m
    → in_capitals letters (mirror (length letters) strand (ranks_of letters word)) ≡ mirror_bytes letters m word
unfolding mirror_bytes
mirrored_bytes letters m word strand e = rw e
