-- The starred cases of document 01, all of them, and the cases of document 02, K10 and K2, with more of their kind, as one check of the definitions by computing;
-- the order of the word calls' grounds; the pick.
use Rattle.std.proofs.Common.{◌≡◌, refl, true, false, Some, List, [], ◌∷◌, map, ℕ, zero, suc, arith, rules}
use Prim.Native.String.{String}
use Rattle.laws.specs.Text.{bytes}
use Rattle.settings.specs.Grounds.{Outcome, given, refused}
use Rattle.settings.specs.Settings.{is_capital, is_in, different_capitals, good_letters, capital_of, reads_u_as_t, read_as, place_from, is_odd, half_up, classes, bad_size, settings_ground}
use Rattle.encoding.specs.Words.{Complement, mirror_rank, mirror, plain, canonical}
use Rattle.encoding.specs.Codes.{pair_rank, digits, differing_pair, shift, odd_shift, code_of_canonical, code}
use Rattle.encoding.specs.Exact.{ExactRank, ExactShift, ExactPairs, NothingCutOff}
use Rattle.encoding.specs.WordsOfCodes.{word_of_plain, pair_of_rank, middle_of_code, word_of}
use Rattle.encoding.specs.Calls.{ranks_of, in_capitals, foreign_from, code_ground, read_ground, mirror_ground, coding, reading, word_bytes, mirror_bytes, first_picked}
use Rattle.encoding.proofs.Exact.{nothing_cut_off}
use Rattle.settings.specs.Given.{the_settings}

-- 0, 1, .. and so on, n numbers from i.
abbrev numbers : ℕ → ℕ → List ℕ
numbers i zero = []
numbers i (suc n) = i ∷ numbers (suc i) n

-- What coding a word answers, and what reading a code writes.
abbrev code_of : String → ℕ → ℕ → String → Outcome ℕ
code_of letters k mirror word = coding (the_settings (bytes letters) k mirror) (bytes word)

abbrev codes_of : String → ℕ → ℕ → List String → List (Outcome ℕ)
codes_of letters k mirror words = map (code_of letters k mirror) words

abbrev words_of : String → ℕ → ℕ → ℕ → List (List ℕ)
words_of letters k mirror n = map (word_bytes (the_settings (bytes letters) k mirror)) (numbers 0 n)

-- Each code from 0 up is given to just one of these words.
abbrev InOrder : String → ℕ → ℕ → ℕ → List String → Type 0
InOrder letters k mirror n words = (words_of letters k mirror n ≡ map bytes words) × (codes_of letters k mirror words ≡ map given (numbers 0 n))

pub starred_cases : record {
  -- ACGT, reversal, k 6: AAAACA 160, TTGTTT 159.
  reversal_6 : codes_of "ACGT" 6 0 ("AAAACA" ∷ "TTGTTT" ∷ []) ≡ (given 160 ∷ given 159 ∷ []);
  -- ACGT, complement: k 5 AACTT 0; k 8 TACGGCTA and TAGCCGTA 1571.
  complement_5 : code_of "ACGT" 5 1 "AACTT" ≡ given 0;
  complement_8 : codes_of "ACGT" 8 1 ("TACGGCTA" ∷ "TAGCCGTA" ∷ []) ≡ (given 1571 ∷ given 1571 ∷ []);
  -- ACGT, complement, k 1: C and G 0, A and T 1.
  complement_1 : codes_of "ACGT" 1 1 ("C" ∷ "G" ∷ "A" ∷ "T" ∷ []) ≡ (given 0 ∷ given 0 ∷ given 1 ∷ given 1 ∷ []);
  -- ACGT, complement, k 2, codes 0 to 9: AT CG GC TA AG AC AA CC CA GA.
  complement_2 : InOrder "ACGT" 2 1 10 ("AT" ∷ "CG" ∷ "GC" ∷ "TA" ∷ "AG" ∷ "AC" ∷ "AA" ∷ "CC" ∷ "CA" ∷ "GA" ∷ []);
  -- AB, reversal, k 3, codes 0 to 5: AAA BAB ABA BBB AAB ABB.
  reversal_3 : InOrder "AB" 3 0 6 ("AAA" ∷ "BAB" ∷ "ABA" ∷ "BBB" ∷ "AAB" ∷ "ABB" ∷ []);
  -- ABC, reversal, k 2, codes 0 to 5: AA BB CC AB AC BC.
  reversal_2 : InOrder "ABC" 2 0 6 ("AA" ∷ "BB" ∷ "CC" ∷ "AB" ∷ "AC" ∷ "BC" ∷ []);
  -- ACGT, complement, k 31: code 2,305,843,009,213,693,951 is G, 29 T, A; the next is refused 8.
  complement_31 : word_bytes (the_settings (bytes "ACGT") 31 1) 2305843009213693951 ≡ bytes "GTTTTTTTTTTTTTTTTTTTTTTTTTTTTTA";
  complement_31_code : code_of "ACGT" 31 1 "GTTTTTTTTTTTTTTTTTTTTTTTTTTTTTA" ≡ given 2305843009213693951;
  complement_31_read : reading (the_settings (bytes "ACGT") 31 1) 2305843009213693951 31 ≡ given 31;
  complement_31_next : reading (the_settings (bytes "ACGT") 31 1) 2305843009213693952 31 ≡ refused (8, 0);
  -- Document 02, K10: "ABC, k 1: B 0, A and C 1".
  odd_1 : codes_of "ABC" 1 1 ("B" ∷ "A" ∷ "C" ∷ []) ≡ (given 0 ∷ given 1 ∷ given 1 ∷ []);
  -- ABC, complement, k 3: 15 codes, each read and coded back, the three palindromes first; the next is refused 8.
  odd_3 :
      InOrder "ABC" 3 1 15
      ("ABC" ∷ "BBB" ∷ "CBA" ∷ "AAC" ∷ "BAB" ∷ "CAA" ∷ "AAB" ∷ "ABB" ∷ "ACB" ∷ "AAA" ∷ "ABA" ∷ "ACA" ∷ "BAA" ∷ "BBA" ∷ "BCA" ∷ []);
  odd_3_next : reading (the_settings (bytes "ABC") 3 1) 15 3 ≡ refused (8, 0);
  -- ABC, complement, k 39, the largest: code 2,026,277,577,090,618,866 is B, 37 C, A; the next is refused 8, and k 40 is refused 4.
  odd_39 : word_bytes (the_settings (bytes "ABC") 39 1) 2026277577090618866 ≡ bytes "BCCCCCCCCCCCCCCCCCCCCCCCCCCCCCCCCCCCCCA";
  odd_39_code : code_of "ABC" 39 1 "BCCCCCCCCCCCCCCCCCCCCCCCCCCCCCCCCCCCCCA" ≡ given 2026277577090618866;
  odd_39_next : reading (the_settings (bytes "ABC") 39 1) 2026277577090618867 39 ≡ refused (8, 0);
  odd_40 : reading (the_settings (bytes "ABC") 40 1) 0 40 ≡ refused (4, 0);
  -- Document 02, K2: "ACGT, complement, k 2, UA has code 3", as TA has; "U and u have T's rank"; "Words that we write keep T".
  read_as_T : codes_of "ACGT" 2 1 ("UA" ∷ "uA" ∷ "TA" ∷ []) ≡ (given 3 ∷ given 3 ∷ given 3 ∷ []);
  written_with_T : mirror_bytes (bytes "ACGT") 1 (bytes "AUu") ≡ bytes "AAT";
  -- Letters with T and U, where each has its own rank; with U and no T, where T has none; with neither, where both have none.
  T_and_U : codes_of "TU" 1 0 ("T" ∷ "U" ∷ "u" ∷ []) ≡ (given 0 ∷ given 1 ∷ given 1 ∷ []);
  only_U : codes_of "ACGU" 1 0 ("u" ∷ "T" ∷ []) ≡ (given 3 ∷ refused (9, 0) ∷ []);
  neither : codes_of "AB" 2 0 ("AU" ∷ "BT" ∷ []) ≡ (refused (9, 1) ∷ refused (9, 1) ∷ []);
}
unfolding is_capital is_in different_capitals good_letters capital_of reads_u_as_t read_as place_from is_odd half_up classes bad_size settings_ground
    mirror_rank mirror plain canonical pair_rank digits differing_pair shift odd_shift code_of_canonical code
    word_of_plain pair_of_rank middle_of_code word_of ranks_of in_capitals foreign_from code_ground read_ground coding word_bytes mirror_bytes
starred_cases = record {
  reversal_6 = refl;
  complement_5 = refl;
  complement_8 = refl;
  complement_1 = refl;
  complement_2 = (refl, refl);
  reversal_3 = (refl, refl);
  reversal_2 = (refl, refl);
  complement_31 = refl;
  complement_31_code = refl;
  complement_31_read = refl;
  complement_31_next = refl;
  odd_1 = refl;
  odd_3 = (refl, refl);
  odd_3_next = refl;
  odd_39 = refl;
  odd_39_code = refl;
  odd_39_next = refl;
  odd_40 = refl;
  read_as_T = refl;
  written_with_T = refl;
  T_and_U = refl;
  only_U = refl;
  neither = refl;
}

-- "Checks go in number order": where two grounds apply to coding, reading or mirroring, the one with the lower number is given; and of two bytes that are no
-- letters the place of the first.
pub number_order : record {
  coded_5_9 : code_of "ACGT" 2 1 "N" ≡ refused (5, 0);
  read_7_8 : reading (the_settings (bytes "ACGT") 2 1) 10 1 ≡ refused (7, 2);
  mirrored_5_7 : mirror_ground (the_settings (bytes "ACGT") 2 1) (bytes "A") 1 ≡ Some (5, 0);
  mirrored_7_9 : mirror_ground (the_settings (bytes "ACGT") 2 1) (bytes "AN") 1 ≡ Some (7, 2);
  first_place : code_of "ACGT" 4 1 "ANAN" ≡ refused (9, 1);
}
unfolding is_capital is_in different_capitals good_letters capital_of reads_u_as_t read_as place_from is_odd half_up classes bad_size settings_ground foreign_from code_ground read_ground
    mirror_ground coding
number_order = record {
  coded_5_9 = refl;
  read_7_8 = refl;
  mirrored_5_7 = refl;
  mirrored_7_9 = refl;
  first_place = refl;
}

-- "the one with the lower plain rank; the first if they are equal": AC is the lower of AC and AG, and ac has AC's ranks.
pub picks : (first_picked (bytes "ACGT") (bytes "AC") (bytes "AG") ≡ true)
    × (first_picked (bytes "ACGT") (bytes "AG") (bytes "AC") ≡ false)
    × (first_picked (bytes "ACGT") (bytes "AC") (bytes "ac") ≡ true)
unfolding first_picked plain ranks_of capital_of reads_u_as_t read_as place_from is_in
picks = (refl, refl, refl)

-- The parts of a code, of TACGGCTA above, code 1571: it is its own canonical word, and its third pair is the first that differs, with l = 1 and r = 2. So R is
-- 1 · 4/2 + 2 − 1, the digits are worth 1955, and the shift is (4^5 − 4^4)/2 = 384. What specs/Exact.antt says of subtractions and halves, it says of these.
abbrev word : List ℕ
word = 3 ∷ 0 ∷ 1 ∷ 2 ∷ 2 ∷ 1 ∷ 3 ∷ 0 ∷ []

word_exact : NothingCutOff 4 Complement 8 word
word_exact =
    nothing_cut_off 4 Complement 8 (record { two = omega arith; few = omega arith; small = omega arith }) word
    (record { letters = refl; ranks = search rules })

pub parts_of_a_code : record {
  own_canonical : canonical 4 Complement word ≡ word;
  in_digits : digits 4 Complement 8 word ≡ (0 ∷ 0 ∷ 1 ∷ 3 ∷ 2 ∷ 2 ∷ 0 ∷ 3 ∷ []);
  worth : plain 4 (digits 4 Complement 8 word) ≡ 1955;
  pair : differing_pair 4 Complement 8 word ≡ 3;
  rank : pair_rank 4 1 2 ≡ 3;
  exact_rank : ExactRank 4 1 2;
  shifted : shift 4 8 3 ≡ 384;
  exact_shift : ExactShift 4 8 3;
}
unfolding mirror_rank mirror plain canonical pair_rank digits differing_pair shift half_up ExactPairs
parts_of_a_code = record {
  own_canonical = refl;
  in_digits = refl;
  worth = refl;
  pair = refl;
  rank = refl;
  exact_rank = (((word_exact.pairs.0 refl).0 refl).1 (λ e. omega arith)).1;
  shifted = refl;
  exact_shift = word_exact.shifted 2 refl;
}
