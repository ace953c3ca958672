-- How the answers of the word calls are read, the contracts of reading a code and mirroring, and what the pick hands back: document 01,
-- "Word of a code, and the canonical pick".
use Rattle.std.specs.Prelude.{ℕ, ◌≡◌, Bool, true, false, List, [], length, Option, None, Some, Result, Ok, Err}
use Rattle.std.specs.Borrow.{Bor}
use Rattle.settings.specs.Grounds.{Ground, Outcome, given, refused, ground_of, Overwrites}
use Rattle.settings.specs.declared.Refusal.{Refusal}
use Rattle.ranks.specs.declared.Code.{Code}
use Rattle.encoding.specs.Calls.{read_ground, mirror_ground, word_bytes, mirror_bytes, pick_ground, first_picked}
use Rattle.settings.specs.Given.{Given}

-- The answer of coding as document 01's value: the code, or the refusal's number and P.
abbrev pub of_coding : Result Code Refusal → Outcome ℕ
of_coding (Ok q) = given q.0
of_coding (Err f) = refused (ground_of f)

-- The contract of reading a code: "A code below the number of classes gives its canonical word, in capitals, in the first k bytes of the lent buffer."
abbrev pub WritesWord : (settings : Given) (q : ℕ) (old : List ℕ) (answer : Outcome ℕ) (new : List ℕ) → Type 0
WritesWord settings q old answer new = Overwrites (read_ground settings q (length old)) settings.k (word_bytes settings q) old answer new

-- The contract of mirroring: "Mirroring writes a word's mirror in capitals to the first k bytes of a lent buffer."
abbrev pub WritesMirror : (settings : Given) (word old : List ℕ) (answer : Outcome ℕ) (new : List ℕ) → Type 0
WritesMirror settings word old answer new = Overwrites (mirror_ground settings word (length old)) settings.k (mirror_bytes settings.letters settings.mirror word) old answer new

-- A part of a lent slice: it starts where the slice starts, and holds these bytes.
pub record PartOf (slice : Bor (List ℕ)) (bytes : List ℕ) (r : Bor (List ℕ)) : Type 0 where
  pub origin : r.ref_ptr ≡ slice.ref_ptr
  pub holds : r.now ≡ bytes

-- What the pick hands back: "A refused pick hands back an empty part of the first"; else "the one with the lower plain rank; the first if they are equal".
abbrev pub HandsBack : Option Ground → (first_lower : Bool) (first second r : Bor (List ℕ)) → Type 0
HandsBack (Some g) first_lower first second r = PartOf first [] r
HandsBack None true first second r = PartOf first first.now r
HandsBack None false first second r = PartOf second second.now r

-- The contract of the pick.
abbrev pub Picked : (settings : Given) (first second r : Bor (List ℕ)) → Type 0
Picked settings first second r =
    HandsBack (pick_ground settings first.now second.now) (first_picked settings.letters first.now second.now) first second r
