-- Document 01, "Listing and counter program", and document 02, K5: what the survey line that is read (Grammar) and the one that we print (Line) share.
-- Where a further form of the settings stands is said here, once for both.
use Rattle.std.specs.Prelude.{ℕ, List, [], ◌∷◌, ◌++◌}
use Rattle.laws.specs.Text.{bytes}

-- (letters ACGT), (k 2), (mirror complement), (classes 10): a form's name and its value.
abbrev pub form : (name value : List ℕ) → List ℕ
form name value = bytes "(" ++ (name ++ (bytes " " ++ (value ++ bytes ")")))

-- "They now stand as letters, k, mirror" (document 02, K5): the settings' forms, each with the text of its value.
abbrev pub settings_forms : (letters k mirror : List ℕ) → List (List ℕ)
settings_forms letters k mirror = form (bytes "letters") letters ∷ form (bytes "k") k ∷ form (bytes "mirror") mirror ∷ []

-- "Forms are parted by one space."
abbrev pub parted : (forms : List (List ℕ)) → List ℕ
parted [] = []
parted (f ∷ forms) = bytes " " ++ (f ++ parted forms)

-- A line with these inner forms, up to the bracket that closes it; and closed, without its end.
abbrev pub unclosed : (forms : List (List ℕ)) → List ℕ
unclosed forms = bytes "(survey" ++ parted forms

abbrev pub line_of : (forms : List (List ℕ)) → List ℕ
line_of forms = unclosed forms ++ bytes ")"
