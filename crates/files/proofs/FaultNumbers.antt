-- What is known of the first fault of a file of either kind: a property of every ground by which its kind can be refused, with a P of at most the file's
-- length, is one of that fault (`fault_has`). So the numbers of the refusals that a file and a scan give are known, by kind. "Refusal 3 then never occurs"
-- (document 02, K10). From the same of each kind.
use Rattle.std.proofs.Common.{◌≡◌, refl, true, false, List, [], ◌∷◌, ℕ, ◌≤◌, arith, length}
use Rattle.settings.specs.Grounds.{Ground, ground, ◌or_else◌}
use Rattle.settings.specs.Settings.{is_in, settings_ground, RefusedOnlyBy}
use Rattle.settings.proofs.FirstGround.{Has, NumberIn, in_behind, test_has, then_has, settings_has}
use Rattle.fasta.specs.declared.Mode.TheVariants.{Start}
use Rattle.fasta.specs.File.{items_from}
use Rattle.fasta.proofs.Runs.{items-length}
use Rattle.fasta.proofs.Faults as fasta
use Rattle.fastq.proofs.Faults.{fastq_has}
use Rattle.files.specs.declared.Kind.{Kind}
use Rattle.files.specs.declared.Kind.TheVariants.{Fasta, Fastq}
use Rattle.files.specs.File.{File, fault_of, file_fault}
use Rattle.settings.specs.Limits.{too_long}
use Rattle.files.specs.Scan.{scan_ground}
use Rattle.settings.specs.Given.{the_settings}

-- The numbers of the faults of a kind of file: 11 does not occur in FASTQ, nor 15 to 17 in FASTA.
abbrev pub fault_numbers : Kind → List ℕ
fault_numbers Fasta = 10 ∷ 11 ∷ []
fault_numbers Fastq = 10 ∷ 15 ∷ 16 ∷ 17 ∷ []

of_kind : (Q : Ground → Type 0) (n : ℕ) (kind : Kind) (bytes : List ℕ) → ((i p : ℕ) → is_in i (fault_numbers kind) ≡ true → p ≤ n → Q (i, p))
    → length bytes ≤ n → Has Q (fault_of kind bytes)
unfolding is_in
of_kind Q n Fasta bytes q h =
    fasta.fault_has Q n (λ p l. q 10 p refl (omega arith)) (λ p l. q 11 p refl (omega arith)) false 0 (items_from Start bytes)
    (omega (arith, items-length Start bytes))
of_kind Q n Fastq bytes q h =
    fastq_has Q n (λ p l. q 15 p refl l) (λ p l. q 10 p refl (omega arith)) (λ p l. q 16 p refl l) (λ p l. q 17 p refl (omega arith)) bytes h

pub fault_has : (Q : Ground → Type 0) (n : ℕ) (file : File) → ((i p : ℕ) → is_in i (fault_numbers file.kind) ≡ true → p ≤ n → Q (i, p))
    → length file.bytes ≤ n → Has Q (file_fault file)
fault_has Q n file q h = of_kind Q n file.kind file.bytes q h

-- A file is refused by the numbers of its kind.
pub fault_numbers_lem : (file : File) → RefusedOnlyBy (fault_numbers file.kind) (file_fault file)
fault_numbers_lem file = fault_has (NumberIn (fault_numbers file.kind)) (length file.bytes) file (λ i p e h. e) (omega arith)

-- A scan is refused by these, 1, 2, 4 or 6.
abbrev pub scan_numbers : Kind → List ℕ
scan_numbers kind = 1 ∷ 2 ∷ 4 ∷ 6 ∷ fault_numbers kind

pub scan_numbers_lem : (letters : List ℕ) (k m : ℕ) (file : File) → RefusedOnlyBy (scan_numbers file.kind) (scan_ground (the_settings letters k m) file)
unfolding is_in scan_ground
scan_numbers_lem letters k m file =
    let Q = NumberIn (scan_numbers file.kind) in
    then_has Q (settings_ground (the_settings letters k m)) (ground 6 (too_long file.bytes) or_else file_fault file) (settings_has Q letters k m refl refl refl)
    (λ _. then_has Q (ground 6 (too_long file.bytes)) (file_fault file) (test_has Q 6 (too_long file.bytes) refl)
    (λ _ f e. in_behind f.0 (1 ∷ 2 ∷ 4 ∷ 6 ∷ []) (fault_numbers file.kind) (fault_numbers_lem file f e)))
