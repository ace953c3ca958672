-- How the C calls name a file's kind and tell a file's five numbers: document 01, "Sequence file (FASTA)", and document 02, K1.
use Rattle.std.specs.Prelude.{cond, List, [], ◌∷◌, ℕ, eqb}
use Rattle.fasta.specs.declared.Numbers.{Numbers}
use Rattle.files.specs.declared.Kind.{Kind}
use Rattle.files.specs.declared.Kind.TheVariants.{Fasta, Fastq}

-- "A caller names the kind of file": 0 is FASTA, any other number FASTQ.
unfoldable pub kind_of_number : ℕ → Kind
kind_of_number n = cond (eqb n 0) Fasta Fastq

-- "its records (header lines), letters (foreign ones too), foreign, and edge and windows over all runs"
abbrev pub five_numbers : Numbers → List ℕ
five_numbers n = n.records ∷ n.letters ∷ n.foreign ∷ n.edge ∷ n.windows ∷ []
