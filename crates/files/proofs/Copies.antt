-- Copies with T for U (document 02, K2) of files of both kinds: a file and its copy have the same first fault (`same_file_fault`) and, where the settings have
-- T and no U, the same windows and numbers (`same_file_windows`, `same_file_numbers`); so a scan of either gives the same answer (`same_scan`).
use Rattle.std.proofs.Common.{◌≡◌, sym, ap, ◌∙◌, false, true, List, ℕ}
use Rattle.settings.specs.Grounds.{outcome}
use Rattle.settings.specs.Settings.{reads_u_as_t, rank_in}
use Rattle.settings.specs.Copies.{CopyWithT}
use Rattle.settings.proofs.Copies.{same_rank, same_length}
use Rattle.fasta.specs.declared.Mode.TheVariants.{Start}
use Rattle.fasta.proofs.Copies.{same_fault, same_windows, same_numbers}
use Rattle.fastq.proofs.Copies.{same_fastq_fault}
use Rattle.files.specs.declared.Kind.{Kind}
use Rattle.files.specs.declared.Kind.TheVariants.{Fasta, Fastq}
use Rattle.files.specs.File.{File, start_of, fault_of, file_fault, file_windows, file_numbers}
use Rattle.settings.specs.Limits.{too_long}
use Rattle.files.specs.Scan.{scan_ground}
use Rattle.files.specs.Copies.{FileCopy}
use Rattle.settings.specs.Given.{the_settings}

fault_of_kind : (kind : Kind) {bytes copy : List ℕ} → CopyWithT bytes copy → fault_of kind bytes ≡ fault_of kind copy
fault_of_kind Fasta = same_fault Start false 0
fault_of_kind Fastq = same_fastq_fault

module _ {file copy : File} (C : FileCopy file copy) where
  pub same_file_fault : file_fault file ≡ file_fault copy
  same_file_fault = fault_of_kind file.kind C.bytes ∙ ap (λ (kind : Kind). fault_of kind copy.bytes) (sym C.kind)

  module _ (letters : List ℕ) (reads : reads_u_as_t letters ≡ true) (k : ℕ) where
    pub same_file_windows : file_windows (rank_in letters) k file ≡ file_windows (rank_in letters) k copy
    same_file_windows = rw C.kind (same_windows (rank_in letters) (same_rank letters reads) k (start_of file.kind) C.bytes)

    pub same_file_numbers : file_numbers (rank_in letters) k file ≡ file_numbers (rank_in letters) k copy
    same_file_numbers = rw C.kind (same_numbers (rank_in letters) (same_rank letters reads) k (start_of file.kind) C.bytes)

    pub same_scan : (mirror : ℕ)
        → outcome (scan_ground (the_settings letters k mirror) file) (file_numbers (rank_in letters) k file)
        ≡ outcome (scan_ground (the_settings letters k mirror) copy) (file_numbers (rank_in letters) k copy)
    unfolding scan_ground too_long
    same_scan mirror = rw (same_length C.bytes, same_file_fault, same_file_numbers)
