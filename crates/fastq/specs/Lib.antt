-- What a reader must believe of FASTQ: the grounds for refusing a file, record by record (Fastq).
pub mod Fastq
