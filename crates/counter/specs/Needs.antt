-- What the functions of the program ask of each other and promise each other; the texts that are printed are defined in the crate program.
use Rattle.std.specs.Prelude.{List, ℕ, take, Result, Ok, Err}
use Rattle.program.specs.Program.{unread_line, program_text}
use Rattle.counter.specs.declared.Unread.{Unread}

-- How many bytes of standard input were read.
abbrev pub bytes_read : Result ℕ Unread → ℕ
bytes_read (Ok n) = n
bytes_read (Err u) = u.0

-- What is printed for what was read into a buffer.
abbrev pub text_for : Result ℕ Unread → (buffer : List ℕ) → List ℕ
text_for (Ok n) buffer = program_text (take n buffer)
text_for (Err u) buffer = unread_line u.0
