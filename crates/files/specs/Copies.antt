-- Document 02, K2: "a file and its copy with T for U": of the same kind, and with T for some or all of the U among its bytes, wherever they stand.
use Rattle.std.specs.Prelude.{◌≡◌}
use Rattle.settings.specs.Copies.{CopyWithT}
use Rattle.files.specs.File.{File}

pub record FileCopy (file copy : File) : Type 0 where
  pub kind : copy.kind ≡ file.kind
  pub bytes : CopyWithT file.bytes copy.bytes
