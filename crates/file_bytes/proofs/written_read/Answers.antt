use Rattle.file_bytes.proofs.Inverse.{bytes_read}
use Rattle.file_bytes.proofs.written_read.Goals as goal

pub returns : goal.returns
returns c = bytes_read
