use Rattle.file_bytes.proofs.Inverse.{bytes_written}
use Rattle.file_bytes.proofs.read_written.Goals as goal

pub returns : goal.returns
returns c = bytes_written
