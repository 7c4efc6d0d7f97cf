use Rattle.file_bytes.proofs.Reading.{list_read}
use Rattle.file_bytes.proofs.read_list.Goals as goal

pub returns-clause-read : goal.returns-clause-read
returns-clause-read c =
    list_read _ _ _ _ _ _ _ _ c.in_ok-lines.lines c.in_ok-columns.columns c.in_ok-lines.ensures.read c.in_ok-columns.ensures.read c.in_ok-numbers.ensures.read
