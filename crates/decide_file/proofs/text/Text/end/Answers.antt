use Rattle.std.proofs.Common.{arith}
use Rattle.decide_file.proofs.Scanning.{scan_none}
use Rattle.decide_file.proofs.text.Text.end.Goals as goal

pub returns : goal.returns
returns c = grind (arith, scan_none)
