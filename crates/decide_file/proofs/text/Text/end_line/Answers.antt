use Rattle.std.proofs.Common.{arith}
use Rattle.decide_file.proofs.Scanning.{scan_skip}
use Rattle.decide_file.proofs.text.Text.end_line.Goals as goal

pub returns-in-10-clause-numbers : goal.returns-in-10-clause-numbers
returns-in-10-clause-numbers c = grind (arith, scan_skip)
