use Rattle.std.proofs.Common.{arith}
use Rattle.decide_file.proofs.Scanning.{scan_skip}
use Rattle.decide_file.proofs.text.Text.skip_blanks.Goals as goal

pub loop-self-preserved : goal.loop-self-preserved
loop-self-preserved c = grind (arith, scan_skip)
