use Rattle.std.proofs.Common.{arith}
use Rattle.decide_file.proofs.Scanning.{scan_first, scan_more, scan_stop}
use Rattle.decide_file.proofs.text.Text.number.Goals as goal

pub loop-digit-init : goal.loop-digit-init
loop-digit-init c = grind (arith, scan_first)

pub loop-digit-preserved : goal.loop-digit-preserved
loop-digit-preserved c = grind (arith, scan_more)

pub returns : goal.returns
returns c = grind (arith, scan_stop)
