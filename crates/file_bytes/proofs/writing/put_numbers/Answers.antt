use Rattle.std.proofs.Common.{arith}
use Rattle.file_bytes.proofs.Inverse.{bytes_none, bytes_more}
use Rattle.file_bytes.proofs.writing.put_numbers.Goals as goal

pub loop-number-init : goal.loop-number-init
loop-number-init c = bytes_none _

pub loop-number-preserved : goal.loop-number-preserved
loop-number-preserved c = bytes_more _ _ _ c.args.numbers.now c.loop-number.number-index (omega arith) c.loop-number.invariant c.in_ok-put.ensures.put
