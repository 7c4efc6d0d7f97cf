use Rattle.std.proofs.Common.{◌≡◌, arith}
use Rattle.file_bytes.proofs.Reading.{read_none, read_both}
use Rattle.file_bytes.proofs.Input.numbers.Goals as goal

pub loop-init : goal.loop-init
loop-init c = read_none _ _

pub loop-preserved : goal.loop-preserved
loop-preserved c = read_both _ 1 _ _ _ _ _ _ c.loop.invariant c.in_ok-next.ensures.read.1

pub returns-clause-read : goal.returns-clause-read
returns-clause-read c =
    let n : c.loop.counter ≡ c.args.n = omega arith in
    rw n at c.loop.invariant
