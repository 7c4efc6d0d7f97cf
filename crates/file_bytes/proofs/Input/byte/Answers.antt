use Rattle.file_bytes.proofs.Reading.{below_behind}
use Rattle.file_bytes.proofs.Input.byte.Goals as goal

pub invariant_of-self : goal.invariant_of-self
invariant_of-self c =
    record { bytes = below_behind 256 c.args.self.now.rest.now c.in_ok-first.behind.now c.in_ok-first.first.now c.in_ok-first.ensures.cases.0 c.args.self.now.bytes }
