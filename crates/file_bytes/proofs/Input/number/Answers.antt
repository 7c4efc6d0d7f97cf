use Rattle.file_bytes.proofs.Reading.{below_rest}
use Rattle.file_bytes.proofs.Input.number.Goals as goal

pub invariant_of-self : goal.invariant_of-self
invariant_of-self c = record { bytes = below_rest 256 4 c.args.self.now.rest.now c.in_ok-four.rest.now c.in_ok-four.ensures.cases.1 c.args.self.now.bytes }
