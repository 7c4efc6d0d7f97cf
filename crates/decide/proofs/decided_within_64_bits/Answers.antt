use Rattle.decide.proofs.decided_within_64_bits.Goals as goal
use Rattle.decide.proofs.Shown as proved

pub returns : goal.returns
returns c = proved.decided_within_64_bits
