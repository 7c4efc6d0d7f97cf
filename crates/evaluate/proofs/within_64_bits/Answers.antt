use Rattle.evaluate.proofs.within_64_bits.Goals as goal
use Rattle.evaluate.proofs.Bounded as proved

pub returns : goal.returns
returns c = proved.within_64_bits
