use Rattle.query.proofs.few_lines.Goals as goal
use Rattle.query.proofs.Bounds as proved

pub returns : goal.returns
returns c = proved.few_lines
