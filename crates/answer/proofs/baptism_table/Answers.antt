use Rattle.answer.proofs.baptism_table.Goals as goal
use Rattle.answer.proofs.Baptisms as proved

pub returns : goal.returns
returns c = proved.table_stands
