use Rattle.std.proofs.Common.{true, false}
use Rattle.decide.proofs.lanes.might_meet.Goals as goal

pub returns : goal.returns
returns c l h true = (rw (c.table.ensures.rows, c.table.ensures.depth, c.deref.ensures.0) at (c.come_to-might.ensures true)) l h true
returns c l h false = (rw (c.table.ensures.rows, c.table.ensures.depth, c.deref.ensures.0) at (c.come_to-might.ensures false)) l h true
