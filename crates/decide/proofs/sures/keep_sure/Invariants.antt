use Rattle.std.proofs.Common.{map, vec_items}
use Rattle.decide.specs.Shapes.{what_of, out_of}
use Rattle.decide.proofs.Keeping.{KeptTo}
use Rattle.decide.proofs.sures.keep_sure.Given as goal

abbrev pub invariant-loop-row : goal.invariant-loop-row
invariant-loop-row l = KeptTo (what_of l.fn.answered) (out_of l.fn.answered) (map vec_items l.rows) l.row-index l.sure
