use Rattle.std.proofs.Common.{refl, arith, rules}
use Rattle.answer.proofs.Splitting.{some_left, lies}
use Rattle.answer.proofs.side.Side.below.Goals as goal

pub offset_bounds-self-k : goal.offset_bounds-self-k
offset_bounds-self-k c = let l = lies c.requires in search rules

pub slice_bounds-result-count : goal.slice_bounds-result-count
slice_bounds-result-count c = let l = lies c.requires in omega arith

pub slice_bounds-result-start : goal.slice_bounds-result-start
slice_bounds-result-start c = let l = lies c.requires in search rules

pub overflow_sub-result : goal.overflow_sub-result
overflow_sub-result c = let h = some_left c.args.self.now in omega arith

pub returns-clause-under : goal.returns-clause-under
returns-clause-under c = let h = some_left c.args.self.now in record { asked = refl; fewer = omega arith; base = refl }
