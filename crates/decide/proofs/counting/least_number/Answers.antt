use Rattle.std.proofs.Common.{◌++◌, ap, ◌∙◌}
use Rattle.condition.specs.Cond.{numbers_in}
use Rattle.decide.specs.Marked.{places_left}
use Rattle.decide.specs.Reaching.{cells_among}
use Rattle.decide.proofs.Least.{least_among}
use Rattle.decide.proofs.Places.{place_inside}
use Rattle.decide.proofs.counting.least_number.Goals as goal

pub loop-i-init : goal.loop-i-init
unfolding numbers_in
loop-i-init c = c.least_in_row-best.ensures

pub node-requires : goal.node-requires
node-requires c =
    place_inside c.args.marked.now.marks.now c.args.marked.now.n c.into_iter-i-iterator.result c.loop-i.i-iterator c.next.new.self c.loop-i.yielded c.next.result c.in-Some.i
    (ap places_left c.into_iter-i-iterator.ensures.into_iter_gives ∙ c.places-i-items.ensures) c.loop-i.yielded_by c.in-Some.is c.next.ensures.steps

pub loop-i-preserved : goal.loop-i-preserved
loop-i-preserved c =
    let nodes = c.args.marked.now.nodes.now in
    least_among nodes c.loop-i.yielded c.args.row.now c.in-Some.i c.args.low c.lower_by_node-best.result
    (rw c.node.ensures.read at (c.lower_by_node-best.ensures (numbers_in (cells_among nodes c.loop-i.yielded) ++ c.args.row.now) c.loop-i.invariant))
