use Rattle.std.proofs.Common.{ap, ◌∙◌}
use Rattle.decide.specs.Marked.{places_left}
use Rattle.decide.specs.Reaching.{own_cells, cells_among}
use Rattle.decide.proofs.Noted.{notes_then}
use Rattle.decide.proofs.Passing.{among_last}
use Rattle.decide.proofs.Places.{place_inside}
use Rattle.decide.proofs.noting.Notes.note_marked.Goals as goal

pub node-requires : goal.node-requires
node-requires c =
    place_inside c.args.marked.now.marks.now c.args.marked.now.n c.into_iter-i-iterator.result c.loop-i.i-iterator c.next.new.self c.loop-i.yielded c.next.result c.in-Some.i
    (ap places_left c.into_iter-i-iterator.ensures.into_iter_gives ∙ c.places-i-items.ensures) c.loop-i.yielded_by c.in-Some.is c.next.ensures.steps

pub loop-i-preserved : goal.loop-i-preserved
loop-i-preserved c =
    let nodes = c.args.marked.now.nodes.now in
    rw (among_last nodes c.loop-i.yielded c.in-Some.i, ← c.node.ensures.read)
    (notes_then (cells_among nodes c.loop-i.yielded) (own_cells c.node.result) c.args.self.now c.loop-i.self c.note_node.new.self c.loop-i.invariant c.note_node.ensures)
