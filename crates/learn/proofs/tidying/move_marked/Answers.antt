use Rattle.std.proofs.Common.{arith}
use Rattle.condition.specs.Store.{count}
use Rattle.decide.specs.Reaching.{marked}
use Rattle.learn.proofs.Tidied.{counted_most, cone_small, tidied_all}
use Rattle.learn.proofs.tidying.move_marked.Goals as goal

pub copy_reached-requires-clause-small : goal.copy_reached-requires-clause-small
copy_reached-requires-clause-small c =
    let n = count c.args.nodes.now in let ms = c.args.marks.now in
    (c.requires.small, cone_small c.args.nodes.now _ (count c.simplify.new.cone) (counted_most n (marked ms)) c.requires.room c.simplify.ensures.few)

pub returns : goal.returns
returns c =
    tidied_all c.args.nodes.now c.args.roots.now c.args.marks.now c.requires.reached c.requires.small c.requires.room c.simplify.new.cone c.simplify.new.places
    c.copy_reached.new.nodes c.copy_reached.new.copies c.copy_reached.new.marks c.simplify.ensures c.copy_reached.ensures.copies c.copy_reached.ensures.roots
    c.copy_reached.ensures.few (omega (arith, c.requires.places)) (omega (arith, c.requires.copies, c.simplify.ensures.few))
