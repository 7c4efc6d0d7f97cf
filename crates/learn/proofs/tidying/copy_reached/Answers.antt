use Rattle.std.proofs.Common.{◌≤◌, arith}
use Rattle.condition.specs.Store.{count}
use Rattle.decide.specs.Counting.{counted}
use Rattle.decide.specs.Reaching.{marked}
use Rattle.learn.proofs.Moved.{cleared, copied_few, placed_alone}
use Rattle.learn.proofs.Plain.{cone_behind}
use Rattle.learn.proofs.tidying.copy_reached.Goals as goal

pub copy-requires-clause-behind : goal.copy-requires-clause-behind
copy-requires-clause-behind c = cone_behind c.args.cone.now c.requires.simplified.begun c.requires.simplified.tidy

pub copy-requires-clause-room : goal.copy-requires-clause-room
copy-requires-clause-room c =
    let n = count c.args.nodes.now in let ps = c.args.places.now in let roots = c.args.roots.now in let first = c.mark_places.new.marks in
    let k : counted (count c.args.cone.now) (marked c.close.new.marks) ≤ counted n (marked c.args.marks.now) =
    copied_few c.args.nodes.now n c.args.marks.now c.args.cone.now ps c.requires.simplified roots first c.requires.roots
    (placed_alone n roots c.fill.new.self first ps (cleared c.fill.new.self _ (c.fill.ensures.after (λ y h. h))) c.mark_places.ensures.only) c.close.new.marks c.close.ensures.exact in
    omega (arith, c.requires.room)

pub returns-clause-few : goal.returns-clause-few
returns-clause-few c =
    let n = count c.args.nodes.now in let ps = c.args.places.now in let roots = c.args.roots.now in let first = c.mark_places.new.marks in
    copied_few c.args.nodes.now n c.args.marks.now c.args.cone.now ps c.requires.simplified roots first c.requires.roots
    (placed_alone n roots c.fill.new.self first ps (cleared c.fill.new.self _ (c.fill.ensures.after (λ y h. h))) c.mark_places.ensures.only) c.close.new.marks c.close.ensures.exact
