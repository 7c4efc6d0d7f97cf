use Rattle.learn.proofs.Staying.{learned_leaves}
use Rattle.learn.proofs.learning.learn.Goals as goal

pub returns-clause-learned : goal.returns-clause-learned
returns-clause-learned c =
    let a = c.add-known.ensures in
    learned_leaves c.args.lists.now c.args.nodes.now c.args.new c.add-known.result c.add-known.new.nodes c.in_ok-check_new.ensures.learnable a.grown a.place a.count a.new
