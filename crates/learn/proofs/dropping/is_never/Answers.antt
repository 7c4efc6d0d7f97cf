use Rattle.std.proofs.Common.{sym, refl}
use Rattle.condition.proofs.Decoding.{at_decoded}
use Rattle.learn.proofs.Leaving.{never_only}
use Rattle.learn.proofs.dropping.is_never.Goals as goal

pub returns-in-Never : goal.returns-in-Never
returns-in-Never c = rw (at_decoded c.args.nodes.now c.args.node c.requires.0, ← c.nth_node.ensures.read, c.in-Never.is) refl

pub returns-in_default : goal.returns-in_default
returns-in_default c = rw (at_decoded c.args.nodes.now c.args.node c.requires.0, ← c.nth_node.ensures.read) (sym (never_only c.nth_node.result _ c.nth_node.ensures.named c.in_default.not-Never))
