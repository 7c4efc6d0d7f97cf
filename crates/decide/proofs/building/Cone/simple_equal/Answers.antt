use Rattle.std.proofs.Common.{arith}
use Rattle.condition.specs.Store.{count}
use Rattle.decide.proofs.Simpler.{equal_same, equal_apart, equal_turned, neat_number, neat_gap}
use Rattle.decide.proofs.building.Cone.simple_equal.Goals as goal

pub returns-then-m-n : goal.returns-then-m-n
returns-then-m-n c = equal_same c.args.self.now.nodes.now c.args.self.now.begun c.args.a c.args.b (cc)

pub returns-else-m-n : goal.returns-else-m-n
returns-else-m-n c = equal_apart c.args.self.now.nodes.now c.args.self.now.begun c.args.a c.args.b _ _ c.in-Number-Number.is-0 c.in-Number-Number.is-1 c.if-m-n.false

pub returns-in-Number-Gap : goal.returns-in-Number-Gap
returns-in-Number-Gap c =
    let xs = c.args.self.now.nodes.now in let w = c.in-Number-Gap in
    equal_turned xs c.args.a c.args.b (neat_number (count xs) c.args.b c.args.a _ _ w.is-1 w.is-0) c.requires

pub returns-then-j-k : goal.returns-then-j-k
returns-then-j-k c = equal_same c.args.self.now.nodes.now c.args.self.now.begun c.args.a c.args.b (cc)

pub returns-else-j-k-2 : goal.returns-else-j-k-2
returns-else-j-k-2 c =
    let xs = c.args.self.now.nodes.now in let w = c.in-Gap-Gap in
    equal_turned xs c.args.a c.args.b (neat_gap (count xs) c.args.b c.args.a w.k w.j w.is-1 w.is-0 (omega arith)) c.requires
