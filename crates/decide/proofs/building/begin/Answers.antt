use Rattle.std.proofs.Common.{rules, ◌≡◌}
use Rattle.condition.specs.Store.{count}
use Rattle.decide.specs.Folding.{Begun}
use Rattle.decide.proofs.Added.{two_covered}
use Rattle.decide.proofs.building.begin.Goals as goal

pub returns-clause-covered : goal.returns-clause-covered
returns-clause-covered c =
    let xs = c.add-2.new.nodes in
    let b : Begun xs = search rules in
    let e : count xs ≡ 2 = search rules in
    two_covered xs b e
