use Rattle.std.proofs.Common.{refl, arith}
use Rattle.list.specs.Layout.{lines_fit, lines_named}
use Rattle.decide.proofs.answered.Answered.seek_nothing.Goals as goal

pub invariant_of-result : goal.invariant_of-result
unfolding lines_fit lines_named
invariant_of-result c = record { store = c.args.self.store; small = c.args.self.small; stands = c.args.self.stands; whole = omega arith; cells = refl; named = refl }
