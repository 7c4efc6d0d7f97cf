use Rattle.std.proofs.Common.{◌≡◌, ◌-◌, refl, arith}
use Rattle.decide.specs.Counting.{passing_below}
use Rattle.decide.specs.Marked.{places_left}
use Rattle.decide.proofs.marked.Marked.places.Goals as goal

pub returns : goal.returns
unfolding places_left passing_below
returns c = let e : c.args.self.now.n - 0 ≡ c.args.self.now.n = omega arith in rw e refl
