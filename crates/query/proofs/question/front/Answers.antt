use Rattle.std.proofs.lemmas.List.{take_min}
use Rattle.std.proofs.Math.Nat.{min_comm}
use Rattle.query.proofs.question.front.Goals as goal

pub returns : goal.returns
returns c = rw (c.min.ensures, min_comm) (take_min 96 c.args.signs.now)
