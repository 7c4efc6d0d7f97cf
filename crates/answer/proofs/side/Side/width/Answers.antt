use Rattle.std.proofs.Common.{arith}
use Rattle.answer.proofs.Splitting.{some_parts, read_numbers}
use Rattle.answer.proofs.side.Side.width.Goals as goal

pub bounds-self-0 : goal.bounds-self-0
bounds-self-0 c = some_parts c.args.self.now

pub returns : goal.returns
returns c = let n = read_numbers c.args.self.now c.index-self-0.result in record { is = n.width; narrow = omega (arith, n.width, n.narrow) }
