use Rattle.std.proofs.Common.{arith}
use Rattle.answer.proofs.Splitting.{some_parts, read_numbers}
use Rattle.answer.proofs.side.Side.end.Goals as goal

pub bounds-self-0 : goal.bounds-self-0
bounds-self-0 c = some_parts c.args.self.now

pub overflow_add-result : goal.overflow_add-result
overflow_add-result c = let n = read_numbers c.args.self.now c.index-self-0.result in omega (arith, n.cost, c.args.self.now.low)

pub returns : goal.returns
returns c = let n = read_numbers c.args.self.now c.index-self-0.result in omega (arith, n.cost)
