use Rattle.std.proofs.Common.{refl, arith, rules}
use Rattle.list.specs.Layout.{line_size}
use Rattle.answer.specs.Plan.{many, wide}
use Rattle.answer.specs.Sides.{plan, node, cells}
use Rattle.answer.proofs.Steps.{row}
use Rattle.answer.proofs.Putting.{written_more}
use Rattle.answer.proofs.side.Side.put_lines.Goals as goal

pub loop-i-preserved : goal.loop-i-preserved
loop-i-preserved c =
    let s = c.args.self.now in
    let w = c.width.ensures.is in let z = c.line_size-size.ensures in
    let r = row c.loop-i.i (many (plan s)) (line_size (wide (plan s))) (omega arith) in
    written_more (node s) (cells s) (wide (plan s)) c.loop-i.i _ _ c.args.out.now c.loop-i.out c.put_line.new.line (rw (z, w) refl) (rw z (omega (arith, w))) (rw (z, w) (omega arith)) (search rules) c.loop-i.invariant c.put_line.ensures
