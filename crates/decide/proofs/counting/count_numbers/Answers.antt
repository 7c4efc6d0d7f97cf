use Rattle.std.proofs.Common.{◌≡◌, ◌+◌, ◌^◌, ◌++◌, sym, ◌∙◌, arith}
use Rattle.condition.specs.Cond.{numbers_in, has}
use Rattle.decide.specs.Marked.{cells_marked}
use Rattle.decide.proofs.Counted.{counted_zero}
use Rattle.decide.proofs.Least.{counted_least, counted_none_left, least_from}
use Rattle.decide.proofs.FewNumbers.{counted_marked}
use Rattle.decide.proofs.counting.count_numbers.Goals as goal

pub loop-number-init : goal.loop-number-init
loop-number-init c = (omega arith, sym (counted_zero (has (numbers_in (cells_marked c.args.marked.now) ++ c.args.row.now))))

pub overflow_add-many : goal.overflow_add-many
overflow_add-many c = omega (arith, c.loop-number.invariant.1, counted_marked c.loop-number.low c.args.marked.now.nodes.now c.args.marked.now.marks.now c.args.marked.now.n c.args.row.now)

pub returns-then-number : goal.returns-then-number
returns-then-number c =
    let e : c.in-Some.number + 1 ≡ 2 ^ 64 = omega arith in
    let l = rw e at (counted_least (numbers_in (cells_marked c.args.marked.now) ++ c.args.row.now) c.loop-number.low c.in-Some.number c.in-Some.ensures) in
    record {
      count = omega arith;
      small = omega (arith, counted_marked c.loop-number.low c.args.marked.now.nodes.now c.args.marked.now.marks.now c.args.marked.now.n c.args.row.now);
    }

pub loop-number-smaller : goal.loop-number-smaller
loop-number-smaller c = omega (arith, least_from _ _ _ c.in-Some.ensures)

pub loop-number-preserved : goal.loop-number-preserved
loop-number-preserved c = (omega arith, omega (arith, counted_least _ _ _ c.in-Some.ensures))

pub returns : goal.returns
returns c = record {
  count = c.loop-number.invariant.1 ∙ sym (counted_none_left _ _ (2 ^ 64) (omega arith) c.in_default.ensures);
  small = omega (arith, c.loop-number.invariant.1, counted_marked c.loop-number.low c.args.marked.now.nodes.now c.args.marked.now.marks.now c.args.marked.now.n c.args.row.now);
}
