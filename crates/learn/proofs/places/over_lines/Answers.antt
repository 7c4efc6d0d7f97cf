use Rattle.std.proofs.Common.{◌≡◌, ◌+◌, ◌-◌, sym, refl, ap, ◌∙◌, arith}
use Rattle.learn.specs.Places.{over_lines}
use Rattle.learn.proofs.Steps.{lines_none, lines_step, lines_left}
use Rattle.learn.proofs.places.over_lines.Goals as goal

pub loop-init : goal.loop-init
loop-init c = let e : c.args.n - 0 ≡ c.args.n = omega arith in record { whole = rw e c.requires; same = rw e refl }

pub loop-preserved : goal.loop-preserved
loop-preserved c =
    let k = c.args.gap in let n = c.args.number in let i = c.loop.counter in let m = c.args.n in let w = c.args.w in
    let s = lines_left m i w c.loop-test.true in
    record {
      whole = omega (arith, s, c.loop.invariant.whole);
      same =
          ap (λ t. over_lines k n (m - (i + 1)) w (c.loop.next + c.line_size-next.result) t) c.over_cells.ensures
          ∙ rw c.line_size-next.ensures (sym (lines_step k n m i w c.loop.next c.loop.xs c.loop-test.true) ∙ c.loop.invariant.same);
    }

pub returns : goal.returns
returns c = sym (lines_none c.args.gap c.args.number _ c.args.w c.loop.next c.loop.xs (omega arith)) ∙ c.loop.invariant.same
