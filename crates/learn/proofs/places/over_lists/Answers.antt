use Rattle.std.proofs.Common.{◌≡◌, ◌-◌, get_or, refl, sym, ◌∙◌, arith}
use Rattle.list.proofs.Fitting.{fitted, fits_at}
use Rattle.learn.proofs.Meaning.{lines_long}
use Rattle.learn.proofs.Steps.{lists_none, lists_step, lists_left}
use Rattle.learn.proofs.places.over_lists.Goals as goal

pub loop-init : goal.loop-init
loop-init c =
    let f = fitted c.args.lists.now c.requires in let z : get_or c.args.lists.now 0 0 - 0 ≡ get_or c.args.lists.now 0 0 = omega arith in
    record { within = omega (arith, f.long); left = rw z f.passed; same = rw z refl }

pub read_shape-shape-requires-clause-fits : goal.read_shape-shape-requires-clause-fits
read_shape-shape-requires-clause-fits c = fits_at _ c.loop.counter _ c.loop-test.true c.loop.invariant.left

pub loop-preserved : goal.loop-preserved
loop-preserved c =
    let k = c.args.gap in let n = c.args.number in let xs = c.loop.lists in let at = c.loop.at in
    let s = c.read_shape-shape.result in let e = c.read_shape-shape.ensures in
    rw (c.line_size.ensures, c.over_lines.ensures) record {
      within = omega (arith, e.whole, lines_long k n s.width s.lines s.at xs);
      left = lists_left k n _ c.loop.counter at s.at s.lines s.width xs c.loop-test.true e.at e.lines e.width c.loop.invariant.left;
      same = sym (lists_step k n _ c.loop.counter at s.at s.lines s.width xs c.loop-test.true e.at e.lines e.width) ∙ c.loop.invariant.same;
    }

pub returns : goal.returns
returns c = sym (lists_none c.args.gap c.args.number _ c.loop.at c.loop.lists (omega arith)) ∙ c.loop.invariant.same
