use Rattle.std.proofs.Common.{◌≡◌, ◌+◌, ◌-◌, ◌*◌, sym, refl, ap, ◌∙◌, arith}
use Rattle.learn.specs.Places.{over_cells}
use Rattle.learn.proofs.Steps.{cells_none, cells_step}
use Rattle.learn.proofs.places.over_cells.Goals as goal

pub loop-a-init : goal.loop-a-init
loop-a-init c = let e : c.args.w - 0 ≡ c.args.w = omega arith in let f : c.args.at + 2 * 0 ≡ c.args.at = omega arith in rw (e, f) refl

pub loop-a-preserved : goal.loop-a-preserved
loop-a-preserved c =
    let k = c.args.gap in let n = c.args.number in let a = c.loop-a.a in
    ap (λ t. over_cells k n (c.args.w - (a + 1)) (c.args.at + 2 * (a + 1)) t) c.over_cell.ensures
    ∙ (sym (cells_step k n c.args.w a c.args.at (c.args.at + 2 * a) c.loop-a.xs c.loop-a-test.true refl) ∙ c.loop-a.invariant)

pub returns : goal.returns
returns c = sym (cells_none c.args.gap c.args.number _ (c.args.at + 2 * c.loop-a.a) c.loop-a.xs (omega arith)) ∙ c.loop-a.invariant
