use Rattle.std.proofs.Common.{rules, ◌<◌, length, drop, ◌∙◌, arith, sym}
use Rattle.condition.specs.Shapes.{cell_of}
use Rattle.list.specs.Layout.{cells_in}
use Rattle.list.specs.Lists.{fill_cells}
use Rattle.decide.specs.Shapes.{chosen_of}
use Rattle.decide.proofs.NamedRows.{named_true, named_false, fill_more, fill_here, fill_all, length_row}
use Rattle.decide.proofs.candidates.named_row.Goals as goal

pub loop-a-init : goal.loop-a-init
unfolding fill_cells
loop-a-init c = search rules

pub returns-in-Nowhere-clause-named : goal.returns-in-Nowhere-clause-named
returns-in-Nowhere-clause-named c =
    let v = chosen_of c.args.chosen.now in let line = c.args.line.now in let row = fill_cells v (cells_in line.width (drop 1 line.numbers.now)) in
    let b : c.loop-a.a < length row = rw (length_row v line.width (drop 1 line.numbers.now)) (search rules) in
    let e = fill_here v line.width c.loop-a.a line.numbers.now (cell_of c.cell.result) (search rules) c.cell.ensures in
    sym (named_false row (λ below. let l = below c.loop-a.a 0 b in omega (arith, e, l, c.in-Nowhere.ensures)))

pub loop-a-preserved : goal.loop-a-preserved
loop-a-preserved c =
    let v = chosen_of c.args.chosen.now in let line = c.args.line.now in
    record {
      is = c.in_ok-push-in-Number.ensures.items
          ∙ rw (c.loop-a.invariant.is, c.in-Number.ensures)
          (sym (fill_more v line.width c.loop-a.a line.numbers.now (cell_of c.cell.result) (search rules) c.cell.ensures));
      named = search rules;
    }

pub returns-clause-named : goal.returns-clause-named
returns-clause-named c =
    let line = c.args.line.now in let e = c.loop-a.invariant.is ∙ fill_all (chosen_of c.args.chosen.now) line.width c.loop-a.a (drop 1 line.numbers.now) (omega arith) in
    sym (rw e at (named_true c.loop-a.row.items c.loop-a.invariant.named))

pub returns-clause-row : goal.returns-clause-row
returns-clause-row c =
    let line = c.args.line.now in
    c.loop-a.invariant.is ∙ fill_all (chosen_of c.args.chosen.now) line.width c.loop-a.a (drop 1 line.numbers.now) (omega arith)
