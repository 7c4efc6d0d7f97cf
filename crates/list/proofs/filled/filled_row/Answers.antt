use Rattle.std.proofs.Common.{◌+◌, ◌*◌, get_or, Ok, ◌∙◌, arith, rules, tests}
use Rattle.std.proofs.lemmas.Iterator.{YieldsList-from_range, YieldsList-from_map, items_from_collect}
use Rattle.condition.specs.Store.{cell_in}
use Rattle.evaluate.specs.Filling.{fill_cell}
use Rattle.evaluate.specs.Shapes.{numbers_of}
use Rattle.list.proofs.Reading.{each_filled}
use Rattle.list.proofs.filled.filled_row.Goals as goal

pub returns : goal.returns
returns c =
    let v = numbers_of c.args.filling.now in let xs = c.args.line.numbers.now in let w = c.args.line.width in
    items_from_collect {E = Unit {0}} (Ok c.in_ok-row.row) c.in_ok-row.ensures.ran
    (YieldsList-from_map _ (λ a. fill_cell v (cell_in (get_or xs (1 + 2 * a) 0) (get_or xs (2 + 2 * a) 0)))
    (YieldsList-from_range 0 w w c.map.ensures.source (omega arith)) c.map.ensures.closure (λ x r q k. search (rules, tests)))
    ∙ each_filled v w 0 xs
