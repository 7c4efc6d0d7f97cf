use Rattle.std.proofs.Common.{◌≡◌, ◌^◌, ◌<◌, All, take, drop}
use Rattle.list.specs.Layout.{cells_in}
use Rattle.list.specs.Lists.{fill_cells}
use Rattle.decide.specs.Shapes.{chosen_of}
use Rattle.decide.proofs.candidates.named_row.Given as goal

abbrev pub invariant-loop-a : goal.invariant-loop-a
invariant-loop-a l = record {
  is : l.row.items ≡ fill_cells (chosen_of l.chosen) (take l.a (cells_in l.line.width (drop 1 l.line.numbers.now)));
  named : All (λ n. n < 2 ^ 64) l.row.items;
}
