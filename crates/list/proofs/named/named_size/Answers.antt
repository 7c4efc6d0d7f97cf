use Rattle.std.proofs.Common.{arith}
use Rattle.std.proofs.lemmas.List.{take_rest}
use Rattle.list.specs.Layout.{list_named}
use Rattle.list.proofs.named.named_size.Goals as goal

pub returns-then-not-any_lines_named : goal.returns-then-not-any_lines_named
unfolding list_named
returns-then-not-any_lines_named c = let p = simp take_rest at c.any_lines_named.ensures in cc

pub returns : goal.returns
unfolding list_named
returns c = let p = simp take_rest at c.any_lines_named.ensures in rw c.line_size.ensures (cc, omega arith, omega (arith, c.requires.whole))
