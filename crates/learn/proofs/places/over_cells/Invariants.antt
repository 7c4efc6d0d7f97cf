use Rattle.std.proofs.Common.{◌≡◌, ◌+◌, ◌-◌, ◌*◌}
use Rattle.learn.specs.Places.{over_cells}
use Rattle.learn.proofs.places.over_cells.Given as goal

-- what is left to do gives what all gives
abbrev pub invariant-loop-a : goal.invariant-loop-a
invariant-loop-a l = over_cells l.gap l.number (l.w - l.a) (l.at + 2 * l.a) l.xs ≡ over_cells l.gap l.number l.w l.at l.fn.xs
