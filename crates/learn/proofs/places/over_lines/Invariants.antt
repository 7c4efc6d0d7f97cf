use Rattle.std.proofs.Common.{◌≡◌, ◌+◌, ◌-◌, ◌*◌, ◌≤◌, length}
use Rattle.list.specs.Layout.{line_size}
use Rattle.learn.specs.Places.{over_lines}
use Rattle.learn.proofs.places.over_lines.Given as goal

-- what is left to do gives what all gives
abbrev pub invariant-loop : goal.invariant-loop
invariant-loop l = record {
  whole : l.next + (l.n - l.counter) * line_size l.w ≤ length l.xs;
  same : over_lines l.gap l.number (l.n - l.counter) l.w l.next l.xs ≡ over_lines l.gap l.number l.n l.w l.at l.fn.xs;
}
