use Rattle.std.proofs.Common.{◌≡◌, ◌-◌, ◌≤◌, length, drop}
use Rattle.list.specs.Layout.{list_fits, passing}
use Rattle.learn.specs.Places.{over_lists}
use Rattle.learn.proofs.places.over_lists.Given as goal

-- the lists that are left fit, and what is left to do gives what all gives
abbrev pub invariant-loop : goal.invariant-loop
invariant-loop l = record {
  within : l.at ≤ length l.lists;
  left : passing list_fits (l.count - l.counter) (drop l.at l.lists) ≡ l.count - l.counter;
  same : over_lists l.gap l.number (l.count - l.counter) l.at l.lists ≡ over_lists l.gap l.number l.count 2 l.fn.lists;
}
