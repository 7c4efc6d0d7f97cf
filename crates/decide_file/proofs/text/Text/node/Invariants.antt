use Rattle.std.proofs.Common.{◌≡◌, ◌+◌, ◌++◌, length, vec_items}
use Rattle.decide_file.specs.Numbers.{numbers}
use Rattle.decide_file.proofs.text.Text.node.Given as goal

abbrev pub invariant-loop : goal.invariant-loop
invariant-loop l =
    (vec_items l.nodes ++ numbers l.self ≡ vec_items l.initial.nodes ++ numbers l.initial.self)
    × (length (vec_items l.nodes) ≡ length (vec_items l.initial.nodes) + l.counter)
