use Rattle.std.proofs.Common.{◌≡◌, ◌+◌, ◌*◌, ◌∷◌, ◌++◌, length, vec_items}
use Rattle.decide_file.specs.Numbers.{numbers}
use Rattle.decide_file.proofs.text.Text.nodes.Given as goal

abbrev pub invariant-loop-there : goal.invariant-loop-there
invariant-loop-there l =
    (vec_items l.nodes ++ numbers l.self ≡ l.count ∷ numbers l.initial.self)
    × (length (vec_items l.nodes) ≡ 1 + 5 * l.there)
