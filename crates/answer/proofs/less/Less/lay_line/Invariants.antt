use Rattle.std.proofs.Common.{◌≡◌, ◌+◌, ◌<◌}
use Rattle.condition.specs.Store.{count}
use Rattle.answer.specs.Plan.{wide, less_size}
use Rattle.answer.specs.Sides.{plan}
use Rattle.answer.specs.Laid.{New, less}
use Rattle.answer.proofs.less.Less.lay_line.Given as goal

abbrev pub invariant-loop-j : goal.invariant-loop-j
invariant-loop-j l =
    New (less_size (wide (plan l.self.p)) l.j) l.c (less l.initial.nodes l.self l.j l.i) l.initial.nodes l.nodes
    × (0 < l.j → l.c + 1 ≡ count l.nodes)
