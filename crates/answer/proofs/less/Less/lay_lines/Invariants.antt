use Rattle.answer.specs.Plan.{many}
use Rattle.answer.specs.Sides.{plan}
use Rattle.answer.specs.Laid.{Added, less, each}
use Rattle.answer.proofs.less.Less.lay_lines.Given as goal

abbrev pub invariant-loop-i : goal.invariant-loop-i
invariant-loop-i l = Added (less l.initial.nodes l.self (many (plan l.self.q))) (each l.self) l.i l.initial.nodes l.nodes
