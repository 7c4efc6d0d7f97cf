use Rattle.learn.specs.Dropping.{Dropped}
use Rattle.learn.proofs.dropping.drop_never.Given as goal

abbrev pub invariant-loop-i : goal.invariant-loop-i
invariant-loop-i l = Dropped l.nodes l.i l.w l.initial.answer l.kept l.answer
