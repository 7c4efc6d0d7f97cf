use Rattle.std.proofs.Common.{get_or}
use Rattle.learn.specs.Copying.{Renamed}
use Rattle.learn.proofs.tidying_lines.write_places.Given as goal

abbrev pub invariant-loop-i : goal.invariant-loop-i
invariant-loop-i l = Renamed (λ j. get_or l.moves.copies.items (get_or l.moves.places.items j 0) 0) l.i l.w l.initial.answer l.answer
