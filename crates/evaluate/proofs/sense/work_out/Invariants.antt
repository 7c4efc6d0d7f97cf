use Rattle.std.proofs.Common.{◌≡◌, ℕ, ◌≤◌, get_or}
use Rattle.evaluate.specs.Senses.{ComeTo}
use Rattle.evaluate.proofs.sense.work_out.Given as goal

abbrev pub invariant-loop-i : goal.invariant-loop-i
invariant-loop-i g l =
    ComeTo (g.S.Sense.means l.sense) l.nodes l.i l.values
    × ((j : ℕ) → l.i ≤ j → (x : _) → get_or l.values j x ≡ get_or l.initial.values j x)
