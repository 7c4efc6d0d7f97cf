use Rattle.std.proofs.Common.{◌≡◌, ℕ, ◌≤◌, false, get_or}
use Rattle.decide.specs.Building.{Same}
use Rattle.decide.specs.Marked.{places_left}
use Rattle.decide.proofs.Folded.{FoldedTo}
use Rattle.decide.proofs.building.Cone.fold.Given as goal

abbrev pub invariant-loop-i : goal.invariant-loop-i
invariant-loop-i l = record {
  same : Same l.initial.self l.self;
  folded : FoldedTo l.nodes l.n l.marks (places_left l.i-iterator) l.initial.self.nodes.now l.self.nodes.now l.places;
  unmarked : (j : ℕ) → get_or l.marks j false ≡ false → get_or l.places j 0 ≡ get_or l.initial.places j 0;
  past : (j : ℕ) → l.n ≤ j → get_or l.places j 0 ≡ get_or l.initial.places j 0;
}
