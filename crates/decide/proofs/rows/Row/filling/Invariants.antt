use Rattle.std.proofs.Common.{◌≡◌, ℕ}
use Rattle.evaluate.specs.Shapes.{numbers_of}
use Rattle.decide.proofs.Listing.{upto}
use Rattle.decide.proofs.rows.Row.filling.Given as goal

abbrev pub invariant-loop-p : goal.invariant-loop-p
invariant-loop-p l = (k : ℕ) → numbers_of l.filling k ≡ upto l.gaps.names.items l.self l.p k
