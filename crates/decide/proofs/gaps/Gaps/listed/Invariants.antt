use Rattle.decide.proofs.Listing.{Collected}
use Rattle.decide.proofs.gaps.Gaps.listed.Given as goal

abbrev pub invariant-loop-gap : goal.invariant-loop-gap
invariant-loop-gap l = Collected l.gaps l.gap-index l.names.items
