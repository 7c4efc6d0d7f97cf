use Rattle.std.proofs.Common.{sym}
use Rattle.decide.proofs.Listing.{place_back}
use Rattle.decide.proofs.gaps.Gaps.spot.Goals as goal

pub returns-in-Some-clause-inside : goal.returns-in-Some-clause-inside
returns-in-Some-clause-inside c = (place_back c.args.self.now.names.items c.in-Gap.k c.in-Some.p (sym c.in-Some.ensures)).0
