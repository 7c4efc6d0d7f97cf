use Rattle.std.proofs.Common.{sym, ◌∙◌}
use Rattle.decide.proofs.Listing.{place_back}
use Rattle.decide.proofs.choosing.choice.Goals as goal

pub settled_choice-requires : goal.settled_choice-requires
settled_choice-requires c = (place_back c.args.task.now.gaps.names.items c.args.gap c.in-Some.place (sym c.place.ensures ∙ c.in-Some.is)).0
