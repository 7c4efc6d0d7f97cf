use Rattle.decide.specs.Rows.{place}
use Rattle.decide.proofs.Choice.{owner_low}
use Rattle.decide.proofs.choosing.owner.Goals as goal

pub returns-clause-is : goal.returns-clause-is
unfolding place
returns-clause-is c = rw (c.unwrap_or.ensures, c.first_place.ensures)

pub returns-clause-low : goal.returns-clause-low
unfolding place
returns-clause-low c = rw (c.unwrap_or.ensures, c.first_place.ensures) (owner_low c.args.row.now.numbers c.args.place c.requires)
