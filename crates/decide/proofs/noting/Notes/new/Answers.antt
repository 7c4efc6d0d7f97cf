use Rattle.decide.proofs.Noted.{noted_none}
use Rattle.decide.proofs.noting.Notes.new.Goals as goal

pub returns : goal.returns
returns c = noted_none c.new.result c.new.ensures
