use Rattle.learn.proofs.Tidied.{mark_one}
use Rattle.learn.proofs.tidying.mark_one.Goals as goal

pub returns : goal.returns
returns c = mark_one 131072 c.args.node c.requires
