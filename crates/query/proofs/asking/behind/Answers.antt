use Rattle.std.proofs.Common.{◌∙◌}
use Rattle.std.proofs.lemmas.List.{take_rest}
use Rattle.query.proofs.Left.{drop_within}
use Rattle.query.proofs.asking.behind.Goals as goal

pub returns : goal.returns
returns c = take_rest c.args.parts.now c.min.result ∙ drop_within _ _ _ c.min.ensures
