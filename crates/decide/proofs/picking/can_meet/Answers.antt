use Rattle.std.proofs.Common.{ap, ◌∙◌, [], ◌∷◌, ◌++◌, List}
use Rattle.decide.specs.declared.rows.Row.{Row}
use Rattle.decide.proofs.Picks.{one_searched}
use Rattle.decide.proofs.picking.can_meet.Goals as goal

pub returns : goal.returns
returns c = rw c.is_some.ensures
    (one_searched c.args.task.now c.args.depth c.args.row c.push.new.self.items c.default.result c.search-met.result
    (c.push.ensures.items ∙ ap (λ (rs : List Row). rs ++ c.args.row ∷ []) c.new-rows.ensures) c.default.ensures.0 c.search-met.ensures)
