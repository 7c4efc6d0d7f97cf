use Rattle.decide.proofs.rowwise.sure.Goals as goal

pub returns-clause-sure : goal.returns-clause-sure
returns-clause-sure c = rw c.is_sure.ensures c.in_ok-standing.ensures.decided.sure
