use Rattle.decide.proofs.rowwise.possible.Goals as goal

pub returns-clause-possible : goal.returns-clause-possible
returns-clause-possible c = rw c.is_possible.ensures c.in_ok-standing.ensures.decided.possible
