use Rattle.query.proofs.Shaping.{pairs_all}
use Rattle.query.proofs.question.Question.read.Goals as goal

pub returns : goal.returns
returns c =
    let e = pairs_all c.args.lists.now c.of.result c.of.ensures in
    record { refusal = rw (← c.in_ok-check_lists.ensures.refusal) (rw e at c.within.ensures.refusal); value = rw e at c.within.ensures.value }
