use Rattle.std.proofs.Common.{length, ap, arith}
use Rattle.decide.proofs.Telling.{told_gaps, told_numbers, told_few}
use Rattle.decide.proofs.checking.check_named_few.Goals as goal

pub returns-then-gaps-gt6-clause-refusal : goal.returns-then-gaps-gt6-clause-refusal
returns-then-gaps-gt6-clause-refusal c =
    told_gaps c.args.survey.now.sought c.args.survey.now.marks.now c.args.survey.now.notes c.args.survey.now.surveyed c.count_gaps-gaps.result c.count_gaps-gaps.ensures c.if-gaps-gt6.true

pub returns-then-numbers-gt8-clause-refusal : goal.returns-then-numbers-gt8-clause-refusal
returns-then-numbers-gt8-clause-refusal c =
    let m = c.marked.ensures in
    told_numbers c.args.survey.now.sought c.args.survey.now.marks.now c.args.survey.now.notes c.args.survey.now.surveyed c.count_gaps-gaps.result c.count_numbers-numbers.result
    c.count_gaps-gaps.ensures c.if-gaps-gt6.false (omega (arith, ap length c.numbers.ensures)) (rw (m.nodes, m.all, m.marks) at c.count_numbers-numbers.ensures.count)

pub returns-clause-refusal : goal.returns-clause-refusal
returns-clause-refusal c =
    told_few c.args.survey.now.sought c.args.survey.now.marks.now c.args.survey.now.notes c.args.survey.now.surveyed c.count_gaps-gaps.result c.count_gaps-gaps.ensures c.if-gaps-gt6.false (omega (arith, ap length c.numbers.ensures))
