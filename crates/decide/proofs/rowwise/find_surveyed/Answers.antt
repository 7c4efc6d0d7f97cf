use Rattle.std.proofs.Common.{true, false, vec_items}
use Rattle.decide.specs.Sides.{side}
use Rattle.decide.proofs.Goals.{goal_named, stood, found}
use Rattle.decide.proofs.rowwise.find_surveyed.Goals as goal

pub of-task-requires-clause-named : goal.of-task-requires-clause-named
of-task-requires-clause-named c =
    rw (c.as_slice.ensures.value, c.numbers.ensures)
    (goal_named c.args.survey.now.sought c.args.survey.now.marks.now c.args.survey.now.notes c.args.survey.now.surveyed c.args.gaps.now c.requires (vec_items c.in_ok-cone.cone.nodes) c.in_ok-cone.cone.goal c.in_ok-cone.ensures.coned)

pub returns-clause-decided : goal.returns-clause-decided
returns-clause-decided c =
    let e = c.as_slice.ensures.value in let t = c.of-task.ensures in
    stood c.args.survey.now.sought c.args.survey.now.marks.now c.args.survey.now.notes c.args.survey.now.surveyed c.args.gaps.now c.requires (vec_items c.in_ok-cone.cone.nodes) c.in_ok-cone.cone.goal c.in_ok-cone.ensures.coned
    c.try_all.result.yes c.try_all.result.no (rw (t.cone, t.goal, e) at (c.try_all.ensures true)) (rw (t.cone, t.goal, e) at (c.try_all.ensures false))

pub returns-clause-found : goal.returns-clause-found
returns-clause-found c t =
    let e = c.as_slice.ensures.value in let k = c.of-task.ensures in
    found c.args.survey.now.sought c.args.survey.now.marks.now c.args.survey.now.notes c.args.survey.now.surveyed c.args.gaps.now c.requires (vec_items c.in_ok-cone.cone.nodes) c.in_ok-cone.cone.goal c.in_ok-cone.ensures.coned
    t (side t c.try_all.result) (rw (k.cone, k.goal, e) at (c.try_all.ensures t))
