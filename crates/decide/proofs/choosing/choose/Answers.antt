use Rattle.std.proofs.Common.{◌<◌, AllPairs, ◌∙◌, vec_items}
use Rattle.decide.proofs.Alone.{rises, alone_named, picked_alone, none_alone}
use Rattle.decide.specs.Noting.{gap_noted}
use Rattle.decide.proofs.choosing.choose.Goals as goal

pub of-task-requires-clause-named : goal.of-task-requires-clause-named
of-task-requires-clause-named c =
    let s = c.args.survey.now in
    rw (c.as_slice.ensures.value, c.numbers.ensures)
    (alone_named s.sought s.marks.now s.notes s.surveyed c.args.gaps.now c.requires (vec_items c.in_ok-cone.cone.nodes) c.in_ok-cone.cone.goal c.in_ok-cone.ensures.coned)

pub returns-in_default-clause-chosen : goal.returns-in_default-clause-chosen
returns-in_default-clause-chosen c =
    let s = c.args.survey.now in let t = c.of-task.ensures in
    let rising : AllPairs (λ j k. j < k) c.args.gaps.now = rw c.requires.gaps (rises 64 (gap_noted s.notes)) in
    none_alone s.sought s.marks.now s.notes s.surveyed c.args.gaps.now c.requires (vec_items c.in_ok-cone.cone.nodes) c.in_ok-cone.cone.goal c.in_ok-cone.ensures.coned
    c.of-task.result (t.cone ∙ c.as_slice.ensures.value) t.goal (t.gaps rising) (t.named ∙ c.numbers.ensures) c.others_first-order.result.items c.others_first-order.ensures.order c.in_default.ensures

pub returns-clause-chosen : goal.returns-clause-chosen
returns-clause-chosen c =
    let s = c.args.survey.now in let t = c.of-task.ensures in
    let rising : AllPairs (λ j k. j < k) c.args.gaps.now = rw c.requires.gaps (rises 64 (gap_noted s.notes)) in
    picked_alone s.sought s.marks.now s.notes s.surveyed c.args.gaps.now c.requires (vec_items c.in_ok-cone.cone.nodes) c.in_ok-cone.cone.goal c.in_ok-cone.ensures.coned
    c.of-task.result (t.cone ∙ c.as_slice.ensures.value) t.goal (t.gaps rising) (t.named ∙ c.numbers.ensures) c.others_first-order.result.items c.others_first-order.ensures.order
    c.in-Some.row c.chosen.ensures.six c.chosen.result c.chosen.ensures.each (rw c.deref.ensures.0 at c.in-Some.ensures)
