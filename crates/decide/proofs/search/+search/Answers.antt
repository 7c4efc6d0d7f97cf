use Rattle.std.proofs.Common.{◌+◌, ◌<◌, ◌≤◌, length, get_or, sym, ap, ◌∙◌, arith}
use Rattle.decide.specs.Search.{tried, at_once, Begun, Extended}
use Rattle.decide.specs.Rows.{blank}
use Rattle.decide.proofs.Gathering.{at_once_bounds, Gathered, at_leaves, emptied, all_emptied, passed, one_more, added_few}
use Rattle.decide.proofs.search.+search.Goals as goal
use Rattle.decide.proofs.search.+search.Goals.{then-len-most, else-len-most, then-wants, else-wants}

pub returns-then-depth-len : goal.returns-then-depth-len
returns-then-depth-len t c =
    at_leaves c.args.task.now c.args.depth c.args.rows.now.list.items c.args.met (c.if-depth-len.true ∙ c.len.ensures.value) c.meet.result c.or_first.result
    c.meet.ensures c.requires.sound c.or_first.ensures

pub invariant_of-next : goal.invariant_of-next
invariant_of-next t c = record { few = omega (arith, c.loop-l.invariant.few, (at_once_bounds c.args.task.now (c.args.depth + 1)).1) }

pub loop-l-preserved : goal.loop-l-preserved
loop-l-preserved t c =
    let task = c.args.task.now in let depth = c.args.depth in let rows = c.args.rows.now.list.items in let l = c.loop-l.l in
    let deep : depth < length (tried task) = omega arith in
    let low : l < length rows = omega (arith, ap length c.deref-row-items.ensures.0) in
    let next = c.if-len-most.next.0.items in let met = c.if-len-most.met in
    let ready : Gathered task depth rows c.args.met l next met = elim c.if-len-most.branch [
      | then-len-most w ↦ rw (w.next-is, w.met-is, w.clear.ensures) (emptied task depth rows c.args.met l c.loop-l.next.0.items c.loop-l.met c.loop-l.invariant.gathered w.search-met.result w.search-met.ensures)
      | else-len-most w ↦ rw (w.next-is, w.met-is) c.loop-l.invariant.gathered
    ] in
    let room : length next + 14 ≤ at_once task (depth + 1) = elim c.if-len-most.branch [
      | then-len-most w ↦ rw (w.next-is, w.clear.ensures) (omega (arith, (at_once_bounds task (depth + 1)).0))
      | else-len-most w ↦ rw w.next-is (omega (arith, c.at_once-most.ensures))
    ] in
    let here : Begun task depth (get_or rows l blank) = c.requires.begun l blank low in
    elim c.if-wants.branch [
      | then-wants w ↦
          let x : Extended task depth (get_or rows l blank) next w.extend.new.next.items = rw c.deref-row-items.ensures.0 at w.extend.ensures in
          rw w.next-is (record {
            few = added_few task depth deep (get_or rows l blank) here next w.extend.new.next.items (at_once task (depth + 1)) room x;
            gathered = one_more task depth deep rows c.args.met l next met ready low here w.extend.new.next.items x;
          })
      | else-wants w ↦ rw w.next-is (record {
        few = omega arith;
        gathered = passed task depth rows c.args.met l next met ready low c.might_meet-lanes.result c.might_meet-lanes.ensures (sym c.wants.ensures ∙ w.if-wants.false);
      })
    ]

pub invariant_of-next-2 : goal.invariant_of-next-2
invariant_of-next-2 t c = record { few = omega (arith, c.loop-l.invariant.few, (at_once_bounds c.args.task.now (c.args.depth + 1)).1) }

pub returns : goal.returns
returns t c =
    all_emptied c.args.task.now c.args.depth c.args.rows.now.list.items c.args.met c.loop-l.l c.loop-l.next.0.items c.loop-l.met c.loop-l.invariant.gathered c.search.result
    (omega (arith, ap length c.deref-row-items.ensures.0)) c.search.ensures
