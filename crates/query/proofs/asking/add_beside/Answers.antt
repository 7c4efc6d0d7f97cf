use Rattle.std.proofs.Common.{◌++◌, arith}
use Rattle.query.proofs.Added.{rows_push, added_one, added_end}
use Rattle.query.proofs.Firsts.{beside_first, beside_none}
use Rattle.query.proofs.Left.{rows_more, rows_end}
use Rattle.query.proofs.asking.add_beside.Goals as goal

pub loop-other-preserved : goal.loop-other-preserved
loop-other-preserved c =
    let m = rows_more c.args.others.now c.loop-other.other-index c.other-item.result c.as_slice.result.now (omega arith) c.other-item.is c.as_slice.ensures.value in
    let e = beside_first _ _ _ m c.args.row.now in
    let k = c.in_ok-extend_from_slice.ensures.items in
    let w = c.in_ok-wide.ensures.items in
    let a = rows_push c.loop-other.out c.push.new.self c.extend_from_slice.new.self (c.args.row.now ++ c.as_slice.result.now) c.in_ok-push.ensures.items (cc) in
    added_one _ _ _ _ _ _ c.loop-other.invariant e a

pub returns : goal.returns
returns c = added_end _ _ _ c.loop-other.invariant (beside_none _ (rows_end c.args.others.now c.loop-other.other-index (omega arith)) c.args.row.now)
