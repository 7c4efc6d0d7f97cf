use Rattle.std.proofs.Common.{arith}
use Rattle.list.specs.Shapes.{rows_of}
use Rattle.query.specs.Ask.{beside}
use Rattle.query.specs.Rows.{rows_in}
use Rattle.query.proofs.Added.{added_more, added_end}
use Rattle.query.proofs.Firsts.{joined_first, joined_none}
use Rattle.query.proofs.Left.{rows_more, rows_end}
use Rattle.query.proofs.asking.joined.Goals as goal

pub loop-row-preserved : goal.loop-row-preserved
loop-row-preserved c =
    let m = rows_more c.args.rows.now c.loop-row.row-index c.row-item.result c.as_slice.result.now (omega arith) c.row-item.is c.as_slice.ensures.value in
    let e = joined_first _ _ _ m (rows_in c.args.others.now) in
    added_more (rows_of c.loop-row.out) (rows_of c.add_beside.new.out) (beside c.as_slice.result.now (rows_in c.args.others.now)) _ _ _ c.loop-row.invariant e c.in_ok-add_beside.ensures

pub returns : goal.returns
returns c = added_end _ _ _ c.loop-row.invariant (joined_none _ (rows_end c.args.rows.now c.loop-row.row-index (omega arith)) (rows_in c.args.others.now))
