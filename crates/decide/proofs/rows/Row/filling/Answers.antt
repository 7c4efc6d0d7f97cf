use Rattle.std.proofs.Common.{◌≡◌, ◌<◌, length, ap, ◌∙◌, arith}
use Rattle.decide.proofs.Listing.{upto_all, upto_more}
use Rattle.decide.proofs.rows.Row.filling.Goals as goal

pub loop-p-preserved : goal.loop-p-preserved
loop-p-preserved c k =
    let gs = c.args.gaps.now.names.items in let e = c.deref-name-items.ensures.0 in
    let h : c.loop-p.p < length gs = omega (arith, ap length e) in
    rw (c.unwrap-filling.ensures, e) at c.with.ensures.numbers k ∙ upto_more gs c.args.self c.args.gaps.now.distinct c.loop-p.p h k _ (c.loop-p.invariant k)

pub returns : goal.returns
returns c k h =
    let e : c.loop-p.p ≡ length c.args.gaps.now.names.items = omega (arith, ap length c.deref-name-items.ensures.0) in
    rw e at c.loop-p.invariant k ∙ upto_all c.args.gaps.now.names.items c.args.self k
