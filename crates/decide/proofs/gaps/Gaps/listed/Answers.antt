use Rattle.std.proofs.Common.{◌≡◌, length, get_or, sym, ◌∙◌, arith, take_all}
use Rattle.condition.specs.Cond.{has}
use Rattle.decide.proofs.Listing.{has_any, collected_still, collected_more, collected_within}
use Rattle.decide.proofs.gaps.Gaps.listed.Goals as goal
use Rattle.decide.proofs.gaps.Gaps.listed.Goals.{then-not-contains, else-not-contains}

pub loop-gap-preserved : goal.loop-gap-preserved
loop-gap-preserved c =
    let ks = c.args.gaps.now in let i = c.loop-gap.gap-index in let names = c.loop-gap.names.items in
    let is : has names (get_or ks i 0) ≡ c.contains.result = sym (has_any names (get_or ks i 0)) ∙ sym (rw c.deref.ensures.0 at c.contains.ensures.value) in
    elim c.if-not-contains.branch [
      | then-not-contains w ↦ rw (w.names-is, w.push.ensures.items) (collected_more ks i names (omega arith) c.loop-gap.invariant (c.requires.low i (omega arith)) (is ∙ w.if-not-contains.true))
      | else-not-contains w ↦ rw w.names-is (collected_still ks i names (omega arith) c.loop-gap.invariant (is ∙ w.if-not-contains.false))
    ]

pub returns-clause-all : goal.returns-clause-all
returns-clause-all c =
    let e : c.loop-gap.gap-index ≡ length c.args.gaps.now = omega arith in
    collected_within c.args.gaps.now c.loop-gap.names.items (rw e at c.loop-gap.invariant)

pub returns-clause-same : goal.returns-clause-same
returns-clause-same c r =
    let e : c.loop-gap.gap-index ≡ length c.args.gaps.now = omega arith in
    (rw e at c.loop-gap.invariant).same r ∙ take_all (length c.args.gaps.now) c.args.gaps.now (omega arith)
