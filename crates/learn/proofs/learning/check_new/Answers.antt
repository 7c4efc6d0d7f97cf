use Rattle.std.proofs.Common.{inr, refl, sym, ◌∙◌, rules}
use Rattle.learn.proofs.Fitting.{one_line, decide_learn, possible_fits, impossible_none, learnable}
use Rattle.learn.proofs.learning.check_new.Goals as goal

pub returns-in_err-standing-clause-refusal : goal.returns-in_err-standing-clause-refusal
returns-in_err-standing-clause-refusal c =
    let h = rw (decide_learn c.args.lists.now c.args.nodes.now c.args.new c.in_ok-check.ensures.refusal c.if-new-nodes.false _ c.in_ok-room.ensures.value c.if-branch-eq0.false) at c.in_err-standing.ensures.refusal in search rules

pub returns-then-not-is_possible-clause-refusal : goal.returns-then-not-is_possible-clause-refusal
returns-then-not-is_possible-clause-refusal c =
    let e = decide_learn c.args.lists.now c.args.nodes.now c.args.new c.in_ok-check.ensures.refusal c.if-new-nodes.false _ c.in_ok-room.ensures.value c.if-branch-eq0.false in
    let d = rw (one_line c.args.nodes.now c.args.new) at c.in_ok-standing.ensures.decided in
    inr (sym e ∙ c.in_ok-standing.ensures.refusal, refl, impossible_none c.args.lists.now c.args.nodes.now c.args.new c.in_ok-standing.standing d (sym c.is_possible.ensures ∙ c.if-not-is_possible.true))

pub returns-clause-refusal : goal.returns-clause-refusal
returns-clause-refusal c =
    let e = decide_learn c.args.lists.now c.args.nodes.now c.args.new c.in_ok-check.ensures.refusal c.if-new-nodes.false _ c.in_ok-room.ensures.value c.if-branch-eq0.false in
    sym e ∙ c.in_ok-standing.ensures.refusal

pub returns-clause-learnable : goal.returns-clause-learnable
returns-clause-learnable c =
    let d = rw (one_line c.args.nodes.now c.args.new) at c.in_ok-standing.ensures.decided in
    learnable c.args.lists.now c.args.nodes.now c.args.new c.in_ok-check.ensures.refusal c.if-new-nodes.false _ c.in_ok-room.ensures.value c.if-branch-eq0.false
    (possible_fits c.args.lists.now c.args.nodes.now c.args.new c.in_ok-standing.standing d (sym c.is_possible.ensures ∙ c.if-not-is_possible.false))
