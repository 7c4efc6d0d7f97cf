use Rattle.std.proofs.Common.{sym, ◌∙◌}
use Rattle.learn.proofs.Lined.{told_seven}
use Rattle.learn.proofs.tidying_lines.check_lines.Goals as goal

pub returns-then-whole-n-clause-refusal : goal.returns-then-whole-n-clause-refusal
returns-then-whole-n-clause-refusal c =
    told_seven c.args.nodes.now c.args.answer.now c.args.n c.args.w c.whole_lines-whole.result c.in_ok-count.ensures.refusal c.whole_lines-whole.ensures.is
    (rw c.in_ok-count.ensures.value.0 at (sym c.any_lines_named.ensures ∙ c.if-not-any_lines_named.false)) c.if-whole-n.true
