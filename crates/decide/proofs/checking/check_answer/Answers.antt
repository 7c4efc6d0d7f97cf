use Rattle.std.proofs.Common.{sym, ◌∙◌, arith}
use Rattle.list.proofs.Fitting.{fitted, all_named}
use Rattle.decide.proofs.checking.check_answer.Goals as goal

pub returns-clause-value : goal.returns-clause-value
returns-clause-value c =
    let v = c.in_ok-count.ensures.value in record {
      all = v.0;
      store = v.2;
      small = v.1;
      long = omega (arith, (fitted c.args.lists.now (sym c.in_ok-check_lists.ensures.refusal)).long);
      known = (all_named c.args.lists.now c.in_ok-count.count (sym c.in_ok-check_named.ensures.refusal)).1;
      whole = rw c.if-whole-n.false at c.whole_lines-whole.ensures.inside;
      cells = rw c.if-whole-n.false at (sym c.any_lines_fit.ensures ∙ c.if-not-any_lines_fit.false);
      named = rw c.if-whole-n.false at (sym c.any_lines_named.ensures ∙ c.if-not-any_lines_named.false);
    }
