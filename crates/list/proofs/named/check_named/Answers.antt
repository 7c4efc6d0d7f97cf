use Rattle.std.proofs.Common.{sym, arith, rules}
use Rattle.std.proofs.lemmas.List.{take_rest}
use Rattle.list.specs.Layout.{list_named}
use Rattle.list.proofs.Fitting.{fitted, at_fitting}
use Rattle.list.proofs.Telling.{named_list, named_known, named_all}
use Rattle.list.proofs.named.check_named.Goals as goal

pub slice_bounds-passing-count : goal.slice_bounds-passing-count
slice_bounds-passing-count c = omega (arith, (fitted c.args.lists.now c.requires).long)

pub slice_bounds-passing-start : goal.slice_bounds-passing-start
slice_bounds-passing-start c = omega (arith, (fitted c.args.lists.now c.requires).long)

pub passing-named-requires-clause-callable : goal.passing-named-requires-clause-callable
passing-named-requires-clause-callable c =
    at_fitting _ (λ ys f front e. rw e f) _ _ (rw take_rest (fitted c.args.lists.now c.requires).passed)

pub returns-then-named-lists : goal.returns-then-named-lists
returns-then-named-lists c = record {
  refusal = sym (named_list c.args.lists.now c.args.count c.passing-named.result (simp take_rest at (c.passing-named.ensures (list_named c.args.count) (λ front size p. search rules))) (λ e. omega arith));
  value = tt;
}

pub bounds-lists-1 : goal.bounds-lists-1
bounds-lists-1 c = omega (arith, (fitted c.args.lists.now c.requires).long)

pub returns-then-lists-count : goal.returns-then-lists-count
returns-then-lists-count c = record {
  refusal = sym (named_known c.args.lists.now c.args.count c.passing-named.result (simp take_rest at (c.passing-named.ensures (list_named c.args.count) (λ front size p. search rules))) (omega arith) (omega arith));
  value = tt;
}

pub returns : goal.returns
returns c = record {
  refusal = sym (named_all c.args.lists.now c.args.count c.passing-named.result (simp take_rest at (c.passing-named.ensures (list_named c.args.count) (λ front size p. search rules))) (omega arith) (omega arith));
  value = omega arith;
}
