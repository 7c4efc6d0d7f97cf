use Rattle.std.proofs.Common.{sym, arith, rules}
use Rattle.std.proofs.lemmas.List.{take_rest}
use Rattle.list.specs.Layout.{list_fits}
use Rattle.list.proofs.Fitting.{at_each}
use Rattle.list.proofs.Telling.{told_empty, told_unfit, told_fit, told_short}
use Rattle.list.proofs.fits.check_lists.Goals as goal

pub returns-then-lists-eq0 : goal.returns-then-lists-eq0
returns-then-lists-eq0 c = record { refusal = sym (told_empty c.args.lists.now (omega arith)); value = tt }

pub returns-then-lists-eq1 : goal.returns-then-lists-eq1
returns-then-lists-eq1 c = record { refusal = sym (told_short c.args.lists.now (omega arith) (omega arith) (omega arith)); value = tt }

pub returns-then-fitting-count : goal.returns-then-fitting-count
returns-then-fitting-count c = record {
  refusal = sym (told_unfit c.args.lists.now c.passing-fitting.result (omega arith) (omega arith) (simp take_rest at (c.passing-fitting.ensures list_fits (λ front size p. search rules))) (λ e. omega arith));
  value = tt;
}

pub returns : goal.returns
returns c = let e = simp take_rest at (c.passing-fitting.ensures list_fits (λ front size p. search rules)) in record {
  refusal = sym (told_fit c.args.lists.now (omega arith) (omega arith) (cc));
  value = omega arith;
}

pub passing-fitting-requires-clause-callable : goal.passing-fitting-requires-clause-callable
passing-fitting-requires-clause-callable c = at_each _ (λ ys front e. tt) _ _
