use Rattle.std.proofs.Common.{◌≡◌, ℕ, ◌+◌, true, false, None, arith, rules}
use borrow.Author.Tests.{tests}
use Rattle.std.proofs.lemmas.Iterator.{YieldsList-from_slice, first_from_find}
use Rattle.std.proofs.lemmas.Iterator.Consumers.{YieldsList-from_enumerate}
use Rattle.std.proofs.lemmas.List.FromFn.{length-enumerate_from, get_or-enumerate_from}
use Rattle.decide.specs.Bit.{wide}
use Rattle.decide.specs.Rows.{blank}
use Rattle.decide.specs.declared.rows.Row.{Row}
use Rattle.decide.proofs.search.first.Goals as goal

pub returns-in_err-row : goal.returns-in_err-row
returns-in_err-row c =
    let xs = c.args.rows.now.list.items in
    let f = first_from_find _ _ None (λ (p : ℕ × Row). wide c.args.lanes p.0 ≡ true) (λ (p : ℕ × Row). wide c.args.lanes p.0 ≡ false) c.in_err-row.ensures.ran
    (YieldsList-from_enumerate (YieldsList-from_slice xs (cc)) (cc)) (λ x q k. search (rules, tests)) (λ x q k. search (rules, tests)) in
    rw c.from_residual.ensures (λ l h. let e : 0 + l ≡ l = omega arith in rw (get_or-enumerate_from 0 xs l (0, blank) h, e) at (f l (0, blank) (omega arith) (omega (arith, length-enumerate_from 0 xs))))
