use Rattle.std.proofs.Common.{◌≡◌, true, false, rules, tests}
use Rattle.std.proofs.lemmas.Iterator.{first_from_Range}
use Rattle.condition.specs.Cond.{has}
use Rattle.decide.proofs.Listing.{has_any}
use Rattle.decide.proofs.Pools.{least_found}
use Rattle.decide.proofs.pool.least_other.Goals as goal

pub returns : goal.returns
returns c =
    let ns = c.args.numbers.now in
    least_found ns c.find.result c.unwrap_or.result
    (first_from_Range _ _ _ _ (λ i. has ns i ≡ false) (λ i. has ns i ≡ true) c.find.ensures.ran
    (λ x q k. let e = has_any ns x in search (rules, tests))
    (λ x q k. let e = has_any ns x in (search rules, search (rules, tests))))
    c.unwrap_or.ensures
