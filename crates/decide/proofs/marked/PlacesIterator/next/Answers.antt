use Rattle.std.proofs.Common.{◌≡◌, true, false, length, Some, None, ap, arith, rules}
use borrow.Author.Tests.{tests}
use Rattle.std.proofs.lemmas.Iterator.{first_from_Range}
use Rattle.decide.specs.Marked.{places_left}
use Rattle.decide.specs.Reaching.{marked}
use Rattle.decide.proofs.Places.{left_all, left_first}
use Rattle.decide.proofs.marked.PlacesIterator.next.Goals as goal

pub returns-in_err-place-clause-steps : goal.returns-in_err-place-clause-steps
unfolding places_left
returns-in_err-place-clause-steps c =
    let s = c.args.self.now in
    let p = marked s.marks.now in
    let f = first_from_Range _ _ _ None (λ k. p k ≡ true) (λ k. p k ≡ false) c.in_err-place.ensures.ran (λ x q k. search (rules, tests)) (λ x q k. search (rules, tests)) in
    let e = left_all p s.at s.n f in
    rw c.from_residual.ensures (e, e)

pub returns-clause-steps : goal.returns-clause-steps
unfolding places_left
returns-clause-steps c =
    let s = c.args.self.now in
    let p = marked s.marks.now in
    let f = first_from_Range _ _ _ (Some c.in_ok-place.place) (λ k. p k ≡ true) (λ k. p k ≡ false) c.in_ok-place.ensures.ran (λ x q k. search (rules, tests)) (λ x q k. search (rules, tests)) in
    left_first p s.at c.in_ok-place.place s.n f.0 f.1 f.2 f.3

pub returns-clause-goes : goal.returns-clause-goes
returns-clause-goes c = record { on = λ f. (tt, f, omega (arith, ap length (returns-clause-steps c))); keeps = tt; rests = λ f. tt }
