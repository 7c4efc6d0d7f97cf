use Rattle.std.proofs.Common.{rules, ◌≡◌, None, Some, sym, ◌∙◌, arith}
use Rattle.std.proofs.lemmas.Option.{none-some, same_Some}
use Rattle.decide.specs.Rows.{place}
use Rattle.decide.proofs.Gathering.{room}
use Rattle.decide.proofs.Listing.{place_back, place_low}
use Rattle.decide.proofs.picking.open_with.Goals as goal

pub returns-in_err-place : goal.returns-in_err-place
returns-in_err-place c =
    let task = c.args.task.now in
    let e : None ≡ place task.pool.items c.args.number = rw c.deref.ensures.0 at c.in_err-place.ensures in
    let more = room task c.args.depth c.requires.deep c.args.row c.requires.begun in
    rw c.from_residual.ensures (λ k o. let p = place_low task.pool.items c.args.number k o.is (omega (arith, o.low, more)) in none-some p.0 (e ∙ p.2))

pub returns-then-place-open : goal.returns-then-place-open
returns-then-place-open c = λ k o.
    let task = c.args.task.now in
    let e : Some c.in_ok-place.place ≡ place task.pool.items c.args.number = rw c.deref.ensures.0 at c.in_ok-place.ensures in
    let more = room task c.args.depth c.requires.deep c.args.row c.requires.begun in
    let p = place_low task.pool.items c.args.number k o.is (omega (arith, o.low, more)) in
    omega (arith, o.low, p.1, same_Some c.in_ok-place.place p.0 (e ∙ p.2), c.if-place-open.true)

pub returns : goal.returns
returns c =
    let task = c.args.task.now in
    let e : Some c.in_ok-place.place ≡ place task.pool.items c.args.number = rw c.deref.ensures.0 at c.in_ok-place.ensures in
    record {
      place = c.in_ok-place.place;
      opens = record { low = c.if-place-open.false; is = (place_back task.pool.items c.args.number c.in_ok-place.place (sym e)).1 };
      goes = search rules;
    }
