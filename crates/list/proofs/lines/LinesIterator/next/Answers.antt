use Rattle.std.proofs.Common.{◌≡◌, suc, [], length, refl, ap, arith, rules}
use Rattle.std.proofs.lemmas.List.{take_rest}
use Rattle.list.specs.Lines.{starts, lines_left}
use Rattle.list.proofs.lines.LinesIterator.next.Goals as goal

pub returns-in_err-count-clause-steps : goal.returns-in_err-count-clause-steps
unfolding starts
returns-in_err-count-clause-steps c =
    let z : c.args.self.now.count ≡ 0 = search rules in
    let e : lines_left c.args.self.now ≡ [] = rw z refl in
    rw c.from_residual.ensures (e, e)

pub returns-clause-steps : goal.returns-clause-steps
unfolding starts
returns-clause-steps c =
    let z : c.args.self.now.count ≡ suc c.in_ok-count.count = search rules in
    rw (z, take_rest, c.line_size.ensures) refl

pub returns-clause-goes : goal.returns-clause-goes
returns-clause-goes c = record { on = λ f. (tt, f, omega (arith, ap length (returns-clause-steps c))); keeps = tt; rests = λ f. tt }
