use Rattle.std.proofs.Common.{◌≡◌, suc, [], refl, arith, rules}
use Rattle.std.proofs.lemmas.List.{take_rest}
use Rattle.list.specs.Lines.{starts, lines_left}
use Rattle.list.proofs.Lined.{length_starts, starts_last}
use Rattle.list.proofs.lines.LinesDoubleEndedIterator.next_back.Goals as goal

pub returns-in_err-last-clause-steps : goal.returns-in_err-last-clause-steps
unfolding starts
returns-in_err-last-clause-steps c =
    let z : c.args.self.now.count ≡ 0 = search rules in
    let e : lines_left c.args.self.now ≡ [] = rw z refl in
    rw c.from_residual.ensures (e, e)

pub returns-clause-steps : goal.returns-clause-steps
returns-clause-steps c =
    let s = c.args.self.now in
    let z : s.count ≡ suc c.in_ok-last.last = search rules in
    rw (z, take_rest, c.line_size.ensures) (starts_last c.in_ok-last.last s.width s.rest.now)

pub returns-clause-goes : goal.returns-clause-goes
returns-clause-goes c =
    let s = c.args.self.now in
    let z : s.count ≡ suc c.in_ok-last.last = search rules in
    record { on = λ f. (tt, f, omega (arith, length_starts s.count s.width s.rest.now, length_starts c.in_ok-last.last s.width s.rest.now)); keeps = tt; rests = λ f. tt }
