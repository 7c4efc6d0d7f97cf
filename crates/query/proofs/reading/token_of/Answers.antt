use Rattle.std.proofs.Common.{◌≡◌, ◌≤◌, length, get_or, take, drop, ap, arith, length-take}
use Rattle.query.proofs.Tokens.{at_front, list_sign, same_sign, differ_sign, is_sign, is_not_sign, columns_sign, join_sign, union_sign, without_sign, other_sign, four, cut_is}
use Rattle.query.proofs.reading.token_of.Goals as goal

pub returns-in-0 : goal.returns-in-0
returns-in-0 c xs e =
    let f = at_front xs c.args.six e in
    rw (f 1 (omega arith)) (list_sign xs (omega (arith, f 0 (omega arith))))

pub returns-in-1 : goal.returns-in-1
returns-in-1 c xs e =
    let f = at_front xs c.args.six e in
    rw (f 1 (omega arith), f 2 (omega arith)) (same_sign xs (omega (arith, f 0 (omega arith))))

pub returns-in-2 : goal.returns-in-2
returns-in-2 c xs e =
    let f = at_front xs c.args.six e in
    rw (f 1 (omega arith), f 2 (omega arith)) (differ_sign xs (omega (arith, f 0 (omega arith))))

pub returns-in-3 : goal.returns-in-3
returns-in-3 c xs e =
    let f = at_front xs c.args.six e in
    rw (f 1 (omega arith), f 2 (omega arith)) (is_sign xs (omega (arith, f 0 (omega arith))))

pub returns-in-4 : goal.returns-in-4
returns-in-4 c xs e =
    let f = at_front xs c.args.six e in
    rw (f 1 (omega arith), f 2 (omega arith)) (is_not_sign xs (omega (arith, f 0 (omega arith))))

pub returns-in-5 : goal.returns-in-5
returns-in-5 c xs e =
    let six = c.args.six in let f = at_front xs six e in
    let n : length (take 6 xs) ≡ length six = ap length e in
    let l : 6 ≤ length xs = omega (arith, n, length-take 6 xs) in (
      get_or six 1 0,
      take (get_or six 1 0) (drop 2 xs),
      rw (f 1 (omega arith)) (columns_sign xs (omega (arith, f 0 (omega arith)))),
      cut_is c.of.result _ _ _ c.of.ensures (λ m. rw (f 2 (omega arith), f 3 (omega arith), f 4 (omega arith), f 5 (omega arith)) (four xs (get_or six 1 0) l m)),
    )

pub returns-in-6 : goal.returns-in-6
returns-in-6 c xs e = join_sign xs (omega (arith, at_front xs c.args.six e 0 (omega arith)))

pub returns-in-7 : goal.returns-in-7
returns-in-7 c xs e = union_sign xs (omega (arith, at_front xs c.args.six e 0 (omega arith)))

pub returns-in-8 : goal.returns-in-8
returns-in-8 c xs e = without_sign xs (omega (arith, at_front xs c.args.six e 0 (omega arith)))

pub returns-in_default : goal.returns-in_default
returns-in_default c xs e = other_sign xs (omega (arith, at_front xs c.args.six e 0 (omega arith)))
