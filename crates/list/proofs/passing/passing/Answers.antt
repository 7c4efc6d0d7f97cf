use Rattle.std.proofs.Common.{◌≡◌, ◌-◌, ◌≤◌, length, Some, arith, rules, length-drop}
use Rattle.std.proofs.lemmas.List.{take_rest}
use Rattle.list.specs.Layout.{list_size}
use Rattle.list.proofs.Stepping.{at_next, passing_more, passing_stop, passing_all}
use Rattle.list.proofs.passing.passing.Goals as goal

pub loop-t-init : goal.loop-t-init
loop-t-init g c = let e : c.args.k - 0 ≡ c.args.k = omega arith in (rw e c.requires.callable, omega arith, λ ok h. rw e (omega arith))

pub check-requires : goal.check-requires
check-requires g c = search (rules, at_next _ c.args.k c.loop-t.t _ c.loop-t-test.true c.loop-t.invariant.0)

pub returns-in_default : goal.returns-in_default
returns-in_default g c ok h =
    passing_stop ok c.args.k c.loop-t.t _ _ c.loop-t-test.true (search rules) (c.loop-t.invariant.2 ok h)

pub offset_bounds-rest-size : goal.offset_bounds-rest-size
offset_bounds-rest-size g c =
    let s : c.in-Some.size ≤ length c.loop-t.rest.now = (c.requires.sizes c.loop-t.rest (Some c.in-Some.size) c.in-Some.ensures).1 in
    let l : length c.loop-t.rest.now ≤ length c.args.xs.now = c.loop-t.invariant.1 in search rules

pub loop-t-preserved : goal.loop-t-preserved
loop-t-preserved g c =
    let s : c.in-Some.size ≡ list_size c.loop-t.rest.now = (c.requires.sizes c.loop-t.rest (Some c.in-Some.size) c.in-Some.ensures).0 in (
      rw take_rest (rw s (at_next _ c.args.k c.loop-t.t _ c.loop-t-test.true c.loop-t.invariant.0).1),
      rw take_rest (simp length-drop (omega arith)),
      λ ok h.
          rw take_rest
          (passing_more ok c.args.k c.loop-t.t _ c.in-Some.size c.loop-t.rest.now c.loop-t-test.true
          (h c.loop-t.rest (Some c.in-Some.size) c.in-Some.ensures) s (c.loop-t.invariant.2 ok h)),
    )

pub returns : goal.returns
returns g c ok h = passing_all ok c.args.k c.loop-t.t _ _ (omega arith) (omega arith) (c.loop-t.invariant.2 ok h)
