use Rattle.std.proofs.Common.{inr, refl, sym, ◌∙◌, ◌<◌, ◌≤◌, length, arith, rules}
use Rattle.learn.proofs.Numbering.{gap_lines, lists_long, decide_number, possible_number, impossible_number, numbered}
use Rattle.learn.proofs.over.check_number.Goals as goal

pub bounds-lists-1 : goal.bounds-lists-1
bounds-lists-1 c =
    let k : c.args.gap < 64 = omega arith in
    let l : 2 ≤ length c.args.lists.now = lists_long c.args.lists.now c.args.nodes.now c.args.gap c.args.number c.in_ok-check.ensures.refusal k in search rules

pub returns-in_err-standing-clause-refusal : goal.returns-in_err-standing-clause-refusal
returns-in_err-standing-clause-refusal c =
    let k : c.args.gap < 64 = omega arith in
    let h = rw (decide_number c.args.lists.now c.args.nodes.now c.args.gap c.args.number c.in_ok-check.ensures.refusal k _ c.in_ok-room.ensures.value c.if-room-lt2.false) at (rw c.from-cell.ensures at c.in_err-standing.ensures.refusal) in search rules

pub returns-then-not-is_possible-clause-refusal : goal.returns-then-not-is_possible-clause-refusal
returns-then-not-is_possible-clause-refusal c =
    let k : c.args.gap < 64 = omega arith in
    let e = decide_number c.args.lists.now c.args.nodes.now c.args.gap c.args.number c.in_ok-check.ensures.refusal k _ c.in_ok-room.ensures.value c.if-room-lt2.false in
    let r = rw c.from-cell.ensures at c.in_ok-standing.ensures.refusal in
    let d = rw (c.from-cell.ensures, gap_lines c.args.lists.now c.args.nodes.now c.args.gap c.args.number) at c.in_ok-standing.ensures.decided in
    inr (sym e ∙ r, refl, impossible_number c.args.lists.now c.args.nodes.now c.args.gap c.args.number c.in_ok-standing.standing d (sym c.is_possible.ensures ∙ c.if-not-is_possible.true))

pub returns-clause-refusal : goal.returns-clause-refusal
returns-clause-refusal c =
    let k : c.args.gap < 64 = omega arith in
    let e = decide_number c.args.lists.now c.args.nodes.now c.args.gap c.args.number c.in_ok-check.ensures.refusal k _ c.in_ok-room.ensures.value c.if-room-lt2.false in
    let r = rw c.from-cell.ensures at c.in_ok-standing.ensures.refusal in sym e ∙ r

pub returns-clause-numbered : goal.returns-clause-numbered
returns-clause-numbered c =
    let k : c.args.gap < 64 = omega arith in
    let d = rw (c.from-cell.ensures, gap_lines c.args.lists.now c.args.nodes.now c.args.gap c.args.number) at c.in_ok-standing.ensures.decided in
    numbered c.args.lists.now c.args.nodes.now c.args.gap c.args.number c.in_ok-check.ensures.refusal k _ c.in_ok-room.ensures.value c.if-room-lt2.false
    (possible_number c.args.lists.now c.args.nodes.now c.args.gap c.args.number c.in_ok-standing.standing d (sym c.is_possible.ensures ∙ c.if-not-is_possible.false))
