use Rattle.std.proofs.Common.{◌+◌, lit<, length, append-nil, sym, ap, ◌∙◌, arith}
use Rattle.decide.specs.Noting.{gap_noted}
use Rattle.decide.proofs.Counted.{counted_yes, counted_more}
use Rattle.decide.proofs.Passing.{passing_none, passing_yes, passing_no, length-passing_below}
use Rattle.decide.proofs.noting.Notes.gap_names.Goals as goal
use Rattle.decide.proofs.noting.Notes.gap_names.Goals.{then-noted, else-noted}

pub loop-gap-init : goal.loop-gap-init
loop-gap-init c = c.new-names.ensures ∙ sym (passing_none (gap_noted c.args.self.now))

pub push-requires : goal.push-requires
push-requires c =
    let p = gap_noted c.args.self.now in (
      lit< tt,
      omega (
        arith,
        ap length c.loop-gap.invariant,
        length-passing_below c.loop-gap.gap p,
        counted_yes c.loop-gap.gap p c.if-noted.true,
        counted_more (c.loop-gap.gap + 1) 64 p (omega arith),
        length-passing_below 64 p,
        c.requires,
      ),
    )

pub loop-gap-preserved : goal.loop-gap-preserved
loop-gap-preserved c =
    let p = gap_noted c.args.self.now in
    elim c.if-noted.branch [
      | then-noted w ↦ rw (w.names-is, w.push.ensures.items, c.loop-gap.invariant) (sym (passing_yes c.loop-gap.gap p w.if-noted.true))
      | else-noted w ↦ rw w.names-is (c.loop-gap.invariant ∙ (sym (append-nil _) ∙ sym (passing_no c.loop-gap.gap p w.if-noted.false)))
    ]
