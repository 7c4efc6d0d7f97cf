use Rattle.std.proofs.Common.{◌≡◌, ◌*◌, ◌<◌, get_or, sym, ◌∙◌, arith}
use Rattle.std.proofs.lemmas.Bool.{ltb-true}
use Rattle.condition.specs.Store.{count}
use Rattle.list.specs.Layout.{line_size}
use Rattle.list.proofs.Reading.{lines_named_at}
use Rattle.learn.proofs.Leaving.{dropped_none, next_left, next_kept}
use Rattle.learn.proofs.dropping.drop_never.Goals as goal
use Rattle.learn.proofs.dropping.drop_never.Goals.{then-not-is_never, else-not-is_never}

pub loop-i-init : goal.loop-i-init
loop-i-init c = dropped_none c.args.nodes.now c.args.w c.args.answer.now

pub is_never-requires : goal.is_never-requires
is_never-requires c =
    let i = c.loop-i.i in let xs = c.args.answer.now in
    let named : get_or xs (i * line_size c.args.w) 0 < count c.args.nodes.now = ltb-true _ _ (lines_named_at (count c.args.nodes.now) c.args.n c.args.w i xs c.loop-i-test.true c.requires.named) in
    let same : get_or c.loop-i.answer (i * line_size c.args.w) 0 ≡ get_or xs (i * line_size c.args.w) 0 = c.loop-i.invariant.past (i * line_size c.args.w) (omega arith) in
    (rw (c.line_size-size.ensures, same) named, c.requires.store)

pub loop-i-preserved : goal.loop-i-preserved
loop-i-preserved c =
    let ns = c.args.nodes.now in let w = c.args.w in let i = c.loop-i.i in let xs = c.args.answer.now in let m = c.loop-i.kept in let ys = c.loop-i.answer in
    elim c.if-not-is_never.branch [
      | then-not-is_never b ↦ rw (b.kept-is, b.answer-is)
          (next_kept ns w i xs m ys c.loop-i.invariant (rw c.line_size-size.ensures at (sym c.is_never.ensures ∙ b.if-not-is_never.true)) b.move_down.new.numbers (rw c.line_size-size.ensures at b.move_down.ensures))
      | else-not-is_never b ↦ rw (b.kept-is, b.answer-is)
          (next_left ns w i xs m ys c.loop-i.invariant (rw c.line_size-size.ensures at (sym c.is_never.ensures ∙ b.if-not-is_never.false)))
    ]

pub returns : goal.returns
returns c = let e : c.loop-i.i ≡ c.args.n = omega arith in rw (← e) c.loop-i.invariant
