use Rattle.std.proofs.Common.{◌≡◌, ◌-◌, [], ◌∷◌, drop, arith}
use Rattle.condition.specs.Shapes.{cell_of}
use Rattle.list.specs.Layout.{cells_in}
use Rattle.decide.proofs.Agreeing.{cells_none, cells_back, cell_named}
use Rattle.decide.proofs.Noted.{notes_before}
use Rattle.decide.proofs.noting.Notes.note_line.Goals as goal

pub loop-a-init : goal.loop-a-init
loop-a-init c = rw (cells_none c.args.line.now.width (drop 1 c.args.line.now.numbers.now)) (λ ds h. h)

pub note-requires : goal.note-requires
note-requires c = rw c.cell.ensures (cell_named c.args.line.now.width (c.loop-a.a - 1) c.args.line.now.numbers.now (omega arith) c.requires)

pub loop-a-preserved : goal.loop-a-preserved
loop-a-preserved c =
    rw (cells_back c.args.line.now.width c.loop-a.a c.args.line.now.numbers.now (cell_of c.cell.result) c.loop-a-test.true (omega arith) c.cell.ensures)
    (notes_before (cell_of c.cell.result ∷ []) (drop c.loop-a.a (cells_in c.args.line.now.width (drop 1 c.args.line.now.numbers.now))) c.args.self.now c.loop-a.self c.note.new.self c.loop-a.invariant c.note.ensures)

pub returns : goal.returns
returns c = let e : c.loop-a.a ≡ 0 = omega arith in rw e at c.loop-a.invariant
