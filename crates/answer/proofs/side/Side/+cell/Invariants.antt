use Rattle.answer.proofs.side.Side.+cell.Given as goal

abbrev pub decreases-cell : goal.decreases-cell
decreases-cell l = l.self.now.left
