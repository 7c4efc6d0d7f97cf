use Rattle.answer.proofs.side.Side.+lay.Given as goal

abbrev pub decreases-lay : goal.decreases-lay
decreases-lay l = l.self.now.left
