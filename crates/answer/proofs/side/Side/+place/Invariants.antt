use Rattle.answer.proofs.side.Side.+place.Given as goal

abbrev pub decreases-place : goal.decreases-place
decreases-place l = l.self.now.left
