use Rattle.std.proofs.Common.{length}
use Rattle.plain_trial.proofs.questions.Signs.+question.Given as goal

abbrev pub decreases-question : goal.decreases-question
decreases-question l = length l.self.now.rest.now
