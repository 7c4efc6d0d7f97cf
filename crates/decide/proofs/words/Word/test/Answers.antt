use Rattle.std.proofs.Common.{ℕ, ◌/◌, ◌%◌, ◌^◌, get_or, eqb, ap}
use Rattle.std.proofs.lemmas.Nat.{and_mask}
use Rattle.decide.specs.Bit.{lane}
use Rattle.decide.proofs.words.Word.test.Goals as goal

pub returns : goal.returns
unfolding lane
returns c = ap (λ (z : ℕ). eqb z 1) (and_mask (get_or c.args.self.bits (c.args.k / 64) 0 / 2 ^ (c.args.k % 64)) 1)
