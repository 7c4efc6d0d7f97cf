use Rattle.std.proofs.Common.{◌-◌, ◌/◌, ◌%◌, ◌^◌, sym, ap, ◌∙◌}
use Rattle.std.proofs.lemmas.List.{get_or-replicate}
use Rattle.decide.specs.Bit.{bit, lane}
use Rattle.decide.proofs.Bits64.{bit_none, bit_all}
use Rattle.decide.proofs.Fours.{place, low}
use Rattle.decide.proofs.words.Word.same.Goals as goal

pub returns-then-answer : goal.returns-then-answer
unfolding lane
returns-then-answer c l h = ap (bit (l % 64)) (get_or-replicate 4 (l / 64) (2 ^ 64 - 1) 0 (place l h)) ∙ (bit_all 64 (l % 64) (low l) ∙ sym c.if-answer.true)

pub returns-else-answer : goal.returns-else-answer
unfolding lane
returns-else-answer c l h = ap (bit (l % 64)) (get_or-replicate 4 (l / 64) 0 0 (place l h)) ∙ (bit_none (l % 64) ∙ sym c.if-answer.false)
