use Rattle.std.proofs.Common.{◌≡◌, ◌/◌, ◌%◌, get_or, ap, ◌∙◌, rules}
use lib.Bits.{bit_or}
use Rattle.decide.specs.Bit.{bit, lane}
use Rattle.decide.proofs.Bits64.{bit-or}
use Rattle.decide.proofs.Fours.{place}
use Rattle.decide.proofs.words.WordBitOr.bitor.Goals as goal

pub returns : goal.returns
unfolding lane
returns c l h =
    let e : get_or c.from_fn.result (l / 64) 0 ≡ bit_or (get_or c.args.self.bits (l / 64) 0) (get_or c.args.other.bits (l / 64) 0) = let w = c.from_fn.ensures.items.at (l / 64) 0 (place l h) in search rules in
    ap (bit (l % 64)) e ∙ bit-or (l % 64) _ _
