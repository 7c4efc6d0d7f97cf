use Rattle.std.proofs.Common.{◌≡◌, ◌-◌, ◌/◌, ◌%◌, ◌^◌, ◌<◌, get_or, ap, ◌∙◌, rules}
use Rattle.decide.specs.Bit.{bit, lane}
use Rattle.decide.proofs.Bits64.{bit_not}
use Rattle.decide.proofs.Fours.{place, low}
use Rattle.decide.proofs.words.WordNot.not.Goals as goal

pub returns : goal.returns
unfolding lane
returns c l h =
    let a = get_or c.args.self.bits (l / 64) 0 in
    let fits : get_or c.args.self.bits (l / 64) 0 < 2 ^ 64 = let w = c.well_formed in search rules in
    let e : get_or c.map.result (l / 64) 0 ≡ 2 ^ 64 - 1 - get_or c.args.self.bits (l / 64) 0 = let w = c.map.ensures.items.at (l / 64) 0 0 (place l h) in search rules in
    ap (bit (l % 64)) e ∙ bit_not 64 (l % 64) _ (low l) fits
