use Rattle.std.proofs.Common.{◌≡◌, ℕ, ◌+◌, ◌-◌, ◌*◌, ◌≤◌, length, get_or, drop, refl, arith}
use Rattle.std.proofs.lemmas.List.{take_rest}
use Rattle.condition.specs.Store.{count}
use Rattle.condition.proofs.Added.{counted, numbered, grown, added}
use Rattle.condition.proofs.Growing.{grown_cond}
use Rattle.condition.proofs.adding.add.Goals as goal

pub returns : goal.returns
returns c =
    let xs = c.args.nodes.now in let ys = c.write.new.front in
    let s : length ys ≡ length xs - (1 + 5 * count xs) = omega arith in
    let p : (k : ℕ) → 5 ≤ k → get_or ys k 0 ≡ get_or (drop (1 + 5 * count xs) xs) k 0 = rw take_rest at c.write.ensures.past in
    let g = grown xs ys c.requires s p in
    record {
      place = refl;
      count = counted xs ys c.requires s;
      numbers = numbered xs ys c.requires s c.args.node c.write.ensures.new;
      grown = g;
      stays = grown_cond xs _ g;
      new = added xs ys c.requires s c.args.node c.write.ensures.new;
    }
