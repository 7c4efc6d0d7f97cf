use Rattle.std.proofs.Common.{rules, ◌≡◌, false, take, count_by, sym, refl, ◌∙◌}
use Rattle.std.proofs.iter.runs.Made.{chains}
use Rattle.decide.specs.Reaching.{marked}
use Rattle.decide.proofs.Counted.{counted_along}
use Rattle.decide.proofs.coning.count_marks.Goals as goal

pub returns : goal.returns
returns c =
    let n = c.args.n in let marks = c.args.marks.now in
    let e : c.count.result ≡ count_by (λ b. b) (take n marks) = search (rules, chains) in
    e ∙ sym (counted_along n (marked marks) (λ b. b) marks false c.requires (λ k l. refl))
