use Rattle.std.proofs.Common.{◌≡◌, sym, ◌∙◌, arith, rules}
use Rattle.std.specs.List.{count_by}
use Rattle.decide.proofs.Passing.{length-passing_true}
use Rattle.decide.proofs.noting.Notes.count_gaps.Goals as goal

pub returns : goal.returns
returns c =
    let e : c.count.result ≡ count_by (λ b. b) c.args.self.now.gaps = search rules in
    e ∙ sym (length-passing_true c.args.self.now.gaps 64 (omega arith))
