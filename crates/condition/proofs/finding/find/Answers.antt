use Rattle.std.proofs.Common.{◌≡◌, ◌+◌, ◌*◌, ◌≤◌, length, rules, tests}
use Rattle.std.proofs.lemmas.Iterator.{first_from_Range}
use Rattle.condition.specs.Store.{count}
use Rattle.condition.specs.Nodes.{StandsAs}
use Rattle.condition.proofs.Standing.{first_found, means_found}
use Rattle.condition.proofs.finding.find.Goals as goal

pub returns : goal.returns
returns c =
    let nodes = c.args.nodes.now in let n = c.args.node in
    let v : (c.in_ok-count.count ≡ count nodes) × (c.in_ok-count.count ≤ 131072) × (1 + 5 * c.in_ok-count.count ≤ length nodes) = search rules in
    let h = first_found nodes n c.find.result c.in_ok-count.count v
    (first_from_Range _ _ _ _ (λ i. StandsAs nodes i n) (λ i. StandsAs nodes i n → ⊥) c.find.ensures.ran
    (λ x q k. search (rules, tests))
    (λ x q k. (search rules, search (rules, tests)))) in
    record { found = h; condition = means_found nodes n c.find.result h }
