use Rattle.std.proofs.Common.{◌≡◌, ℕ, ◌+◌, ◌*◌, ◌≤◌, length, get_or, drop, ◌∙◌, inl, inr, arith}
use Rattle.std.proofs.lemmas.List.{take_rest}
use Rattle.condition.proofs.Added.{five_decoded}
use Rattle.condition.proofs.Replaced.{rest_at, rest_same, others_same}
use Rattle.condition.proofs.replacing.set_node.Goals as goal

pub returns-clause-read : goal.returns-clause-read
returns-clause-read c =
    let xs = c.args.nodes.now in let l : 1 + 5 * c.args.i ≤ length xs = omega arith in
    five_decoded _ c.args.i c.args.node (λ k m. rest_at (1 + 5 * c.args.i) xs c.write.new.front k l ∙ c.write.ensures.new k m)

pub returns-clause-others : goal.returns-clause-others
returns-clause-others c j ne =
    let xs = c.args.nodes.now in let ys = c.write.new.front in let l : 1 + 5 * c.args.i ≤ length xs = omega arith in
    let p : (k : ℕ) → 5 ≤ k → get_or ys k 0 ≡ get_or (drop (1 + 5 * c.args.i) xs) k 0 = rw take_rest at c.write.ensures.past in
    others_same xs _ c.args.i j
    (λ k o. elim o [
      | inl m ↦ rest_same (1 + 5 * c.args.i) xs ys l p k (inl (omega arith))
      | inr m ↦ rest_same (1 + 5 * c.args.i) xs ys l p k (inr (omega arith))
    ]) ne
