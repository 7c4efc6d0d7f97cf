use Rattle.std.proofs.Common.{◌≡◌, sym, ◌∙◌, ap, arith, rules, tests}
use Rattle.condition.specs.Nodes.{decoded}
use Rattle.learn.specs.Places.{over_node}
use Rattle.learn.proofs.Nodes.{nodes_more, nodes_kept}
use Rattle.learn.proofs.places.over_nodes.Goals as goal
use Rattle.learn.proofs.places.over_nodes.Goals.{then-ne, else-ne}

pub loop-i-preserved : goal.loop-i-preserved
loop-i-preserved c =
    let k = c.args.gap in let n = c.args.number in let xs = c.args.nodes.now in let i = c.loop-i.i in let ys = c.loop-i.nodes in
    let d : c.nth_node-node.result ≡ decoded ys i = c.nth_node-node.ensures.read in
    let o : c.over_node-over.result ≡ over_node k n (decoded ys i) = c.over_node-over.ensures.is ∙ ap (over_node k n) d in
    elim c.if-ne.branch [
      | then-ne w ↦
          let s = w.set_node.ensures in
          rw w.nodes-is
          (nodes_more k n i xs ys c.loop-i.invariant w.set_node.new.nodes (omega (arith, c.loop-i-test.true)) s.count
          (s.read (c.over_node-over.ensures.named c.nth_node-node.ensures.named) ∙ o) s.others s.rest)
      | else-ne w ↦
          let e : c.over_node-over.result ≡ c.nth_node-node.result = search (rules, tests) in
          rw w.nodes-is (nodes_kept k n i xs ys c.loop-i.invariant (sym o ∙ (e ∙ d)))
    ]
