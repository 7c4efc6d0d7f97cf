use Rattle.std.proofs.Common.{◌≡◌, ◌+◌, ◌*◌, ◌<◌, ◌≤◌, true, length, arith, rules}
use Rattle.condition.specs.Store.{count, stands}
use Rattle.condition.proofs.Decoding.{decoded_is, at_decoded}
use Rattle.condition.proofs.Standing.{fits_from, stands_from}
use Rattle.condition.proofs.store.read_node.Goals as goal

pub returns : goal.returns
returns c =
    let nodes = c.args.nodes.now in let i = c.args.i in let e = c.nth_node.ensures.read in
    let v : (c.in_ok-count.count ≡ count nodes) × (c.in_ok-count.count ≤ 131072) × (1 + 5 * c.in_ok-count.count ≤ length nodes) = search rules in
    let l : i < count nodes = omega (arith, v.0) in
    let s : stands nodes i ≡ true = stands_from nodes i (fits_from nodes (omega (arith, v.0, v.1)) (omega (arith, v.0, v.2))) l in
    record {
      read = rw (s, e);
      is = λ go. rw e (decoded_is nodes i go);
      condition = rw e (at_decoded nodes i l);
      named = c.nth_node.ensures.named;
    }
