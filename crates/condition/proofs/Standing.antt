-- Laws of `store_fits`, `stands` and `room`: when a slice is a store, and what fits into it.
use Rattle.std.proofs.Common.{◌≡◌, ℕ, ◌+◌, ◌*◌, ◌<◌, ◌≤◌, true, List, length, Some, None, Option, MatchOption, IfSome, arith}
use Rattle.std.proofs.lemmas.Bool.Decides.{nat_tests}
use Rattle.condition.specs.Store.{count, store_fits, stands, cond_at}
use Rattle.condition.specs.Shapes.{node_of}
use Rattle.condition.specs.Nodes.{StandsAs, Found, Lacks}
use Rattle.condition.specs.declared.Node.{Node}
use Rattle.condition.proofs.Decoding.{stands_means}

pub fits_from : (nodes : List ℕ) → count nodes ≤ 131072 → 1 + 5 * count nodes ≤ length nodes → store_fits nodes ≡ true
fits_from nodes a b = grind (arith, nat_tests)

pub stands_from : (nodes : List ℕ) (i : ℕ) → store_fits nodes ≡ true → i < count nodes → stands nodes i ≡ true
stands_from nodes i f l = grind (arith, nat_tests)

-- the first place among those that stand, or none
pub first_found : (nodes : List ℕ) (n : Node) (r : Option ℕ) (c : ℕ) → (c ≡ count nodes) × (c ≤ 131072) × (1 + 5 * c ≤ length nodes)
    → MatchOption r ((k : ℕ) → 0 ≤ k → k < c → StandsAs nodes k n → ⊥) (λ i. (0 ≤ i) × (i < c) × StandsAs nodes i n × ((k : ℕ) → 0 ≤ k → k < i → StandsAs nodes k n → ⊥))
    → MatchOption r (Lacks nodes n) (Found nodes n)
first_found nodes n None c v h = λ f j s. h j (omega arith) (omega (arith, s.stands, v.0)) s
first_found nodes n (Some i) c v h = record { store = fits_from nodes (omega (arith, v.0, v.1)) (omega (arith, v.0, v.2)); here = h.2; lowest = λ j l. h.3 j (omega arith) l }

pub means_found : (nodes : List ℕ) (n : Node) (r : Option ℕ) → MatchOption r (Lacks nodes n) (Found nodes n) → IfSome r (λ i. cond_at nodes i ≡ node_of n (cond_at nodes))
means_found nodes n None h = tt
means_found nodes n (Some i) h = stands_means nodes i n h.here
