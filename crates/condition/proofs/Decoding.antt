-- Laws of reading numbers as cells and nodes.
use Rattle.std.proofs.Common.{◌≡◌, ℕ, zero, suc, ◌+◌, ◌*◌, ◌<◌, Bool, true, false, ◌&&◌, ltb, List, get_or, drop, sym, refl, ap, ◌∙◌}
use Rattle.std.proofs.lemmas.Bool.{and_parts}
use Rattle.condition.specs.Cond.{Cond}
use Rattle.condition.specs.Store.{cell_in, comparison, has_name, node, node_in, earlier, count, cond_at}
use Rattle.condition.specs.Shapes.{cell_of, node_of}
use Rattle.condition.specs.Nodes.{cell_from, compared, node_from, decoded, behind, StandsAs}
use Rattle.condition.specs.declared.Cell.{Cell}
use Rattle.condition.specs.declared.Node.{Node}
use Rattle.condition.specs.declared.Node.TheVariants.{Always, Never, Equal, Not, Both, Either}
use Rattle.condition.proofs.Fuel.{at_unrolled, node_behind}

cell_from_is : (t n : ℕ) → cell_of (cell_from t n) ≡ cell_in t n
cell_from_is zero n = refl
cell_from_is (suc t) n = refl

compared_is : (a b : Cell) (go : ℕ → Cond) → node_of (compared a b) go ≡ comparison (cell_of a) (cell_of b)
compared_is a b go = go_by (has_name (cell_of a) && has_name (cell_of b)) refl
  where
    go_by : (t : Bool) → (has_name (cell_of a) && has_name (cell_of b)) ≡ t → node_of (compared a b) go ≡ comparison (cell_of a) (cell_of b)
    go_by true e = rw e (rw e refl)
    go_by false e = rw e refl

-- the node that five numbers are read as has their condition
pub node_from_is : (k a b c d : ℕ) (go : ℕ → Cond) → node_of (node_from k a b c d) go ≡ node k a b c d go
node_from_is zero a b c d go = refl
node_from_is (suc zero) a b c d go = refl
node_from_is (suc (suc zero)) a b c d go = compared_is (cell_from a b) (cell_from c d) go ∙ rw (cell_from_is a b, cell_from_is c d) refl
node_from_is (suc (suc (suc zero))) a b c d go = refl
node_from_is (suc (suc (suc (suc zero)))) a b c d go = refl
node_from_is (suc (suc (suc (suc (suc k))))) a b c d go = refl

pub decoded_is : (nodes : List ℕ) (i : ℕ) (go : ℕ → Cond) → node_of (decoded nodes i) go ≡ node_in (drop 1 nodes) i go
decoded_is nodes i go =
    node_from_is (get_or nodes (1 + 5 * i) 0) (get_or nodes (1 + 5 * i + 1) 0) (get_or nodes (1 + 5 * i + 2) 0) (get_or nodes (1 + 5 * i + 3) 0) (get_or nodes (1 + 5 * i + 4) 0) go
    ∙ sym (node_behind nodes i go)

-- the condition of a node that stands, from its node and the conditions before it
pub at_decoded : (nodes : List ℕ) (i : ℕ) → i < count nodes → cond_at nodes i ≡ node_of (decoded nodes i) (earlier i (cond_at nodes))
at_decoded nodes i l = at_unrolled nodes i l ∙ sym (decoded_is nodes i (earlier i (cond_at nodes)))

-- behind all that it names, a node reads none of it as never
pub behind_reads : (n : Node) (i : ℕ) (go : ℕ → Cond) → behind n i ≡ true → node_of n (earlier i go) ≡ node_of n go
behind_reads Always i go h = refl
behind_reads Never i go h = refl
behind_reads (Equal a b) i go h = refl
behind_reads (Not a) i go h = rw h refl
behind_reads (Both a b) i go h = let p = and_parts (ltb a i) (ltb b i) h in rw (p.0, p.1) refl
behind_reads (Either a b) i go h = let p = and_parts (ltb a i) (ltb b i) h in rw (p.0, p.1) refl

-- so a node that stands behind all that it names means there what it means
pub stands_means : (nodes : List ℕ) (i : ℕ) (n : Node) → StandsAs nodes i n → cond_at nodes i ≡ node_of n (cond_at nodes)
stands_means nodes i n s =
    at_decoded nodes i s.stands ∙ (ap (λ t. node_of t (earlier i (cond_at nodes))) s.same ∙ behind_reads n i (cond_at nodes) s.after)
