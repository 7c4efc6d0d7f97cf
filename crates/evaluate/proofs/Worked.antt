-- Nodes and what they come to: what a node says of those before it is its condition.
use Rattle.std.proofs.Common.{◌≡◌, ℕ, ◌<◌, ◌≤◌, Bool, false, not, List, ◌++◌, length, get_or, take, sym, refl, ap, ◌∙◌, inl, inr}
use Rattle.std.proofs.lemmas.Bool.{cases_lt, lt-ltb, le-ltb}
use Rattle.std.proofs.lemmas.List.{get_or-take, get_or_append_left}
use Rattle.condition.specs.Cond.{Cond}
use Rattle.condition.specs.Store.{earlier, count, cond_at}
use Rattle.condition.specs.Shapes.{node_of, Named}
use Rattle.condition.specs.Nodes.{decoded}
use Rattle.condition.specs.declared.Node.{Node}
use Rattle.condition.specs.declared.Node.TheVariants.{Always, Never, Equal, Not, Both, Either}
use Rattle.condition.proofs.Fuel.{at_past}
use Rattle.condition.proofs.Decoding.{at_decoded}
use Rattle.evaluate.specs.Filling.{Filling, holds}
use Rattle.evaluate.specs.Values.{value_of}

pub says_itself : (nodes : List ℕ) (i : ℕ) (n : Node) → i < count nodes → n ≡ decoded nodes i → node_of n (earlier i (cond_at nodes)) ≡ cond_at nodes i
says_itself nodes i n l e = ap (λ t. node_of t (earlier i (cond_at nodes))) e ∙ sym (at_decoded nodes i l)

-- behind the last node all of them are earlier
pub earlier_all : (nodes : List ℕ) (p : ℕ) → earlier (count nodes) (cond_at nodes) p ≡ cond_at nodes p
earlier_all nodes p = elim (cases_lt p (count nodes)) [
  | inl l ↦ rw (lt-ltb p (count nodes) l) refl
  | inr l ↦ rw (le-ltb p (count nodes) l) (sym (at_past nodes p l))
]

pub by_node : (v : Filling) (n : Node) → Named n → (bs : ℕ → Bool) (go : ℕ → Cond) → ((j : ℕ) → bs j ≡ holds v (go j)) → value_of v n bs ≡ holds v (node_of n go)
unfolding holds
by_node v Always m bs go h = refl
by_node v Never m bs go h = refl
by_node v (Equal a b) m bs go h = rw (m.0, m.1) refl
by_node v (Not a) m bs go h = ap not (h a)
by_node v (Both a b) m bs go h = rw (h a, h b) refl
by_node v (Either a b) m bs go h = rw (h a, h b) refl

-- a node that does not stand
pub past_right : (v : Filling) (nodes : List ℕ) (i : ℕ) → count nodes ≤ i → false ≡ holds v (cond_at nodes i)
unfolding holds
past_right v nodes i l = rw (at_past nodes i l) refl

-- what was written to the front of a vector is what it holds there
pub refilled_at : (bs rest : List Bool) (n j : ℕ) → j < n → j < length bs → get_or (take n (bs ++ rest)) j false ≡ get_or bs j false
refilled_at bs rest n j l k = get_or-take n (bs ++ rest) j false l ∙ get_or_append_left bs rest false j k
