-- Laws of `cond_deep` and `cond_at`: read deep enough, a node has one condition, and it comes from those of the nodes before it.
use Rattle.std.proofs.Common.{◌≡◌, ℕ, zero, suc, ◌+◌, ◌*◌, ◌<◌, ◌≤◌, List, get_or, drop, sym, refl, ap, ◌∙◌, inl, inr, add-zero, arith}
use Rattle.std.proofs.lemmas.List.{get_or-drop}
use Rattle.std.proofs.lemmas.Bool.{cases_lt, lt-ltb, le-ltb}
use Rattle.condition.specs.Cond.{Cond, never, not_so}
use Rattle.condition.specs.Store.{node, node_in, earlier, cond_deep, count, cond_at}

-- a node looks at what it names alone
pub node_same : (k a b c d : ℕ) (go to : ℕ → Cond) → ((j : ℕ) → go j ≡ to j) → node k a b c d go ≡ node k a b c d to
node_same zero a b c d go to h = refl
node_same (suc zero) a b c d go to h = refl
node_same (suc (suc zero)) a b c d go to h = refl
node_same (suc (suc (suc zero))) a b c d go to h = ap not_so (h a)
node_same (suc (suc (suc (suc zero)))) a b c d go to h = rw (h a, h b) refl
node_same (suc (suc (suc (suc (suc k))))) a b c d go to h = rw (h a, h b) refl

pub earlier_same : (i : ℕ) (go to : ℕ → Cond) → ((j : ℕ) → j < i → go j ≡ to j) → (j : ℕ) → earlier i go j ≡ earlier i to j
earlier_same i go to h j = elim (cases_lt j i) [
  | inl l ↦ rw (lt-ltb j i l) (h j l)
  | inr l ↦ rw (le-ltb j i l) refl
]

pub node_in_same : (xs : List ℕ) (i : ℕ) (go to : ℕ → Cond) → ((j : ℕ) → j < i → go j ≡ to j) → node_in xs i (earlier i go) ≡ node_in xs i (earlier i to)
node_in_same xs i go to h =
    node_same (get_or xs (5 * i) 0) (get_or xs (5 * i + 1) 0) (get_or xs (5 * i + 2) 0) (get_or xs (5 * i + 3) 0) (get_or xs (5 * i + 4) 0) (earlier i go) (earlier i to)
    (earlier_same i go to h)

-- enough is enough
pub fuel : (n m : ℕ) (xs : List ℕ) (i : ℕ) → i < n → i < m → cond_deep n xs i ≡ cond_deep m xs i
unfolding cond_deep
fuel zero m xs i p q = absurd (omega arith)
fuel (suc n) zero xs i p q = absurd (omega arith)
fuel (suc n) (suc m) xs i p q =
    node_in_same xs i (λ j. cond_deep n xs j) (λ j. cond_deep m xs j) (λ j l. fuel n m xs j (omega arith) (omega arith))

-- the condition of node i, from those of the nodes before it
pub unrolled : (xs : List ℕ) (i : ℕ) → cond_deep (suc i) xs i ≡ node_in xs i (earlier i (λ j. cond_deep (suc j) xs j))
unfolding cond_deep
unrolled xs i = node_in_same xs i (λ j. cond_deep i xs j) (λ j. cond_deep (suc j) xs j) (λ j l. fuel i (suc j) xs j l (omega arith))

-- stores with the same numbers up to node i have the same condition there
pub deep_same : (n : ℕ) (xs ys : List ℕ) (i : ℕ) → ((k : ℕ) → k < 5 * i + 5 → get_or xs k 0 ≡ get_or ys k 0) → cond_deep n xs i ≡ cond_deep n ys i
unfolding cond_deep
deep_same zero xs ys i h = refl
deep_same (suc n) xs ys i h =
    node_in_same xs i (λ j. cond_deep n xs j) (λ j. cond_deep n ys j) (λ j l. deep_same n xs ys j (λ k m. h k (omega arith)))
    ∙ rw (h (5 * i) (omega arith), h (5 * i + 1) (omega arith), h (5 * i + 2) (omega arith), h (5 * i + 3) (omega arith), h (5 * i + 4) (omega arith)) refl

-- a node that stands
pub at_within : (nodes : List ℕ) (i : ℕ) → i < count nodes → cond_at nodes i ≡ cond_deep (suc i) (drop 1 nodes) i
unfolding cond_at
at_within nodes i l = rw (lt-ltb i (count nodes) l) refl

-- a node that does not
pub at_past : (nodes : List ℕ) (i : ℕ) → count nodes ≤ i → cond_at nodes i ≡ never
unfolding cond_at
at_past nodes i l = rw (le-ltb i (count nodes) l) refl

-- the condition of a node that stands, from those of the nodes before it
pub at_unrolled : (nodes : List ℕ) (i : ℕ) → i < count nodes → cond_at nodes i ≡ node_in (drop 1 nodes) i (earlier i (cond_at nodes))
at_unrolled nodes i l =
    at_within nodes i l
    ∙ (unrolled (drop 1 nodes) i
    ∙ node_in_same (drop 1 nodes) i (λ j. cond_deep (suc j) (drop 1 nodes) j) (cond_at nodes) (λ j m. sym (at_within nodes j (omega arith))))

-- the five numbers of node i, told by those at the front of ys
pub node_five : (xs ys : List ℕ) (i : ℕ) → ((k : ℕ) → get_or xs (5 * i + k) 0 ≡ get_or ys k 0) → (go : ℕ → Cond)
    → node_in xs i go ≡ node (get_or ys 0 0) (get_or ys 1 0) (get_or ys 2 0) (get_or ys 3 0) (get_or ys 4 0) go
node_five xs ys i h go = let e : get_or xs (5 * i) 0 ≡ get_or ys 0 0 = ap (λ t. get_or xs t 0) (sym (add-zero (5 * i))) ∙ h 0 in rw (e, h 1, h 2, h 3, h 4) refl

-- the five numbers of node i, where the count stands before them
pub node_behind : (nodes : List ℕ) (i : ℕ) (go : ℕ → Cond)
    → node_in (drop 1 nodes) i go
    ≡ node (get_or nodes (1 + 5 * i) 0) (get_or nodes (1 + 5 * i + 1) 0) (get_or nodes (1 + 5 * i + 2) 0) (get_or nodes (1 + 5 * i + 3) 0) (get_or nodes (1 + 5 * i + 4) 0) go
node_behind nodes i go =
    rw (get_or-drop 1 nodes (5 * i) 0, one 1, one 2, one 3, one 4) refl
  where
    one : (k : ℕ) → get_or (drop 1 nodes) (5 * i + k) 0 ≡ get_or nodes (1 + 5 * i + k) 0
    one k = let e : 1 + (5 * i + k) ≡ 1 + 5 * i + k = omega arith in get_or-drop 1 nodes (5 * i + k) 0 ∙ ap (λ t. get_or nodes t 0) e
