-- What the conditions of a store mean once a number is written over a gap in its nodes.
use Rattle.std.proofs.Common.{◌≡◌, ◌≢◌, ℕ, zero, suc, ◌+◌, ◌*◌, ◌<◌, ◌≤◌, ◌⊎◌, Bool, true, false, cond as if, ◌&&◌, eqb, List, get_or, refl, sym, ◌∙◌, ap, inl, inr, arith}
use Rattle.std.proofs.lemmas.Bool.{cases_lt, lt-ltb, le-ltb}
use Rattle.condition.specs.Cond.{Cond, known, gap, each_cell}
use Rattle.condition.specs.Store.{count, cond_at, comparison, has_name, earlier}
use Rattle.condition.specs.Shapes.{cell_of, node_of, Named}
use Rattle.condition.specs.Nodes.{cell_from, compared, node_from, decoded}
use Rattle.condition.specs.declared.Cell.{Cell}
use Rattle.condition.specs.declared.Cell.TheVariants.{Number, Gap}
use Rattle.condition.specs.declared.Node.{Node}
use Rattle.condition.specs.declared.Node.TheVariants.{Always, Never, Equal, Not, Both, Either}
use Rattle.condition.proofs.Decoding.{at_decoded}
use Rattle.learn.specs.Over.{write_cell, write_cond}
use Rattle.learn.specs.Places.{put_number, over_node, OverNodes}

-- one node more
module _ (k n i : ℕ) (xs ys : List ℕ) (o : OverNodes k n i xs ys) where
  pub nodes_more : (zs : List ℕ) → i < count xs → count zs ≡ count ys → decoded zs i ≡ over_node k n (decoded ys i) → ((j : ℕ) → j ≢ i → decoded zs j ≡ decoded ys j) →
      ((j : ℕ) → (j ≤ 5 * i) ⊎ (1 + 5 * (i + 1) ≤ j) → get_or zs j 0 ≡ get_or ys j 0) → OverNodes k n (i + 1) xs zs
  nodes_more zs l c h others rest = record {
    many = c ∙ o.many;
    written = λ j m. elim (cases_lt j i) [
      | inl p ↦ let ne : j ≢ i = omega arith in others j ne ∙ o.written j p
      | inr p ↦ let e : i ≡ j = omega arith in ap (decoded zs) (sym e) ∙ (h ∙ (ap (over_node k n) (o.others i (omega arith)) ∙ ap (λ t. over_node k n (decoded xs t)) e))
    ];
    others = λ j m. let ne : j ≢ i = omega arith in others j ne ∙ o.others j (omega arith);
    past = λ j m. rest j (inr (omega arith)) ∙ o.past j m;
  }

  -- a node that is as it was
  pub nodes_kept : over_node k n (decoded ys i) ≡ decoded ys i → OverNodes k n (i + 1) xs ys
  nodes_kept e = record {
    many = o.many;
    written = λ j m. elim (cases_lt j i) [
      | inl p ↦ o.written j p
      | inr p ↦ let q : i ≡ j = omega arith in ap (decoded ys) (sym q) ∙ (sym e ∙ (ap (over_node k n) (o.others i (omega arith)) ∙ ap (λ t. over_node k n (decoded xs t)) q))
    ];
    others = λ j m. o.others j (omega arith);
    past = o.past;
  }

-- a node that is read compares only numbers and gaps of the 64
compared_named : (a b : Cell) → Named (compared a b)
compared_named a b = go (has_name (cell_of a)) (has_name (cell_of b)) refl refl
  where
    go : (s t : Bool) → has_name (cell_of a) ≡ s → has_name (cell_of b) ≡ t → Named (if (s && t) (Equal a b) Never)
    go true true e f = (e, f)
    go true false e f = tt
    go false t e f = tt

from_named : (k a b c d : ℕ) → Named (node_from k a b c d)
from_named zero a b c d = tt
from_named (suc zero) a b c d = tt
from_named (suc (suc zero)) a b c d = compared_named (cell_from a b) (cell_from c d)
from_named (suc (suc (suc zero))) a b c d = tt
from_named (suc (suc (suc (suc zero)))) a b c d = tt
from_named (suc (suc (suc (suc (suc k))))) a b c d = tt

module _ (k n : ℕ) where
  put_is : (c : Cell) → cell_of (put_number k n c) ≡ write_cell k n (cell_of c)
  put_is (Number m) = refl
  put_is (Gap j) = go (eqb j k)
    where
      go : (b : Bool) → cell_of (if b (Number n) (Gap j)) ≡ if b (known n) (gap j)
      go true = refl
      go false = refl

  put_named : (c : Cell) → has_name (cell_of c) ≡ true → has_name (write_cell k n (cell_of c)) ≡ true
  put_named (Number m) h = refl
  put_named (Gap j) h = go (eqb j k)
    where
      go : (b : Bool) → has_name (if b (known n) (gap j)) ≡ true
      go true = refl
      go false = h

  compared_over : (a b : Cell) → has_name (cell_of a) ≡ true → has_name (cell_of b) ≡ true →
      comparison (cell_of (put_number k n a)) (cell_of (put_number k n b)) ≡ write_cond k n (comparison (cell_of a) (cell_of b))
  unfolding each_cell
  compared_over a b s t = rw (put_is a, put_is b, put_named a s, put_named b t, s, t) refl

  -- a node written over, where the conditions that it names are
  node_over : (m : Node) (go to : ℕ → Cond) → Named m → ((j : ℕ) → to j ≡ write_cond k n (go j)) → node_of (over_node k n m) to ≡ write_cond k n (node_of m go)
  unfolding each_cell
  node_over Always go to s h = refl
  node_over Never go to s h = refl
  node_over (Equal a b) go to s h = compared_over a b s.0 s.1
  node_over (Not a) go to s h = rw (h a) refl
  node_over (Both a b) go to s h = rw (h a, h b) refl
  node_over (Either a b) go to s h = rw (h a, h b) refl

  earlier_over : (i : ℕ) (go to : ℕ → Cond) → ((j : ℕ) → j < i → to j ≡ write_cond k n (go j)) → (j : ℕ) → earlier i to j ≡ write_cond k n (earlier i go j)
  unfolding each_cell
  earlier_over i go to h j = elim (cases_lt j i) [
    | inl l ↦ rw (lt-ltb j i l) (h j l)
    | inr l ↦ rw (le-ltb j i l) refl
  ]

  module _ (xs ys : List ℕ) (o : OverNodes k n (count xs) xs ys) where
    cond_deep_over : (m j : ℕ) → j < m → j < count xs → cond_at ys j ≡ write_cond k n (cond_at xs j)
    cond_deep_over zero j l s = absurd (omega arith)
    cond_deep_over (suc m) j l s =
        at_decoded ys j (omega (arith, o.many))
        ∙ (ap (λ t. node_of t (earlier j (cond_at ys))) (o.written j s)
        ∙ (node_over (decoded xs j) (earlier j (cond_at xs)) (earlier j (cond_at ys))
        (from_named (get_or xs (1 + 5 * j) 0) (get_or xs (1 + 5 * j + 1) 0) (get_or xs (1 + 5 * j + 2) 0) (get_or xs (1 + 5 * j + 3) 0) (get_or xs (1 + 5 * j + 4) 0))
        (earlier_over j (cond_at xs) (cond_at ys) (λ i p. cond_deep_over m i (omega arith) (omega arith)))
        ∙ ap (write_cond k n) (sym (at_decoded xs j s))))

    -- so the number is in each condition that stood
    pub cond_over : (j : ℕ) → j < count xs → cond_at ys j ≡ write_cond k n (cond_at xs j)
    cond_over j l = cond_deep_over (suc j) j (omega arith) l
