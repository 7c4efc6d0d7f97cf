-- Laws of `Means`: conditions built in a cone one after the other.
use Rattle.std.proofs.Common.{◌≡◌, ℕ, zero, suc, ◌+◌, ◌-◌, ◌*◌, ◌<◌, ◌≤◌, Bool, true, false, cond as if, List, [], ◌∷◌, ◌++◌, map, length, get_or, drop, refl, ap, ◌∙◌, mul-le-mul_right, suc-mul, arith}
use Rattle.condition.specs.Cond.{known, Cond, always, never, equal, both, either}
use Rattle.condition.specs.Cond as conditions
use Rattle.std.proofs.lemmas.List.{drop_all}
use Rattle.condition.specs.Store.{cell_in, count, cond_at, Grown}
use Rattle.condition.specs.Shapes.{cell_of}
use Rattle.condition.specs.declared.Cell.{Cell}
use Rattle.condition.specs.declared.Cell.TheVariants.{Number}
use Rattle.condition.specs.declared.Node.TheVariants.{Equal, Both, Either}
use Rattle.condition.proofs.Growing.{grown_self, grown_trans, grown_cond}
use Rattle.evaluate.specs.Filling.{Filling, holds}
use Rattle.evaluate.proofs.Holding.{holds_equal, holds_both, holds_either}
use Rattle.list.specs.Layout.{line_size, cells_in}
use Rattle.list.specs.Lists.{Line}
use Rattle.decide.specs.Deciding.{gives, shows, agrees, deciding, cells_in_lines}
use Rattle.decide.specs.Matching.{cells_at, node_at, deciding_from}
use Rattle.decide.specs.Reaching.{Covers}
use Rattle.decide.specs.Folding.{Begun, Built}
use Rattle.decide.specs.Showing.{Means, Placed, row_cells, nodes_for}
use Rattle.decide.specs.Sought.{lines_of, deciding_of}
use Rattle.decide.specs.declared.sought.Sought.{Sought}
use Rattle.decide.proofs.Coverage.{covers_both, covers_left, covers_right}
use Rattle.decide.proofs.Agreeing.{drop_back, cells_none, cells_back}
use Rattle.decide.proofs.Looked.{from_none, line_here, from_pass, from_more}

-- always and never stand in every cone
pub means_always : (xs : List ℕ) → Begun xs → Means xs xs 0 [] always 0
means_always xs b = record {
  grown = grown_self xs b.fits;
  few = omega arith;
  stands = omega (arith, b.two);
  value = λ v. ap (holds v) b.first;
  covered = λ ns gs c i. c;
}

pub means_never : (xs : List ℕ) → Begun xs → Means xs xs 0 [] never 1
means_never xs b = record {
  grown = grown_self xs b.fits;
  few = omega arith;
  stands = omega (arith, b.two);
  value = λ v. ap (holds v) b.second;
  covered = λ ns gs c i. c;
}

-- one comparison more
pub means_equal : (xs ys zs us : List ℕ) (most : ℕ) (cs : List conditions.Cell) (c : Cond) (r : ℕ) → Means xs ys most cs c r →
    (a b : Cell) (e f : ℕ) → Built ys zs (Equal a b) e → Built zs us (Both e r) f →
    (ds : List conditions.Cell) → ((ns gs : List ℕ) → Covers ns gs ds → Covers ns gs (cell_of a ∷ (cell_of b ∷ [])) × Covers ns gs cs) →
    Means xs us (most + 2) ds (both (equal (cell_of a) (cell_of b)) c) f
means_equal xs ys zs us most cs c r m a b e f p q ds split = record {
  grown = grown_trans xs ys us m.grown (grown_trans ys zs us p.grown q.grown);
  few = omega (arith, m.few, p.few, q.few);
  stands = q.stands;
  value = λ v.
      let g : cond_at zs r ≡ cond_at ys r = grown_cond ys zs p.grown r m.stands in
      let h : holds v (cond_at zs r) ≡ holds v c = ap (holds v) g ∙ m.value v in
      q.value v ∙ cc (p.value v, h, holds_both v (equal (cell_of a) (cell_of b)) c, holds_equal v (cell_of a) (cell_of b));
  covered = λ ns gs o i. q.covered ns gs (p.covered ns gs (m.covered ns gs o (split ns gs i).1) (split ns gs i).0) tt;
}

-- one line more
pub means_line : (xs ys zs us ts : List ℕ) (most more : ℕ) (cs es : List conditions.Cell) (c g h : Cond) (r p e f d : ℕ) →
    Means xs ys most cs c r → p < count xs → ((v : Filling) → holds v (cond_at xs p) ≡ holds v h) → Means ys zs more es g e →
    Built zs us (Both p e) f → Built us ts (Either f r) d →
    (ds : List conditions.Cell) → ((ns gs : List ℕ) → Covers ns gs ds → Covers ns gs es × Covers ns gs cs) →
    Means xs ts (most + (more + 2)) ds (either (both h g) c) d
means_line xs ys zs us ts most more cs es c g h r p e f d m s k o b i ds split = record {
  grown = grown_trans xs ys ts m.grown (grown_trans ys zs ts o.grown (grown_trans zs us ts b.grown i.grown));
  few = omega (arith, m.few, o.few, b.few, i.few);
  stands = i.stands;
  value = λ v.
      let x : cond_at zs p ≡ cond_at xs p = grown_cond xs zs (grown_trans xs ys zs m.grown o.grown) p s in
      let y : cond_at us r ≡ cond_at ys r = grown_cond ys us (grown_trans ys zs us o.grown b.grown) r m.stands in
      let l : holds v (cond_at zs p) ≡ holds v h = ap (holds v) x ∙ k v in
      let n : holds v (cond_at us r) ≡ holds v c = ap (holds v) y ∙ m.value v in
      i.value v ∙ cc (b.value v, l, n, o.value v, holds_either v (both h g) c, holds_both v h g);
  covered = λ ns gs w j. i.covered ns gs (b.covered ns gs (o.covered ns gs (m.covered ns gs w (split ns gs j).1) (split ns gs j).0) tt) tt;
}

-- the cells of a line and the numbers of a row, one of each before the others
covers_pair : (ns gs : List ℕ) (c d : conditions.Cell) (cs ds : List conditions.Cell) → Covers ns gs ((c ∷ cs) ++ (d ∷ ds)) → Covers ns gs (c ∷ (d ∷ [])) × Covers ns gs (cs ++ ds)
covers_pair ns gs c d cs ds i =
    let x : Covers ns gs (c ∷ []) = covers_left ns gs (c ∷ []) (cs ++ (d ∷ ds)) i in
    let y : Covers ns gs (cs ++ (d ∷ ds)) = covers_right ns gs (c ∷ []) (cs ++ (d ∷ ds)) i in
    let z : Covers ns gs (d ∷ ds) = covers_right ns gs cs (d ∷ ds) y in (
      covers_both ns gs (c ∷ []) (d ∷ []) x (covers_left ns gs (d ∷ []) ds z),
      covers_both ns gs cs ds (covers_left ns gs cs (d ∷ ds) y) (covers_right ns gs (d ∷ []) ds z),
    )

-- a line's cells are those of a row, from the last to the first
pub record Giving (xs ys : List ℕ) (line row : List ℕ) (a r : ℕ) : Type 0 where
  pub means : Means xs ys (2 * (length row - a)) (drop a (cells_in (length row) (drop 1 line)) ++ map known (drop a row)) (gives (drop a (cells_in (length row) (drop 1 line))) (drop a row)) r

pub giving_none : (xs line row : List ℕ) → Begun xs → Giving xs xs line row (length row) 0
unfolding gives
giving_none xs line row b =
    let e : 2 * (length row - length row) ≡ 0 = omega arith in
    record { means = rw (e, cells_none (length row) (drop 1 line), drop_all (length row) row (omega arith)) (means_always xs b) }

pub giving_more : (xs ys zs us line row : List ℕ) (a r e f : ℕ) (d : Cell) → 0 < a → a ≤ length row → Giving xs ys line row a r →
    cell_of d ≡ cell_in (get_or line (1 + 2 * (a - 1)) 0) (get_or line (2 + 2 * (a - 1)) 0) →
    Built ys zs (Equal d (Number (get_or row (a - 1) 0))) e → Built zs us (Both e r) f → Giving xs us line row (a - 1) f
unfolding gives
giving_more xs ys zs us line row a r e f d p l g i b o =
    let k : 2 * (length row - (a - 1)) ≡ 2 * (length row - a) + 2 = omega arith in
    record {
      means = rw (k, cells_back (length row) a line (cell_of d) p l i, drop_back row a 0 p l)
          (means_equal xs ys zs us (2 * (length row - a)) _ _ r g.means d (Number (get_or row (a - 1) 0)) e f b o _
          (λ ns gs j. covers_pair ns gs (cell_of d) (known (get_or row (a - 1) 0)) (drop a (cells_in (length row) (drop 1 line))) (map known (drop a row)) j));
    }

pub record Showing (xs ys : List ℕ) (q : Sought) (places : List ℕ) (i r : ℕ) : Type 0 where
  pub grown : Grown xs ys
  pub stands : r < count ys
  pub few : count ys ≤ count xs + nodes_for (length q.row.now) (deciding_from q i)
  pub means : Placed xs q places →
      Means xs ys (nodes_for (length q.row.now) (deciding_from q i)) (row_cells (deciding_from q i) q.row.now) (shows (deciding_from q i) q.row.now) r

pub showing_none : (xs : List ℕ) (q : Sought) (places : List ℕ) → Begun xs → Showing xs xs q places q.lines 1
unfolding shows cells_in_lines
showing_none xs q places b =
    let m : Means xs xs 0 [] never 1 = means_never xs b in
    record {
      grown = m.grown;
      stands = m.stands;
      few = rw (from_none q) (omega arith);
      means = λ p. rw (from_none q) (record {
        grown = m.grown;
        few = omega arith;
        stands = m.stands;
        value = m.value;
        covered = λ ns gs c i. c;
      });
    }

pub showing_pass : (xs ys : List ℕ) (q : Sought) (places : List ℕ) (i r : ℕ) → 0 < i → i ≤ q.lines → agrees (cells_at (length q.row.now) q.answer.now (i - 1)) q.row.now ≡ false →
    Showing xs ys q places i r → Showing xs ys q places (i - 1) r
showing_pass xs ys q places i r p l h s = record {
  grown = s.grown;
  stands = s.stands;
  few = rw (from_pass q i p l h) s.few;
  means = λ o. rw (from_pass q i p l h) (s.means o);
}

-- the cells for a line and those for the others
covers_line : (ns gs : List ℕ) (cs ds es : List conditions.Cell) → Covers ns gs ((cs ++ ds) ++ es) → Covers ns gs (cs ++ es) × Covers ns gs (ds ++ es)
covers_line ns gs cs ds es i =
    let x : Covers ns gs (cs ++ ds) = covers_left ns gs (cs ++ ds) es i in
    let y : Covers ns gs es = covers_right ns gs (cs ++ ds) es i in (
      covers_both ns gs cs es (covers_left ns gs cs ds x) y,
      covers_both ns gs ds es (covers_right ns gs cs ds x) y,
    )

pub showing_more : (xs ys zs us ts : List ℕ) (q : Sought) (places : List ℕ) (i r e f d : ℕ) → 0 < i → i ≤ q.lines → agrees (cells_at (length q.row.now) q.answer.now (i - 1)) q.row.now ≡ true →
    get_or places (node_at (length q.row.now) q.answer.now (i - 1)) 0 < count xs → Showing xs ys q places i r →
    Means ys zs (2 * length q.row.now) (cells_at (length q.row.now) q.answer.now (i - 1) ++ map known q.row.now) (gives (cells_at (length q.row.now) q.answer.now (i - 1)) q.row.now) e →
    Built zs us (Both (get_or places (node_at (length q.row.now) q.answer.now (i - 1)) 0) e) f → Built us ts (Either f r) d →
    Showing xs ts q places (i - 1) d
unfolding shows cells_in_lines
showing_more xs ys zs us ts q places i r e f d p l h k s g b o = record {
  grown = grown_trans xs ys ts s.grown (grown_trans ys zs ts g.grown (grown_trans zs us ts b.grown o.grown));
  stands = o.stands;
  few = rw (from_more q i p l h) (omega (arith, s.few, g.few, b.few, o.few, suc-mul (length (deciding_from q i)) (2 * length q.row.now + 2)));
  means = λ o₂.
      let z : nodes_for (length q.row.now) (line_here q (i - 1) ∷ deciding_from q i) ≡ nodes_for (length q.row.now) (deciding_from q i) + (2 * length q.row.now + 2) =
      suc-mul (length (deciding_from q i)) (2 * length q.row.now + 2) in
      rw (from_more q i p l h, z)
      (means_line xs ys zs us ts (nodes_for (length q.row.now) (deciding_from q i)) (2 * length q.row.now) (row_cells (deciding_from q i) q.row.now)
      (cells_at (length q.row.now) q.answer.now (i - 1) ++ map known q.row.now) (shows (deciding_from q i) q.row.now) (gives (cells_at (length q.row.now) q.answer.now (i - 1)) q.row.now) (cond_at q.nodes.now (node_at (length q.row.now) q.answer.now (i - 1)))
      r (get_or places (node_at (length q.row.now) q.answer.now (i - 1)) 0) e f d (s.means o₂) k (o₂ (i - 1) (omega arith) h) g b o
      (row_cells (line_here q (i - 1) ∷ deciding_from q i) q.row.now)
      (λ ns gs j. covers_line ns gs (cells_at (length q.row.now) q.answer.now (i - 1)) (cells_in_lines (deciding_from q i)) (map known q.row.now) j));
}

-- fewer lines decide among fewer
deciding_drop : (ls : List Line) (row : List ℕ) (i : ℕ) → length (deciding (drop i ls) row) ≤ length (deciding ls row)
unfolding deciding
deciding_drop [] row zero = omega arith
deciding_drop [] row (suc i) = omega arith
deciding_drop (l ∷ ls) row zero = omega arith
deciding_drop (l ∷ ls) row (suc i) = go (deciding_drop ls row i) (agrees l.cells row)
  where
    go : length (deciding (drop i ls) row) ≤ length (deciding ls row) → (b : Bool) → length (deciding (drop i ls) row) ≤ length (if b (l ∷ deciding ls row) (deciding ls row))
    go h true = omega arith
    go h false = h

-- where a line decides, there is room for what it takes
pub room_here : (q : Sought) (i : ℕ) → 0 < i → i ≤ q.lines → agrees (cells_at (length q.row.now) q.answer.now (i - 1)) q.row.now ≡ true →
    nodes_for (length q.row.now) (deciding_from q i) + (2 * length q.row.now + 2) ≤ nodes_for (length q.row.now) (deciding_of q)
room_here q i p l h =
    let e : length (deciding_from q (i - 1)) ≡ suc (length (deciding_from q i)) = ap length (from_more q i p l h) in
    let m : suc (length (deciding_from q i)) ≤ length (deciding_of q) = omega (arith, deciding_drop (lines_of q) q.row.now (i - 1)) in
    omega (arith, mul-le-mul_right (2 * length q.row.now + 2) m, suc-mul (length (deciding_from q i)) (2 * length q.row.now + 2))
