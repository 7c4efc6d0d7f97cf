-- The rows of lines whose numbers are all below 2^64, cell by cell and line by line.
use Rattle.std.proofs.Common.{◌≡◌, ℕ, suc, ◌+◌, ◌*◌, ◌^◌, ◌<◌, Bool, true, false, cond as if, All, List, [], ◌∷◌, ◌++◌, length, get_or, take, drop, Some, Option, sym, refl, ap, ◌∙◌, append-nil, ltb, arith}
use Rattle.std.specs.Iterator.{Yields, YieldsFirstBy}
use Rattle.std.proofs.lemmas.Bool.{and_parts, ltb-true, lt-ltb}
use Rattle.std.proofs.lemmas.List.Elements.{All-nil, All-cons, All-head, All-tail, filter-append}
use Rattle.condition.specs.Cond.{Cell, known}
use Rattle.condition.specs.Store.{cell_in, count}
use Rattle.evaluate.specs.Filling.{Filling, fill_cell}
use Rattle.list.specs.Lists.{Row, fill_cells, filled}
use Rattle.list.specs.Layout.{line_size, cells_in, lines_in}
use Rattle.list.specs.Lines.{starts, shown, lines_left}
use Rattle.list.specs.declared.lines.Line.{Line}
use Rattle.list.specs.declared.lines.Lines.{Lines}
use Rattle.list.proofs.Lined.{line_turn}
use Rattle.list.proofs.Filling.{fill_app, fill_at}
use Rattle.list.proofs.Reading.{length_cells, line_cell_at, line_named, filled_kept, filled_left}
use Rattle.evaluate.specs.Values.{WorkedOut}
use Rattle.decide.specs.SureSteps.{is_named, named_rows}
use Rattle.decide.specs.declared.answered.Answered.{Answered}
use Rattle.decide.proofs.Agreeing.{cells_more, cells_all}

pub length_fill : (v : Filling) (cs : List Cell) → length (fill_cells v cs) ≡ length cs
unfolding fill_cells
length_fill v [] = refl
length_fill v (c ∷ cs) = ap suc (length_fill v cs)

-- the number of the next cell
module _ (v : Filling) (w a : ℕ) (line : List ℕ) (d : Cell) (inside : a < w) (is : d ≡ cell_in (get_or line (1 + 2 * a) 0) (get_or line (2 + 2 * a) 0)) where
  pub fill_more : fill_cells v (take (a + 1) (cells_in w (drop 1 line))) ≡ fill_cells v (take a (cells_in w (drop 1 line))) ++ fill_cell v d ∷ []
  unfolding fill_cells
  fill_more = ap (fill_cells v) (cells_more w a line d inside is) ∙ fill_app v (take a (cells_in w (drop 1 line))) (d ∷ [])

  pub fill_here : get_or (fill_cells v (cells_in w (drop 1 line))) a 0 ≡ fill_cell v d
  fill_here = sym (fill_at v (cells_in w (drop 1 line)) a) ∙ ap (fill_cell v) (line_cell_at w a line (known 0) inside ∙ sym is)

pub fill_all : (v : Filling) (w a : ℕ) (xs : List ℕ) → a ≡ w → fill_cells v (take a (cells_in w xs)) ≡ fill_cells v (cells_in w xs)
fill_all v w a xs e = rw (e, cells_all w xs) refl

pub length_row : (v : Filling) (w : ℕ) (xs : List ℕ) → length (fill_cells v (cells_in w xs)) ≡ w
length_row v w xs = length_fill v (cells_in w xs) ∙ length_cells w xs

-- the test of a row, and what it tests
pub named_true : (r : Row) → All (λ n. n < 2 ^ 64) r → is_named r ≡ true
named_true [] h = refl
named_true (n ∷ r) h = rw (lt-ltb n (2 ^ 64) (All-head (λ n. n < 2 ^ 64) n r h), named_true r (All-tail (λ n. n < 2 ^ 64) n r h)) refl

pub named_all : (r : Row) → is_named r ≡ true → All (λ n. n < 2 ^ 64) r
named_all [] h = All-nil (λ n. n < 2 ^ 64)
named_all (n ∷ r) h =
    let k = and_parts (ltb n (2 ^ 64)) (is_named r) h in
    All-cons (λ n. n < 2 ^ 64) n r (ltb-true n (2 ^ 64) k.0) (named_all r k.1)

pub named_false : (r : Row) → (All (λ n. n < 2 ^ 64) r → ⊥) → is_named r ≡ false
named_false r not_all = go (is_named r) refl
  where
    go : (b : Bool) → is_named r ≡ b → is_named r ≡ false
    go true e = absurd (not_all (named_all r e))
    go false e = e

pub named_app : (rs ss : List Row) → named_rows (rs ++ ss) ≡ named_rows rs ++ named_rows ss
unfolding named_rows
named_app rs ss = filter-append is_named rs ss

pub named_none : named_rows [] ≡ []
unfolding named_rows
named_none = refl

named_one : (r : Row) (b : Bool) → is_named r ≡ b → named_rows (r ∷ []) ≡ if b (r ∷ []) []
unfolding named_rows
named_one r b e = rw e refl

-- a line is line i of an answer: as wide, and its node stands
pub record Met (a : Answered) (i : ℕ) (line : Line) : Type 0 where
  pub inside : i < a.lines
  pub wide : line.width ≡ a.width
  pub is : line.numbers.now ≡ drop (i * line_size a.width) a.answer.now
  pub stands : get_or line.numbers.now 0 0 < count a.nodes.now

-- the line at hand of a loop over all lines
pub met_next : (a : Answered) (s t u : Lines) (ys : List Line) (r : Option Line) (line : Line) → lines_left s ≡ starts a.lines a.width a.answer.now →
    Yields (YieldsFirstBy shown lines_left) s ys t → YieldsFirstBy shown lines_left t r u → r ≡ Some line → Met a (length ys) line
met_next a s t u ys r line all before step o =
    let k = line_turn a.lines a.width a.answer.now s t u ys r all before step line o in
    let z : 0 + length ys * line_size a.width ≡ length ys * line_size a.width = omega arith in record {
      inside = k.0;
      wide = k.1.0;
      is = k.1.1;
      stands = line_named (count a.nodes.now) a.lines a.width (length ys) 0 a.answer.now line.numbers.now k.0 (rw z k.1.1) a.named;
    }

-- a line whose node has the value true adds its row if that is named, and one whose node has false adds none
module _ (v : Filling) (nodes : List ℕ) (n w i : ℕ) (xs line : List ℕ) (bs : List Bool) (rows : List Row)
    (inside : i < n) (is : line ≡ drop (i * line_size w) xs) (valued : WorkedOut v nodes (length bs) bs) (below : get_or line 0 0 < length bs)
    (sofar : rows ≡ named_rows (filled v (take i (lines_in nodes n w xs)))) where
  abbrev row : Row
  row = fill_cells v (cells_in w (drop 1 line))

  abbrev before : List Row
  before = filled v (take i (lines_in nodes n w xs))

  -- the rows of the lines up to this one
  abbrev upto : List Row
  upto = named_rows (filled v (take (i + 1) (lines_in nodes n w xs)))

  there : line ≡ drop (0 + i * line_size w) xs
  there = let z : 0 + i * line_size w ≡ i * line_size w = omega arith in rw z is

  one_more : (b : Bool) → is_named row ≡ b → get_or bs (get_or line 0 0) false ≡ true → upto ≡ rows ++ if b (row ∷ []) []
  one_more b e t =
      ap named_rows (sym (filled_kept v nodes n w i 0 xs line bs before inside there valued below refl row refl t))
      ∙ (named_app before (row ∷ []) ∙ rw (sofar, named_one row b e) refl)

  pub named_kept : (r : Row) → r ≡ row → is_named row ≡ true → get_or bs (get_or line 0 0) false ≡ true → rows ++ r ∷ [] ≡ upto
  named_kept r e h t = rw e (sym (one_more true h t))

  pub named_lost : is_named row ≡ false → get_or bs (get_or line 0 0) false ≡ true → rows ≡ upto
  named_lost h t = sym (one_more false h t ∙ append-nil rows)

  pub named_left : get_or bs (get_or line 0 0) false ≡ false → rows ≡ upto
  named_left t = sofar ∙ ap named_rows (filled_left v nodes n w i 0 xs line bs before inside there valued below refl t)
