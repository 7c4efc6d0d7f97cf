-- How many numbers the marked nodes of a store name: at most two a node.
use Rattle.std.proofs.Common.{ℕ, zero, suc, ◌+◌, ◌*◌, ◌≤◌, Bool, true, false, cond as if, ◌&&◌, List, [], ◌∷◌, ◌++◌, length, ⊎_elim, ◌≡◌, arith, length-append}
use Rattle.std.proofs.lemmas.Bool.{cases_Bool}
use Rattle.condition.specs.Cond.{Cell, known, gap, equal, never, cells_of, numbers_in, has}
use Rattle.condition.specs.Store.{has_name}
use Rattle.condition.specs.Shapes.{cell_of}
use Rattle.condition.specs.Nodes.{decoded}
use Rattle.condition.specs.declared.Node.{Node}
use Rattle.condition.specs.declared.Node.TheVariants.{Always, Never, Equal, Not, Both, Either}
use Rattle.condition.proofs.Named.{numbers_app}
use Rattle.decide.specs.Counting.{counted}
use Rattle.decide.specs.Reaching.{own_cells, marked, marked_cells}
use Rattle.decide.proofs.Counted.{counted_listed}
use Rattle.decide.proofs.Passing.{marked_none, marked_more, marked_pass}

numbers_few : (cs : List Cell) → length (numbers_in cs) ≤ length cs
unfolding numbers_in
numbers_few [] = omega arith
numbers_few (known n ∷ cs) = omega (arith, numbers_few cs)
numbers_few (gap k ∷ cs) = omega (arith, numbers_few cs)

own_few : (n : Node) → length (own_cells n) ≤ 2
unfolding cells_of
own_few Always = omega arith
own_few Never = omega arith
own_few (Equal a b) = go (has_name (cell_of a) && has_name (cell_of b))
  where
    go : (t : Bool) → length (cells_of (if t (equal (cell_of a) (cell_of b)) never)) ≤ 2
    go true = omega arith
    go false = omega arith
own_few (Not a) = omega arith
own_few (Both a b) = omega arith
own_few (Either a b) = omega arith

marked_few : (nodes : List ℕ) (ms : List Bool) (n : ℕ) → length (numbers_in (marked_cells nodes ms n)) ≤ 2 * n
unfolding numbers_in
marked_few nodes ms zero = rw (marked_none nodes ms) (omega arith)
marked_few nodes ms (suc n) = let e : suc n ≡ n + 1 = omega arith in rw e (⊎_elim
    (λ h. rw (marked_more nodes ms n h, numbers_app (marked_cells nodes ms n) (own_cells (decoded nodes n)), length-append (numbers_in (marked_cells nodes ms n)) (numbers_in (own_cells (decoded nodes n))))
    (omega (arith, marked_few nodes ms n, numbers_few (own_cells (decoded nodes n)), own_few (decoded nodes n))))
    (λ h. rw (marked_pass nodes ms n h) (omega (arith, marked_few nodes ms n)))
    (cases_Bool (marked ms n)))

-- so many different numbers they and a row name at most
pub counted_marked : (b : ℕ) (nodes : List ℕ) (ms : List Bool) (n : ℕ) (row : List ℕ) → counted b (has (numbers_in (marked_cells nodes ms n) ++ row)) ≤ 2 * n + length row
counted_marked b nodes ms n row =
    omega (arith, counted_listed b (has (numbers_in (marked_cells nodes ms n) ++ row)) (numbers_in (marked_cells nodes ms n) ++ row) (λ k h. h), length-append (numbers_in (marked_cells nodes ms n)) row, marked_few nodes ms n)
