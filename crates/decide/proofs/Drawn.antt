-- What decides a row, copied: the cells that are drawn on.
use Rattle.std.proofs.Common.{◌≡◌, ℕ, zero, suc, ◌+◌, ◌*◌, ◌<◌, ◌≤◌, Bool, true, false, cond as if, ◌&&◌, List, ◌++◌, map, get_or, drop, refl, arith}
use Rattle.std.proofs.lemmas.Bool.{and_parts}
use Rattle.condition.specs.Cond.{known, Cond, cells_of, numbers_in, Within}
use Rattle.condition.specs.Store.{has_name, count, cond_at}
use Rattle.condition.specs.Shapes.{cell_of, Named}
use Rattle.condition.specs.Nodes.{cell_from, compared, node_from, decoded}
use Rattle.condition.specs.declared.Cell.{Cell}
use Rattle.condition.specs.declared.Node.TheVariants.{Never, Equal}
use Rattle.condition.proofs.Lists.{has_left, has_right}
use Rattle.condition.proofs.Decoding.{at_decoded}
use Rattle.list.specs.Layout.{line_size, lines_named}
use Rattle.list.specs.Lists.{Line, Row}
use Rattle.list.proofs.Reading.{line_named}
use Rattle.decide.specs.Deciding.{cells_in_lines, conds_in_lines}
use Rattle.decide.specs.Folding.{DrawsAll}
use Rattle.decide.specs.Matching.{node_at}
use Rattle.decide.specs.Reaching.{Covers, AllCovered}
use Rattle.decide.specs.Showing.{row_cells}
use Rattle.decide.specs.Standing.{named_cells}
use Rattle.decide.specs.Surveying.{numbers_met, gaps_met}
use Rattle.decide.proofs.Coverage.{covers_both, covers_right, covers_self, covers_more}
use Rattle.decide.proofs.Folded.{draws_node}
use Rattle.decide.proofs.Reached.{own_covered}
use Rattle.decide.proofs.Surveyed.{row_covered}

-- a node that was read compares only gaps of the 64
compared_named : (a b : Cell) → Named (compared a b)
compared_named a b = go (has_name (cell_of a) && has_name (cell_of b)) refl
  where
    go : (t : Bool) → (has_name (cell_of a) && has_name (cell_of b)) ≡ t → Named (if t (Equal a b) Never)
    go true e = and_parts (has_name (cell_of a)) (has_name (cell_of b)) e
    go false e = tt

pub from_named : (k a b c d : ℕ) → Named (node_from k a b c d)
from_named zero a b c d = tt
from_named (suc zero) a b c d = tt
from_named (suc (suc zero)) a b c d = compared_named (cell_from a b) (cell_from c d)
from_named (suc (suc (suc zero))) a b c d = tt
from_named (suc (suc (suc (suc zero)))) a b c d = tt
from_named (suc (suc (suc (suc (suc k))))) a b c d = tt

-- where marked nodes are covered, so are the cells that each compares
pub draws_all : (ns gs nodes : List ℕ) (n : ℕ) (ms : List Bool) → n ≤ count nodes → AllCovered ns gs nodes n ms → DrawsAll nodes n ms ns gs
draws_all ns gs nodes n ms s a i l h =
    draws_node ns gs (decoded nodes i) (from_named (get_or nodes (1 + 5 * i) 0) (get_or nodes (1 + 5 * i + 1) 0) (get_or nodes (1 + 5 * i + 2) 0) (get_or nodes (1 + 5 * i + 3) 0) (get_or nodes (1 + 5 * i + 4) 0))
    (own_covered ns gs (decoded nodes i) i (cond_at nodes) (rw (at_decoded nodes i (omega arith)) at (a i l h)))

-- the cells that the condition for a row compares are among those that decide it
pub row_met : (what : Cond) (ls : List Line) (row : Row) → Covers (numbers_met what ls row) (gaps_met what ls) (row_cells ls row)
unfolding Within
row_met what ls row =
    let m : Covers (numbers_met what ls row) (gaps_met what ls) (named_cells what ls) =
    covers_more (numbers_in (named_cells what ls)) (numbers_met what ls row) (gaps_met what ls) (gaps_met what ls) (named_cells what ls) (λ n h. has_left (numbers_in (named_cells what ls)) row n h) (λ n h. h) (covers_self (named_cells what ls)) in
    covers_both (numbers_met what ls row) (gaps_met what ls) (cells_in_lines ls) (map known row)
    (covers_right (numbers_met what ls row) (gaps_met what ls) (conds_in_lines ls) (cells_in_lines ls) (covers_right (numbers_met what ls row) (gaps_met what ls) (cells_of what) (conds_in_lines ls ++ cells_in_lines ls) m))
    (row_covered (numbers_met what ls row) (gaps_met what ls) row (λ n h. has_right (numbers_in (named_cells what ls)) row n h))

-- the node of a line stands
pub node_below : (c n w : ℕ) (answer : List ℕ) (k : ℕ) → lines_named c n w answer ≡ true → k < n → node_at w answer k < c
node_below c n w answer k h l =
    let z : 0 + k * line_size w ≡ k * line_size w = omega arith in line_named c n w k 0 answer (drop (k * line_size w) answer) l (rw z refl) h
