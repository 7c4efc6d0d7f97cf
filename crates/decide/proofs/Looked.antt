-- The lines of an answer in which a row is looked for: what is known of each, by its place.
use Rattle.std.proofs.Common.{◌≡◌, ℕ, ◌+◌, ◌-◌, ◌*◌, ◌<◌, ◌≤◌, zero, suc, Bool, true, false, cond as if, List, [], ◌∷◌, filter, length, get_or, drop, Some, Option, refl, arith}
use Rattle.std.specs.Iterator.{Yields, YieldsFirstBy, YieldsLastBy}
use Rattle.std.specs.Iterator.Adapters.{rev_source, rev_steps}
use Rattle.std.specs.declared.iter.Rev.{Rev}
use Rattle.std.proofs.lemmas.List.{drop-drop}
use Rattle.condition.specs.Store.{count, cond_at}
use Rattle.list.specs.Layout.{line_size, cells_fit, cells_in, lines_in}
use Rattle.list.specs.Lists.{Row}
use Rattle.list.specs.Lists as lists
use Rattle.list.specs.Lines.{starts, shown, lines_left}
use Rattle.list.specs.declared.lines.Line.{Line}
use Rattle.list.specs.declared.lines.Lines.{Lines}
use Rattle.list.proofs.Lined.{line_turn, back_turn}
use Rattle.list.proofs.Reading.{line_in, line_named, lines_fit_at}
use Rattle.decide.specs.Deciding.{agrees, deciding}
use Rattle.decide.specs.Matching.{cells_at, node_at, deciding_from}
use Rattle.decide.specs.Sought.{lines_of, line_of}
use Rattle.decide.specs.declared.sought.Sought.{Sought}
use Rattle.decide.proofs.Agreeing.{lines_none, lines_back}

-- a line is line i of the answer: as wide as the row, its cells are cells, and its node stands
pub record Looked (q : Sought) (i : ℕ) (line : Line) : Type 0 where
  pub inside : i < q.lines
  pub wide : line.width ≡ length q.row.now
  pub is : line.numbers.now ≡ line_of q i
  pub cells : cells_fit (length q.row.now) (drop 1 line.numbers.now) ≡ true
  pub stands : get_or line.numbers.now 0 0 < count q.nodes.now

looked : (q : Sought) (i : ℕ) (line : Line) → i < q.lines → line.width ≡ length q.row.now → line.numbers.now ≡ line_of q i → Looked q i line
looked q i line inside wide is =
    let w = length q.row.now in let z : 0 + i * line_size w ≡ i * line_size w = omega arith in record {
      inside = inside;
      wide = wide;
      is = is;
      cells = rw (is, drop-drop 1 (i * line_size w) q.answer.now) (lines_fit_at q.lines w i q.answer.now inside q.cells);
      stands = rw is (line_named (count q.nodes.now) q.lines w i 0 q.answer.now (line_of q i) inside (rw z refl) q.named);
    }

-- the line at hand of a loop over all lines, and of one from the last to the first
pub looked_next : (q : Sought) (s t u : Lines) (ys : List Line) (r : Option Line) (line : Line) → lines_left s ≡ starts q.lines (length q.row.now) q.answer.now →
    Yields (YieldsFirstBy shown lines_left) s ys t → YieldsFirstBy shown lines_left t r u → r ≡ Some line → Looked q (length ys) line
looked_next q s t u ys r line all before step o =
    let k = line_turn q.lines (length q.row.now) q.answer.now s t u ys r all before step line o in looked q (length ys) line k.0 k.1.0 k.1.1

pub looked_back : (q : Sought) (s t u : Rev Lines) (ys : List Line) (r : Option Line) (line : Line) → lines_left (rev_source s) ≡ starts q.lines (length q.row.now) q.answer.now →
    Yields (rev_steps (YieldsLastBy shown lines_left)) s ys t → rev_steps (YieldsLastBy shown lines_left) t r u → r ≡ Some line →
    (length ys < q.lines) × Looked q (q.lines - length ys - 1) line
looked_back q s t u ys r line all before step o =
    let k = back_turn q.lines (length q.row.now) q.answer.now s t u ys r all before step line o in
    let e : q.lines - 1 - length ys ≡ q.lines - length ys - 1 = omega arith in
    (k.0, looked q (q.lines - length ys - 1) line (omega (arith, k.0)) k.1.0 (rw e at k.1.1))

-- the lines that decide a row, from the last to the first
pub from_none : (q : Sought) → deciding_from q q.lines ≡ []
unfolding deciding
from_none q = rw (lines_none q.nodes.now q.lines (length q.row.now) q.answer.now) refl

-- the line at a place
abbrev pub line_here : Sought → ℕ → lists.Line
line_here q i = record { cells = cells_at (length q.row.now) q.answer.now i; if_so = cond_at q.nodes.now (node_at (length q.row.now) q.answer.now i) }

pub from_pass : (q : Sought) (i : ℕ) → 0 < i → i ≤ q.lines → agrees (cells_at (length q.row.now) q.answer.now (i - 1)) q.row.now ≡ false →
    deciding_from q (i - 1) ≡ deciding_from q i
unfolding deciding
from_pass q i p l h = rw (lines_back q.nodes.now q.lines (length q.row.now) i q.answer.now (drop ((i - 1) * line_size (length q.row.now)) q.answer.now) p l refl, h) refl

pub from_more : (q : Sought) (i : ℕ) → 0 < i → i ≤ q.lines → agrees (cells_at (length q.row.now) q.answer.now (i - 1)) q.row.now ≡ true →
    deciding_from q (i - 1) ≡ line_here q (i - 1) ∷ deciding_from q i
unfolding deciding
from_more q i p l h = rw (lines_back q.nodes.now q.lines (length q.row.now) i q.answer.now (drop ((i - 1) * line_size (length q.row.now)) q.answer.now) p l refl, h) refl

-- the lines that agree with a row are as many as decide it
pub agreeing_many : (nodes : List ℕ) (n : ℕ) (xs : List ℕ) (row : Row) →
    length (filter (λ p. agrees (cells_in (length row) (drop 1 p.1)) row) (starts n (length row) xs)) ≡ length (deciding (lines_in nodes n (length row) xs) row)
unfolding starts lines_in deciding
agreeing_many nodes zero xs row = refl
agreeing_many nodes (suc n) xs row = go (agreeing_many nodes n (drop (line_size (length row)) xs) row) (agrees (cells_in (length row) (drop 1 xs)) row)
  where
    rest : List (ℕ × List ℕ)
    rest = filter (λ p. agrees (cells_in (length row) (drop 1 p.1)) row) (starts n (length row) (drop (line_size (length row)) xs))

    deciders : List lists.Line
    deciders = deciding (lines_in nodes n (length row) (drop (line_size (length row)) xs)) row

    go : length rest ≡ length deciders → (b : Bool) → length (if b ((length row, xs) ∷ rest) rest) ≡ length (if b (line_in nodes (length row) xs ∷ deciders) deciders)
    go h true = omega (arith, h)
    go h false = h

pub deciding_few : (ls : List lists.Line) (row : Row) → length (deciding ls row) ≤ length ls
unfolding deciding
deciding_few [] row = omega arith
deciding_few (l ∷ ls) row = go (deciding_few ls row) (agrees l.cells row)
  where
    go : length (deciding ls row) ≤ length ls → (b : Bool) → length (if b (l ∷ deciding ls row) (deciding ls row)) ≤ suc (length ls)
    go h true = omega arith
    go h false = omega arith
