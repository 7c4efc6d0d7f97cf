-- What was marked and noted is what decides the row.
use Rattle.std.proofs.Common.{◌≡◌, ℕ, ◌<◌, ◌≤◌, Bool, true, false, cond as if, eqb, ◌≢◌, ◌⊎◌, List, [], ◌∷◌, ◌++◌, map, length, take, drop, set, replicate, sym, refl, ap, ◌∙◌, inl, inr, ⊎_elim, append-nil, take_all, length-append, length-take-le, arith}
use Rattle.std.proofs.lemmas.List.{get_or-set_same, get_or-set_other, get_or_append_left, get_or-replicate}
use lib.ListN.{length-replicate}
use Rattle.std.proofs.lemmas.Bool.{both_ways, cases_eq, eqb-true, and_parts, or_cases}
use Rattle.condition.specs.Cond.{Cell, known, gap, cells_of, numbers_in, gaps_in, has, Within}
use Rattle.condition.specs.Store.{count, cond_at}
use Rattle.condition.proofs.Lists.{has_none, has_cons, has_head, has_tail, has_app, has_left, has_right}
use Rattle.condition.proofs.Named.{numbers_app, gaps_app}
use Rattle.list.specs.Lists.{Line, Row}
use Rattle.list.proofs.Reading.{length_lines}
use Rattle.decide.specs.Deciding.{agrees, deciding, cells_in_lines, conds_in_lines}
use Rattle.decide.specs.Reaching.{marked, Closed, marked_cells, Covers, AllCovered}
use Rattle.decide.specs.Noting.{Noted, NotesMore}
use Rattle.decide.specs.Sought.{known_of, lines_of, deciding_of}
use Rattle.decide.specs.Matching.{node_at, deciding_from, Matched}
use Rattle.decide.specs.Standing.{named_cells}
use Rattle.decide.specs.Surveying.{numbers_for, gaps_for, cells_for, Surveyed}
use Rattle.decide.specs.declared.sought.Sought.{Sought}
use Rattle.decide.specs.declared.noting.Notes.{Notes}
use Rattle.decide.proofs.Coverage.{covers_none, covers_both, covers_left, covers_right, covers_self, covers_more, covers_before, covers_behind}
use Rattle.decide.proofs.Noted.{noted_like}
use Rattle.decide.proofs.Reached.{marked_covered, all_marked}

bool_same : (a b : Bool) → (a ≡ true → b ≡ true) → (b ≡ true → a ≡ true) → a ≡ b
bool_same true b f g = sym (f refl)
bool_same false true f g = g refl
bool_same false false f g = refl

either_has : (xs ys : List ℕ) (n : ℕ) → has (xs ++ ys) n ≡ true → (has xs n ≡ true) ⊎ (has ys n ≡ true)
either_has xs ys n h = or_cases (has xs n) (has ys n) (sym (has_app xs ys n) ∙ h)

-- the known cells of a line that agrees with a row stand in it
agree_numbers : (cs : List Cell) (row : Row) → agrees cs row ≡ true → Within (numbers_in cs) row
unfolding agrees numbers_in Within
agree_numbers [] row e n h = absurd (has_none n h)
agree_numbers (c ∷ cs) [] e n h = absurd (both_ways false refl e)
agree_numbers (known m ∷ cs) (x ∷ row) e n h =
    let p : (eqb m x ≡ true) × (agrees cs row ≡ true) = and_parts (eqb m x) (agrees cs row) e in
    ⊎_elim (λ u. ap (λ t. has (t ∷ row) n) (sym (eqb-true m x p.0)) ∙ (ap (has (m ∷ row)) (sym (eqb-true m n u)) ∙ has_head m row))
    (λ o. has_tail x row n (agree_numbers cs row p.1 n o)) (or_cases (eqb m n) (has (numbers_in cs) n) (sym (has_cons m (numbers_in cs) n) ∙ h))
agree_numbers (gap k ∷ cs) (x ∷ row) e n h = has_tail x row n (agree_numbers cs row e n h)

lines_numbers : (ls : List Line) (row : Row) → Within (numbers_in (cells_in_lines (deciding ls row))) row
unfolding deciding cells_in_lines Within numbers_in
lines_numbers [] row n h = absurd (has_none n h)
lines_numbers (l ∷ ls) row n h = go (lines_numbers ls row n) (agrees l.cells row) refl h
  where
    go : (has (numbers_in (cells_in_lines (deciding ls row))) n ≡ true → has row n ≡ true) → (b : Bool) → agrees l.cells row ≡ b →
        has (numbers_in (cells_in_lines (if b (l ∷ deciding ls row) (deciding ls row)))) n ≡ true → has row n ≡ true
    go ih true e o =
        ⊎_elim (agree_numbers l.cells row e n) ih
        (either_has (numbers_in l.cells) (numbers_in (cells_in_lines (deciding ls row))) n (rw (numbers_app l.cells (cells_in_lines (deciding ls row))) at o))
    go ih false e o = ih o

-- the numbers of a row as cells
row_numbers : (row : Row) → numbers_in (map known row) ≡ row
unfolding numbers_in
row_numbers [] = refl
row_numbers (n ∷ row) = ap (λ t. n ∷ t) (row_numbers row)

row_gaps : (row : Row) → gaps_in (map known row) ≡ []
unfolding gaps_in
row_gaps [] = refl
row_gaps (n ∷ row) = row_gaps row

pub row_covered : (ns gs : List ℕ) (row : Row) → Within row ns → Covers ns gs (map known row)
unfolding Within
row_covered ns gs row h = record { numbers = λ n o. h n (rw (row_numbers row) at o); gaps = λ k o. absurd (has_none k (rw (row_gaps row) at o)) }

-- the first n marks, taken away
module _ (n : ℕ) (front old : List Bool) (l : n ≤ length old) (e : front ≡ replicate (length (take n old)) false) where
  front_long : length front ≡ n
  front_long = rw (e, length-replicate (length (take n old)) false) (length-take-le n old l)

  pub cleared_long : n ≤ length (front ++ drop n old)
  cleared_long = omega (arith, length-append front (drop n old), front_long)

  pub cleared : (i : ℕ) → i < n → marked (front ++ drop n old) i ≡ false
  cleared i b =
      let k : i < length front = omega (arith, front_long) in
      get_or_append_left front (drop n old) false i k ∙ rw e (get_or-replicate (length (take n old)) i false false (omega (arith, length-take-le n old l)))

-- the cells that count name the numbers and the gaps that count
pub numbers_met_are : (q : Sought) → numbers_in (cells_for q) ≡ numbers_for q
numbers_met_are q = numbers_app (named_cells (known_of q) (deciding_of q)) (map known q.row.now) ∙ ap (λ t. gathered ++ t) (row_numbers q.row.now)
  where
    gathered : List ℕ
    gathered = numbers_in (named_cells (known_of q) (deciding_of q))

pub gaps_met_are : (q : Sought) → gaps_in (cells_for q) ≡ gaps_for q
gaps_met_are q = gaps_app (named_cells (known_of q) (deciding_of q)) (map known q.row.now) ∙ (ap (λ t. gaps_for q ++ t) (row_gaps q.row.now) ∙ append-nil (gaps_for q))

module _ (q : Sought) (blank ms₁ ms : List Bool) (s₀ s₁ s : Notes)
    (long : count q.nodes.now ≤ length blank) (clean : (i : ℕ) → i < count q.nodes.now → marked blank i ≡ false)
    (first : Noted (map known q.row.now ++ []) s₀) (m : Matched q 0 (set blank q.known true) ms₁ s₀ s₁)
    (closed : Closed q.nodes.now (count q.nodes.now) ms) (kept : (i : ℕ) → marked ms₁ i ≡ true → marked ms i ≡ true)
    (reached : (ns gs : List ℕ) → AllCovered ns gs q.nodes.now (count q.nodes.now) ms₁ → AllCovered ns gs q.nodes.now (count q.nodes.now) ms)
    (noted : NotesMore (marked_cells q.nodes.now ms (count q.nodes.now)) s₁ s) where
  abbrev nodes : List ℕ
  nodes = q.nodes.now

  abbrev c : ℕ
  c = count nodes

  abbrev at : ℕ
  at = q.known

  abbrev row : Row
  row = q.row.now

  abbrev ds : List Line
  ds = deciding_of q

  abbrev met : List Cell
  met = named_cells (cond_at nodes at) ds

  abbrev ns : List ℕ
  ns = numbers_for q

  abbrev gs : List ℕ
  gs = gaps_for q

  abbrev found : List Cell
  found = marked_cells nodes ms c

  abbrev listed : List Cell
  listed = found ++ (cells_in_lines ds ++ (map known row ++ []))

  -- of all lines those that decide the row
  all_lines : deciding_from q 0 ≡ ds
  all_lines = refl

  -- what is met covers what is met
  met_covers : Covers ns gs met
  unfolding Within
  met_covers = covers_more (numbers_in met) ns gs gs met (λ n h. has_left (numbers_in met) row n h) (λ n h. h) (covers_self met)

  rest_covers : Covers ns gs (conds_in_lines ds ++ cells_in_lines ds)
  rest_covers = covers_right ns gs (cells_of (cond_at nodes at)) (conds_in_lines ds ++ cells_in_lines ds) met_covers

  root_covered : AllCovered ns gs nodes c (set blank at true)
  root_covered i l h = elim (cases_eq i at) [
    | inl e ↦ rw e (covers_left ns gs (cells_of (cond_at nodes at)) (conds_in_lines ds ++ cells_in_lines ds) met_covers)
    | inr ne ↦ let o : i ≢ at = ne in absurd (both_ways (marked blank i) (clean i l) (sym (get_or-set_other blank at i true false o) ∙ h))
  ]

  all_covered : AllCovered ns gs nodes c ms
  all_covered = reached ns gs (m.only ns gs root_covered (rw all_lines (covers_left ns gs (conds_in_lines ds) (cells_in_lines ds) rest_covers)))

  found_covered : Covers ns gs found
  found_covered = marked_covered ns gs nodes c ms (omega arith) all_covered

  listed_covered : Covers ns gs listed
  unfolding Within
  listed_covered =
      covers_both ns gs found (cells_in_lines ds ++ (map known row ++ [])) found_covered
      (covers_both ns gs (cells_in_lines ds) (map known row ++ []) (covers_right ns gs (conds_in_lines ds) (cells_in_lines ds) rest_covers)
      (covers_both ns gs (map known row) [] (row_covered ns gs row (λ n h. has_right (numbers_in met) row n h)) (covers_none ns gs)))

  pub known_marked : marked ms at ≡ true
  known_marked = kept at (m.kept at (let b : at < length blank = omega (arith, q.stands) in get_or-set_same blank at true false b))

  -- the other way round
  found_all : AllCovered (numbers_in found) (gaps_in found) nodes c ms
  found_all = all_marked nodes c ms (omega arith) closed

  found_what : Covers (numbers_in found) (gaps_in found) (cells_of (cond_at nodes at))
  found_what = found_all at q.stands known_marked

  found_conds : Covers (numbers_in found) (gaps_in found) (conds_in_lines ds)
  found_conds = rw all_lines at (m.all (numbers_in found) (gaps_in found) (λ i l h. found_all i l (kept i h)))

  met_listed : Covers (numbers_in listed) (gaps_in listed) met
  met_listed =
      covers_both (numbers_in listed) (gaps_in listed) (cells_of (cond_at nodes at)) (conds_in_lines ds ++ cells_in_lines ds)
      (covers_before found (cells_in_lines ds ++ (map known row ++ [])) (cells_of (cond_at nodes at)) found_what)
      (covers_both (numbers_in listed) (gaps_in listed) (conds_in_lines ds) (cells_in_lines ds)
      (covers_before found (cells_in_lines ds ++ (map known row ++ [])) (conds_in_lines ds) found_conds)
      (covers_behind found (cells_in_lines ds ++ (map known row ++ [])) (cells_in_lines ds)
      (covers_before (cells_in_lines ds) (map known row ++ []) (cells_in_lines ds) (covers_self (cells_in_lines ds)))))

  row_listed : Within row (numbers_in listed)
  unfolding Within
  row_listed n h =
      let e : Covers (numbers_in listed) (gaps_in listed) (map known row) =
      covers_behind found (cells_in_lines ds ++ (map known row ++ [])) (map known row)
      (covers_behind (cells_in_lines ds) (map known row ++ []) (map known row) (covers_before (map known row) [] (map known row) (covers_self (map known row)))) in
      e.numbers n (rw (row_numbers row) h)

  listed_numbers : (n : ℕ) → has (numbers_in listed) n ≡ has ns n
  unfolding Within
  listed_numbers n = bool_same (has (numbers_in listed) n) (has ns n) (listed_covered.numbers n) (λ h. ⊎_elim (met_listed.numbers n) (row_listed n) (either_has (numbers_in met) row n h))

  listed_gaps : (k : ℕ) → has (gaps_in listed) k ≡ has gs k
  unfolding Within
  listed_gaps k = bool_same (has (gaps_in listed) k) (has gs k) (listed_covered.gaps k) (met_listed.gaps k)

  found_numbers : (n : ℕ) → has (numbers_in found ++ row) n ≡ has ns n
  unfolding Within
  found_numbers n = bool_same (has (numbers_in found ++ row) n) (has ns n)
      (λ h. ⊎_elim (found_covered.numbers n) (has_right (numbers_in met) row n) (either_has (numbers_in found) row n h))
      (λ h. ⊎_elim (λ o. in_met o) (has_right (numbers_in found) row n) (either_has (numbers_in met) row n h))
    where
      in_rest : has (numbers_in (conds_in_lines ds ++ cells_in_lines ds)) n ≡ true → has (numbers_in found ++ row) n ≡ true
      in_rest o = ⊎_elim (λ x. has_left (numbers_in found) row n (found_conds.numbers n x)) (λ x. has_right (numbers_in found) row n (lines_numbers (lines_of q) row n x))
          (either_has (numbers_in (conds_in_lines ds)) (numbers_in (cells_in_lines ds)) n (rw (numbers_app (conds_in_lines ds) (cells_in_lines ds)) at o))

      in_met : has (numbers_in met) n ≡ true → has (numbers_in found ++ row) n ≡ true
      in_met o = ⊎_elim (λ x. has_left (numbers_in found) row n (found_what.numbers n x)) in_rest
          (either_has (numbers_in (cells_of (cond_at nodes at))) (numbers_in (conds_in_lines ds ++ cells_in_lines ds)) n (rw (numbers_app (cells_of (cond_at nodes at)) (conds_in_lines ds ++ cells_in_lines ds)) at o))

  pub surveyed : Surveyed q ms s
  surveyed = record {
    reached = record {
      known = known_marked;
      lines = λ k l b y. kept (node_at (length row) q.answer.now k) (m.lines k l b y);
      closed = closed;
      covered = all_covered;
    };
    noted = noted_like listed (cells_for q) s
        (λ k. listed_gaps k ∙ ap (λ t. has t k) (sym (gaps_met_are q)))
        (λ n. listed_numbers n ∙ ap (λ t. has t n) (sym (numbers_met_are q)))
        (noted (cells_in_lines ds ++ (map known row ++ [])) (rw all_lines at m.noted (map known row ++ []) first));
    numbers = found_numbers;
  }
