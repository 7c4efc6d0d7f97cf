-- The two goals of a search, and how the row stands by them.
use Rattle.std.proofs.Common.{◌≡◌, ℕ, ◌≤◌, Bool, true, false, not, ◌&&◌, List, [], ◌∷◌, ◌++◌, map, length, get_or, is_some, Some, None, Option, sym, refl, ap, ◌∙◌, inl, inr, arith}
use Rattle.std.proofs.lemmas.List.{get_or_past}
use Rattle.std.proofs.lemmas.Bool.{both_ways, cases_lt, and_parts, not-true}
use Rattle.condition.specs.Cond.{Cell, known, Cond, both, not_so, cells_of, numbers_in, has, Within}
use Rattle.condition.specs.Store.{cond_at}
use Rattle.condition.proofs.Lists.{has_left, has_right, has_at}
use Rattle.evaluate.specs.Filling as fillings
use Rattle.evaluate.specs.Filling.{holds}
use Rattle.evaluate.specs.Shapes.{numbers_of}
use Rattle.evaluate.specs.declared.Filling.{Filling}
use Rattle.evaluate.proofs.Holding.{holds_both, holds_not}
use Rattle.list.specs.Lists.{Line, Row, all_filled, stands}
use Rattle.query.specs.Ask.{Query, ask}
use Rattle.answer.specs.Promise.{Answers}
use Rattle.decide.specs.Deciding.{gives, shows, cells_in_lines, conds_in_lines}
use Rattle.decide.specs.Cones.{Coned}
use Rattle.decide.specs.Goals.{goal_of}
use Rattle.decide.specs.Noting.{gap_noted, numbers_noted}
use Rattle.decide.specs.Reaching.{Covers}
use Rattle.decide.specs.Sought.{known_of, lines_of, deciding_of}
use Rattle.decide.specs.Standing.{named_cells, standing, Decided, Found}
use Rattle.decide.specs.Surveying.{numbers_met, gaps_met, numbers_for, gaps_for, Surveyed, FewNamed}
use Rattle.decide.specs.Trying.{Tried, Names}
use Rattle.decide.specs.declared.noting.Notes.{Notes}
use Rattle.decide.specs.declared.sought.Sought.{Sought}
use Rattle.decide.specs.declared.task.Goal.{Goal}
use Rattle.decide.proofs.Coverage.{covers_none, covers_both, covers_left, covers_right, covers_self, covers_more}
use Rattle.decide.proofs.Passing.{passing_has, passing_low}
use Rattle.decide.proofs.Settled.{Tells, decided}
use Rattle.decide.proofs.Shown.{asked_as, deciding_enough}
use Rattle.decide.proofs.Surveyed.{row_covered, numbers_met_are, gaps_met_are}

-- the cells that the condition for a row compares
gives_covered : (ns gs : List ℕ) (cs : List Cell) (row : Row) → Covers ns gs cs → Covers ns gs (map known row) → Covers ns gs (cells_of (gives cs row))
unfolding gives cells_of
gives_covered ns gs [] [] p q = covers_none ns gs
gives_covered ns gs [] (n ∷ row) p q = covers_none ns gs
gives_covered ns gs (c ∷ cs) [] p q = covers_none ns gs
gives_covered ns gs (c ∷ cs) (n ∷ row) p q =
    covers_both ns gs (c ∷ (known n ∷ [])) (cells_of (gives cs row))
    (covers_both ns gs (c ∷ []) (known n ∷ []) (covers_left ns gs (c ∷ []) cs p) (covers_left ns gs (known n ∷ []) (map known row) q))
    (gives_covered ns gs cs row (covers_right ns gs (c ∷ []) cs p) (covers_right ns gs (known n ∷ []) (map known row) q))

shows_covered : (ns gs : List ℕ) (ls : List Line) (row : Row) → Covers ns gs (conds_in_lines ls) → Covers ns gs (cells_in_lines ls) → Covers ns gs (map known row) →
    Covers ns gs (cells_of (shows ls row))
unfolding shows cells_of conds_in_lines cells_in_lines
shows_covered ns gs [] row p q r = covers_none ns gs
shows_covered ns gs (l ∷ ls) row p q r =
    covers_both ns gs (cells_of l.if_so ++ cells_of (gives l.cells row)) (cells_of (shows ls row))
    (covers_both ns gs (cells_of l.if_so) (cells_of (gives l.cells row)) (covers_left ns gs (cells_of l.if_so) (conds_in_lines ls) p)
    (gives_covered ns gs l.cells row (covers_left ns gs l.cells (cells_in_lines ls) q) r))
    (shows_covered ns gs ls row (covers_right ns gs (cells_of l.if_so) (conds_in_lines ls) p) (covers_right ns gs l.cells (cells_in_lines ls) q) r)

pub both_met : (what : Cond) (ls : List Line) (row : Row) → Covers (numbers_met what ls row) (gaps_met what ls) (cells_of (both what (shows ls row)))
unfolding Within cells_of
both_met what ls row =
    let ns = numbers_met what ls row in let gs = gaps_met what ls in
    let m : Covers ns gs (named_cells what ls) =
    covers_more (numbers_in (named_cells what ls)) ns gs gs (named_cells what ls) (λ n h. has_left (numbers_in (named_cells what ls)) row n h) (λ n h. h) (covers_self (named_cells what ls)) in
    let r : Covers ns gs (conds_in_lines ls ++ cells_in_lines ls) = covers_right ns gs (cells_of what) (conds_in_lines ls ++ cells_in_lines ls) m in
    covers_both ns gs (cells_of what) (cells_of (shows ls row)) (covers_left ns gs (cells_of what) (conds_in_lines ls ++ cells_in_lines ls) m)
    (shows_covered ns gs ls row (covers_left ns gs (conds_in_lines ls) (cells_in_lines ls) r) (covers_right ns gs (conds_in_lines ls) (cells_in_lines ls) r)
    (row_covered ns gs row (λ n h. has_right (numbers_in (named_cells what ls)) row n h)))

module _ (q : Sought) (ms : List Bool) (s : Notes) (y : Surveyed q ms s) (names : List ℕ) (f : FewNamed s names) where
  -- the gaps and numbers that count are those that are tried
  gaps_tried : Within (gaps_for q) names
  unfolding Within
  gaps_tried k h =
      let o : gap_noted s k ≡ true = y.noted.gaps k ∙ (ap (λ t. has t k) (gaps_met_are q) ∙ h) in
      rw f.gaps (elim (cases_lt k 64) [
        | inl l ↦ passing_has 64 (gap_noted s) k l o
        | inr l ↦ let p : length s.gaps ≤ k = omega (arith, y.noted.long) in absurd (both_ways (gap_noted s k) (get_or_past s.gaps k false p) o)
      ])

  numbers_tried : Within (numbers_for q) (numbers_noted s)
  unfolding Within
  numbers_tried n h = y.noted.all (omega (arith, f.numbers)) n (ap (λ t. has t n) (numbers_met_are q) ∙ h)

  -- so a condition that names no others is decided by them
  pub named_by : (c : Cond) → Covers (numbers_for q) (gaps_for q) (cells_of c) → Names c names (numbers_noted s)
  unfolding Within
  named_by c v = record {
    low = λ i l. passing_low 64 (gap_noted s) (get_or names i 0) (ap (λ t. has t (get_or names i 0)) (sym f.gaps) ∙ has_at names i l);
    gaps = λ k h. gaps_tried k (v.gaps k h);
    numbers = λ n h. numbers_tried n (v.numbers n h);
  }

  pub goal_named : (cone : List ℕ) (goal : Goal) → Coned (known_of q) (deciding_of q) q.row.now cone goal → Names (goal_of cone goal true) names (numbers_noted s)
  unfolding cells_of
  goal_named cone goal d = named_by (goal_of cone goal true)
      (covers_both (numbers_for q) (gaps_for q) (cells_of (cond_at cone goal.known)) (cells_of (cond_at cone goal.shows)) d.known_inside d.shows_inside)

-- a search that found a filling, or none, tells whether there is one
tells : (c : Cond) (o : Option Filling) → Tried c o → Tells (is_some o) c
tells c (Some w) h = (λ t. (numbers_of w, h), λ p. refl)
tells c None h = (λ t. absurd (both_ways false refl t), λ p. absurd (both_ways (holds p.0 c) (h p.0) p.1))

tells_same : (b : Bool) (c d : Cond) → ((v : fillings.Filling) → holds v c ≡ holds v d) → Tells b c → Tells b d
tells_same b c d e t = (
  λ h. let p : (v : fillings.Filling) × (holds v c ≡ true) = t.0 h in (p.0, sym (e p.0) ∙ p.1),
  λ p. t.1 (p.0, e p.0 ∙ p.1),
)

module _ (q : Sought) (ms : List Bool) (s : Notes) (y : Surveyed q ms s) (names : List ℕ) (f : FewNamed s names)
    (cone : List ℕ) (goal : Goal) (d : Coned (known_of q) (deciding_of q) q.row.now cone goal) where
  abbrev shown : Cond
  shown = shows (deciding_of q) q.row.now

  goal_shows : (v : fillings.Filling) → holds v (goal_of cone goal true) ≡ holds v (both (known_of q) shown)
  goal_shows v =
      holds_both v (cond_at cone goal.known) (cond_at cone goal.shows) ∙ cc (d.known v, d.shows v, holds_both v (known_of q) shown)

  goal_lacks : (v : fillings.Filling) → holds v (goal_of cone goal false) ≡ holds v (both (known_of q) (not_so shown))
  goal_lacks v =
      holds_both v (cond_at cone goal.known) (not_so (cond_at cone goal.shows))
      ∙ cc (d.known v, d.shows v, holds_not v (cond_at cone goal.shows), holds_not v shown, holds_both v (known_of q) (not_so shown))

  -- so the row stands as the search says
  pub stood : (o p : Option Filling) → Tried (goal_of cone goal true) o → Tried (goal_of cone goal false) p → Decided (known_of q) (lines_of q) q.row.now (standing (is_some o) (is_some p))
  unfolding Within
  stood o p h k =
      let v = both_met (known_of q) (deciding_of q) q.row.now in
      decided (known_of q) (lines_of q) q.row.now (is_some o) (is_some p)
      (tells_same (is_some o) (goal_of cone goal true) (both (known_of q) shown) goal_shows (tells (goal_of cone goal true) o h))
      (tells_same (is_some p) (goal_of cone goal false) (both (known_of q) (not_so shown)) goal_lacks (tells (goal_of cone goal false) p k))
      (numbers_noted s) names
      (λ n i. numbers_tried q ms s y names f n (v.numbers n i))
      (λ g i. gaps_tried q ms s y names f g (v.gaps g i))
      y.noted.low
      (omega (arith, f.few, f.numbers))

  -- the row stands under a filling that fits where what was searched for holds
  stands_as : (v : fillings.Filling) → holds v (known_of q) ≡ true → (ts : List (List Line)) (k : Query) → Answers (known_of q) ts k (lines_of q) →
      stands q.row.now (ask k (all_filled v ts)) ≡ holds v shown
  stands_as v h ts k a = asked_as (known_of q) ts k (lines_of q) q.row.now a v h ∙ sym (deciding_enough v (lines_of q) q.row.now)

  pub found : (t : Bool) (o : Option Filling) → Tried (goal_of cone goal t) o → Found (known_of q) (lines_of q) q.row.now t o
  found true (Some w) h =
      let p = and_parts (holds (numbers_of w) (known_of q)) (holds (numbers_of w) shown) (sym (holds_both (numbers_of w) (known_of q) shown) ∙ (sym (goal_shows (numbers_of w)) ∙ h)) in
      (p.0, λ ts k a. stands_as (numbers_of w) p.0 ts k a ∙ p.1)
  found false (Some w) h =
      let p = and_parts (holds (numbers_of w) (known_of q)) (holds (numbers_of w) (not_so shown))
      (sym (holds_both (numbers_of w) (known_of q) (not_so shown)) ∙ (sym (goal_lacks (numbers_of w)) ∙ h)) in
      (p.0, λ ts k a. stands_as (numbers_of w) p.0 ts k a ∙ not-true (holds (numbers_of w) shown) (sym (holds_not (numbers_of w) shown) ∙ p.1))
  found true None h = λ v e ts k a. stands_as v e ts k a ∙ missed (holds v (known_of q)) (holds v shown) e (sym (holds_both v (known_of q) shown) ∙ (sym (goal_shows v) ∙ h v))
    where
      missed : (b d : Bool) → b ≡ true → (b && d) ≡ false → d ≡ false
      missed true d e f = f
      missed false d e f = absurd (both_ways false refl e)
  found false None h = λ v e ts k a. stands_as v e ts k a ∙
      missed (holds v (known_of q)) (holds v shown) e (ap (λ (t : Bool). holds v (known_of q) && t) (sym (holds_not v shown)) ∙ (sym (holds_both v (known_of q) (not_so shown)) ∙ (sym (goal_lacks v) ∙ h v)))
    where
      missed : (b d : Bool) → b ≡ true → (b && not d) ≡ false → d ≡ true
      missed true true e f = refl
      missed true false e f = sym f
      missed false d e f = absurd (both_ways false refl e)
