-- What is known alone, without a row: the filling that is chosen for it.
use Rattle.std.proofs.Common.{◌≡◌, ℕ, ◌+◌, ◌<◌, Bool, true, false, ◌&&◌, List, length, get_or, take, Some, None, sym, refl, ap, ◌∙◌, subst, arith}
use mathlib.Core.Path.{fun_ext}
use Rattle.std.specs.List.{AllPairs, range_with_len}
use Rattle.std.specs.List.Sorted.{IsStrictlyIncreasing}
use Rattle.std.proofs.lemmas.List.FromFn.{length-range_with_len, get_or-range_with_len}
use Rattle.std.proofs.lemmas.List.Kept.{IsStrictlyIncreasing-filter, AllPairs-from_increasing}
use Rattle.condition.specs.Cond.{Cond, cells_of, Within}
use Rattle.condition.specs.Store.{cond_at}
use Rattle.evaluate.specs.Filling.{Filling, holds}
use Rattle.evaluate.proofs.Holding.{holds_both}
use Rattle.decide.specs.Choice.{Chosen, number_of}
use Rattle.decide.specs.Cones.{Coned}
use Rattle.decide.specs.Counting.{passing_below}
use Rattle.decide.specs.Goals.{goal_of}
use Rattle.decide.specs.Noting.{gap_noted, numbers_noted}
use Rattle.decide.specs.Picking.{OthersFirst, PickedFirst}
use Rattle.decide.specs.Search.{tried, goal}
use Rattle.decide.specs.Shapes.{chosen_of}
use Rattle.decide.specs.Sought.{known_of, deciding_of}
use Rattle.decide.specs.Surveying.{numbers_for, gaps_for, Surveyed, FewNamed}
use Rattle.decide.specs.Trying.{Names}
use Rattle.decide.specs.declared.candidates.Chosen as chosen
use Rattle.decide.specs.declared.noting.Notes.{Notes}
use Rattle.decide.specs.declared.rows.Row.{Row}
use Rattle.decide.specs.declared.sought.Sought.{Sought}
use Rattle.decide.specs.declared.task.Goal.{Goal}
use Rattle.decide.specs.declared.task.Task.{Task}
use Rattle.decide.proofs.Choice as choice
use Rattle.decide.proofs.Coverage.{covers_none, covers_both}
use Rattle.decide.proofs.Goals.{named_by}
use Rattle.decide.proofs.Picked.{picked, begins_alive}

-- the gaps that were noted rise
pub rises : (n : ℕ) (p : ℕ → Bool) → AllPairs (λ j k. j < k) (passing_below n p)
unfolding passing_below
rises n p = AllPairs-from_increasing _ (IsStrictlyIncreasing-filter p (range_with_len 0 n) up)
  where
    up : IsStrictlyIncreasing (range_with_len 0 n)
    up k h =
        let l : k + 1 < n = omega (arith, length-range_with_len 0 n) in
        omega (arith, get_or-range_with_len 0 n k 0 (omega arith), get_or-range_with_len 0 n (k + 1) 0 l)

-- another condition that holds where this one does, and another filling that gives the same
pub chosen_like : (c d : Cond) (v w : Filling) → ((u : Filling) → holds u c ≡ holds u d) → ((k : ℕ) → v k ≡ w k) → Chosen c v → Chosen d w
chosen_like c d v w e s h = subst (Chosen d) (fun_ext s) (record {
  fits = sym (e v) ∙ h.fits;
  own = h.own;
  first = λ k n l t u b i. sym (e u) ∙ h.first k n l t u b i;
})

module _ (q : Sought) (ms : List Bool) (s : Notes) (y : Surveyed q ms s) (names : List ℕ) (f : FewNamed s names)
    (cone : List ℕ) (g : Goal) (d : Coned (known_of q) (deciding_of q) q.row.now cone g) where
  -- what is known, and nothing beside it
  abbrev alone : Goal
  alone = record { known = g.known; shows = 0 }

  pub alone_named : Names (goal_of cone alone true) names (numbers_noted s)
  unfolding cells_of
  alone_named = named_by q ms s y names f (goal_of cone alone true)
      (covers_both (numbers_for q) (gaps_for q) (cells_of (cond_at cone g.known)) (cells_of (cond_at cone 0)) d.known_inside (rw d.begun.first (covers_none (numbers_for q) (gaps_for q))))

  alone_holds : (v : Filling) → holds v (goal_of cone alone true) ≡ holds v (known_of q)
  unfolding holds
  alone_holds v = holds_both v (cond_at cone g.known) (cond_at cone 0) ∙ (rw d.begun.first (and_true (holds v (cond_at cone g.known))) ∙ d.known v)
    where
      and_true : (b : Bool) → (b && true) ≡ b
      and_true true = refl
      and_true false = refl

  -- numbers picked for it, those that stand nowhere first, tell the chosen filling
  module _ (task : Task) (cone-is : task.cone.now ≡ cone) (goal-is : task.goal ≡ alone) (gaps-are : tried task ≡ names) (named-are : take task.named task.pool.items ≡ numbers_noted s)
      (order : List ℕ) (others : OthersFirst task order) where
    task_goal : goal task true ≡ goal_of cone alone true
    task_goal = rw (cone-is, goal-is) refl

    task_holds : (u : Filling) → holds u (goal task true) ≡ holds u (known_of q)
    task_holds u = ap (holds u) task_goal ∙ alone_holds u

    rising : (a b : ℕ) → a < b → b < length (tried task) → get_or (tried task) a 0 < get_or (tried task) b 0
    rising a b l h = let up : AllPairs (λ j k. j < k) (tried task) = rw (gaps-are, f.gaps) (rises 64 (gap_noted s)) in up a b 0 l h

    pub picked_alone : (r : Row) → length r.numbers ≡ 6 → (w : chosen.Chosen) → ((k : ℕ) → chosen_of w k ≡ number_of (tried task) (take task.named task.pool.items) r.numbers k) →
        PickedFirst task order (Some r) → Chosen (known_of q) (chosen_of w)
    unfolding Within
    picked_alone r long w is p =
        let b = begins_alive task r p.1 in
        chosen_like (goal task true) (known_of q) (number_of (tried task) (take task.named task.pool.items) r.numbers) (chosen_of w) task_holds (λ k. sym (is k))
        (choice.chosen (goal task true) (tried task) (take task.named task.pool.items) r.numbers rising task.set_up.held task.set_up.numbers.named
        (λ n h. y.noted.low n (rw named-are at h)) (omega (arith, long, task.gaps.few)) (picked task order others r p.0) b.0 b.1 b.2)

    pub none_alone : PickedFirst task order None → (v : Filling) → holds v (known_of q) ≡ false
    none_alone p v = sym (task_holds v) ∙ p v
