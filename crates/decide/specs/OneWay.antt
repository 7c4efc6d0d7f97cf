-- That a cone begins well and is tidy, and that a row is surveyed, holds in one way at most, as a fact that stands in a type has to.
use Rattle.std.specs.Prelude.{◌≡◌, ℕ, Bool, List, nat_eq}
use Rattle.std.specs.List.{IsDistinct-prop}
use Rattle.std.specs.Coded.{Coded-set, coded_bool, coded_ℕ, ×_prop, Π_prop, Unit-prop, le_prop}
use mathlib.Core.HLevel.{⊥_prop, ×₃_prop}
use native.Mathlib.Nat.{ℕ_set}
use Rattle.condition.specs.Cond.{Cell, Within, Cell_set, Cond, Cond_set, always, never}
use Rattle.condition.specs.Store.{cond_at}
use Rattle.condition.specs.Nodes.{decoded}
use Rattle.condition.specs.declared.Cell.TheVariants.{Number, Gap}
use Rattle.condition.specs.declared.Node.{Node}
use Rattle.condition.specs.declared.Node.TheVariants.{Always, Never, Equal, Not, Both, Either}
use Rattle.decide.specs.Folding.{Begun, Begun_prop, Neat, Tidy}
use Rattle.decide.specs.Noting.{numbers_noted, Noted}
use Rattle.decide.specs.Reaching.{EachPlace, Covers}
use Rattle.decide.specs.Surveying.{Reached, Surveyed}
use Rattle.decide.specs.declared.sought.Sought.{Sought}
use Rattle.decide.specs.declared.noting.Notes.{Notes}

pub begun_once : (cone : List ℕ) → IsProp (Begun cone)
begun_once cone = Begun_prop le_prop le_prop (conds (cond_at cone 0) always) (conds (cond_at cone 1) never)
  where
    conds : IsSet Cond
    conds = Cond_set (Cell_set ℕ_set)

neat_once : (i : ℕ) (n : Node) → IsProp (Neat i n)
neat_once i Always = ⊥_prop
neat_once i Never = ⊥_prop
neat_once i (Equal (Number m) b) = ⊥_prop
neat_once i (Equal (Gap j) (Number n)) = Unit-prop
neat_once i (Equal (Gap j) (Gap k)) = le_prop
neat_once i (Not a) = ×_prop le_prop le_prop
neat_once i (Both a b) = ×₃_prop le_prop le_prop le_prop
neat_once i (Either a b) = ×₃_prop le_prop le_prop le_prop

pub tidy_once : (cone : List ℕ) → IsProp (Tidy cone)
tidy_once cone = Π_prop (λ i. Π_prop (λ p. Π_prop (λ q. neat_once i (decoded cone i))))

number_once : (m n : ℕ) → IsProp (m ≡ n)
number_once m n = Coded-set coded_ℕ m n

bool_once : (a b : Bool) → IsProp (a ≡ b)
bool_once a b = Coded-set coded_bool a b

within_once : (xs ys : List ℕ) → IsProp (Within xs ys)
unfolding Within
within_once xs ys = Π_prop (λ n. Π_prop (λ h. bool_once _ _))

covers_once : (ns gs : List ℕ) (cs : List Cell) → IsProp (Covers ns gs cs)
covers_once ns gs cs a b = λ i. record { numbers = within_once _ _ a.numbers b.numbers i; gaps = within_once _ _ a.gaps b.gaps i }

each_once : (n : Node) (P : ℕ → Type 0) → ((j : ℕ) → IsProp (P j)) → IsProp (EachPlace n P)
each_once Always P p = Unit-prop
each_once Never P p = Unit-prop
each_once (Equal a b) P p = Unit-prop
each_once (Not a) P p = p a
each_once (Both a b) P p = ×_prop (p a) (p b)
each_once (Either a b) P p = ×_prop (p a) (p b)

reached_once : (q : Sought) (ms : List Bool) → IsProp (Reached q ms)
reached_once q ms a b = λ i. record {
  known = bool_once _ _ a.known b.known i;
  lines = Π_prop (λ _. Π_prop (λ _. Π_prop (λ _. Π_prop (λ _. bool_once _ _)))) a.lines b.lines i;
  closed = Π_prop (λ j. Π_prop (λ _. Π_prop (λ _. each_once (decoded q.nodes.now j) _ (λ _. Π_prop (λ _. bool_once _ _))))) a.closed b.closed i;
  covered = Π_prop (λ _. Π_prop (λ _. Π_prop (λ _. covers_once _ _ _))) a.covered b.covered i;
}

noted_once : (cs : List Cell) (s : Notes) → IsProp (Noted cs s)
noted_once cs s a b = λ i. record {
  long = number_once _ _ a.long b.long i;
  gaps = Π_prop (λ _. bool_once _ _) a.gaps b.gaps i;
  apart = IsDistinct-prop nat_eq (numbers_noted s) a.apart b.apart i;
  only = within_once _ _ a.only b.only i;
  low = Π_prop (λ _. Π_prop (λ _. le_prop)) a.low b.low i;
  all = Π_prop (λ _. within_once _ _) a.all b.all i;
}

pub surveyed_once : (q : Sought) (ms : List Bool) (s : Notes) → IsProp (Surveyed q ms s)
surveyed_once q ms s a b = λ i. record {
  reached = reached_once q ms a.reached b.reached i;
  noted = noted_once _ s a.noted b.noted i;
  numbers = Π_prop (λ _. bool_once _ _) a.numbers b.numbers i;
}
