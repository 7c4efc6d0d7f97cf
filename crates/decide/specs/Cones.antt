-- What decides a row, as two conditions of a cone.
--
--   Coned what ls row cone goal    the cone begins with always and never; it has what is known and the condition for a row at the places
--                                  of the goal, and these name no other gaps and numbers than what decides the row
use Rattle.std.specs.Prelude.{◌≡◌, ℕ, List}
use Rattle.condition.specs.Cond.{Cond, cells_of}
use Rattle.condition.specs.Store.{cond_at}
use Rattle.evaluate.specs.Filling.{Filling, holds}
use Rattle.list.specs.Lists.{Line, Row}
use Rattle.decide.specs.Deciding as decided
use Rattle.decide.specs.Folding.{Begun}
use Rattle.decide.specs.Reaching.{Covers}
use Rattle.decide.specs.Surveying.{numbers_met, gaps_met}
use Rattle.decide.specs.declared.task.Goal.{Goal}

pub record Coned (what : Cond) (ls : List Line) (row : Row) (cone : List ℕ) (goal : Goal) : Type 0 where
  pub begun : Begun cone
  pub known : (v : Filling) → holds v (cond_at cone goal.known) ≡ holds v what
  pub shows : (v : Filling) → holds v (cond_at cone goal.shows) ≡ holds v (decided.shows ls row)
  pub known_inside : Covers (numbers_met what ls row) (gaps_met what ls) (cells_of (cond_at cone goal.known))
  pub shows_inside : Covers (numbers_met what ls row) (gaps_met what ls) (cells_of (cond_at cone goal.shows))
