-- Rows of numbers that are tried, and the fillings that they stand for. The gaps that are tried are a list, in which each stands once.
--
--   place gs k             where the gap k stands among the gaps gs, if it does
--   on_of gs depth         which gaps are settled: those at the first places
--   number_at r p          the number that a row has at place p
--   GoesOn r p n u s       s is the row r with the number n at place p, and with u of the fresh numbers in use
--   filling_of gs r        the filling that a row stands for; a gap that is not tried has 0
--   row gs rows l          that of the row at l
--   number_in r s          the number that a cell has in a row, from where it stands; Inside depth s: it is one, or stands at a place
--                          before depth
use Rattle.std.specs.Prelude.{◌≡◌, ℕ, ◌<◌, Bool, false, cond as if, List, [], Option, position, ◌==◌, nat_lt, slice_index, slice_index_or}
use Rattle.std.specs.Option.{option_map_or}
use Rattle.evaluate.specs.Filling.{Filling}
use Rattle.decide.specs.declared.rows.Row.{Row}
use Rattle.decide.specs.declared.rows.Spot.{Spot}
use Rattle.decide.specs.declared.rows.Spot.TheVariants.{Number, Place}

unfoldable pub place : List ℕ → ℕ → Option ℕ
place gs k = position (λ g. g == k) gs

abbrev pub on_of : List ℕ → ℕ → ℕ → Bool
on_of gs depth k = option_map_or (λ p. nat_lt p depth) (place gs k) false

abbrev pub number_at : Row → ℕ → ℕ
number_at r p = slice_index r.numbers p

pub record GoesOn (r : Row) (p n u : ℕ) (s : Row) : Type 0 where
  pub numbers : (q : ℕ) → number_at s q ≡ if (q == p) n (number_at r q)
  pub used : s.used ≡ u

abbrev pub filling_of : List ℕ → Row → Filling
filling_of gs r k = option_map_or (number_at r) (place gs k) 0

abbrev pub blank : Row
blank = record { numbers = []; used = 0 }

abbrev pub row : List ℕ → List Row → ℕ → Filling
row gs rows l = filling_of gs (slice_index_or rows l blank)

abbrev pub number_in : Row → Spot → ℕ
number_in r (Number n) = n
number_in r (Place p) = number_at r p

abbrev pub Inside : ℕ → Spot → Type 0
Inside depth (Number n) = Unit {0}
Inside depth (Place p) = p < depth
