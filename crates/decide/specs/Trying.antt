-- Whether some filling meets a condition.
--
--   Tried c o            a filling that meets c; or none, and then none of all fillings does
--   Names c ks ns        ks has the gaps that c names, all below 64, and ns its numbers
--   LeastOther ns n      n is the least number that is none of ns
use Rattle.std.specs.Prelude.{◌≡◌, ℕ, ◌<◌, true, false, List, length, Some, None, Option, slice_index}
use Rattle.condition.specs.Cond.{Cond, numbers, gaps, has, Within}
use Rattle.evaluate.specs.Filling as fillings
use Rattle.evaluate.specs.Filling.{holds}
use Rattle.evaluate.specs.Shapes.{numbers_of}
use Rattle.evaluate.specs.declared.Filling.{Filling}

abbrev pub Tried : Cond → Option Filling → Type 0
Tried c (Some w) = holds (numbers_of w) c ≡ true
Tried c None = (v : fillings.Filling) → holds v c ≡ false

pub record Names (c : Cond) (ks ns : List ℕ) : Type 0 where
  pub low : (i : ℕ) → i < length ks → slice_index ks i < 64
  pub gaps : Within (gaps c) ks
  pub numbers : Within (numbers c) ns

pub record LeastOther (ns : List ℕ) (n : ℕ) : Type 0 where
  pub new : has ns n ≡ false
  pub least : (m : ℕ) → m < n → has ns m ≡ true
