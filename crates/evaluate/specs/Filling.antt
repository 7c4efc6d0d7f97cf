-- Fillings, and when a condition holds under one.
--
--   Filling            a number for each gap
--   put v k n          the filling v with the number n for the gap k
--   fill_cell v a      the number of a cell under a filling
--   holds v c          whether a condition holds under a filling
--   Drawn ks ns v      v gives each of the gaps ks one of the numbers ns
--   Below b v          v gives only numbers below b
--   Fresh ms n fs      fs are n different numbers, none of which is one of ms
use Rattle.std.specs.Prelude.{◌≡◌, ℕ, ◌<◌, Bool, true, false, cond as if, not, ◌&&◌, ◌||◌, List, length, ◌==◌, slice_index}
use Rattle.condition.specs.Cond.{Cell, known, gap, Cond, always, never, equal, not_so, both, either, has}

abbrev pub Filling : Type 0
Filling = ℕ → ℕ

abbrev pub put : Filling → ℕ → ℕ → Filling
put v k n j = if (j == k) n (v j)

abbrev pub fill_cell : Filling → Cell → ℕ
fill_cell v (known n) = n
fill_cell v (gap k) = v k

unfoldable pub holds : Filling → Cond → Bool
holds v always = true
holds v never = false
holds v (equal a b) = fill_cell v a == fill_cell v b
holds v (not_so c) = not (holds v c)
holds v (both c d) = holds v c && holds v d
holds v (either c d) = holds v c || holds v d

abbrev pub Drawn : List ℕ → List ℕ → Filling → Type 0
Drawn ks ns v = (k : ℕ) → has ks k ≡ true → has ns (v k) ≡ true

abbrev pub Below : ℕ → Filling → Type 0
Below b v = (k : ℕ) → v k < b

pub record Fresh (ms : List ℕ) (n : ℕ) (fs : List ℕ) : Type 0 where
  pub many : length fs ≡ n
  pub new : (i : ℕ) → i < length fs → has ms (slice_index fs i) ≡ false
  pub different : (i j : ℕ) → i < length fs → j < length fs → slice_index fs i ≡ slice_index fs j → i ≡ j
