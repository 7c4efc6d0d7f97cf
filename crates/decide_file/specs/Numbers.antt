-- The numbers that stand in a text.
--
--   numbers bs    the numbers in the bytes, in order; a number is as many digits in a row as there are
--   scan s bs     the same, where the digits of s, if there are some, stand right before
--   plain bs      there is no digit
--   Whole xs      a store with all the nodes that its count says, and nothing behind them
--
-- The digit 0 is the byte 48.
use Rattle.std.specs.Prelude.{◌≡◌, ℕ, ◌+◌, ◌-◌, ◌*◌, Bool, cond as if, not, List, [], ◌∷◌, length, Some, None, Option, slice_index}
use Rattle.std.specs.Char.{is_ascii_digit}
use Rattle.std.specs.List.{list_all}

unfoldable pub scan : Option ℕ → List ℕ → List ℕ
scan None [] = []
scan (Some n) [] = n ∷ []
scan None (b ∷ bs) = if (is_ascii_digit b) (scan (Some (b - 48)) bs) (scan None bs)
scan (Some n) (b ∷ bs) = if (is_ascii_digit b) (scan (Some (n * 10 + (b - 48))) bs) (n ∷ scan None bs)

abbrev pub numbers : List ℕ → List ℕ
numbers bs = scan None bs

abbrev pub plain : List ℕ → Bool
plain bs = list_all (λ b. not (is_ascii_digit b)) bs

abbrev pub Whole : List ℕ → Type 0
Whole xs = length xs ≡ 1 + 5 * slice_index xs 0
