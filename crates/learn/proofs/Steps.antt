-- The loops of writing over: one step on, and at the end.
use Rattle.std.proofs.Common.{◌≡◌, ℕ, ◌+◌, ◌-◌, ◌*◌, ◌/◌, ◌<◌, ◌≤◌, ◌≢◌, List, length, drop, refl, sym, ap, ◌∙◌, inl, inr, arith, suc-mul}
use Rattle.std.proofs.Math.Nat.{le-div_iff_mul-le}
use Rattle.std.proofs.lemmas.Bool.{cases_lt}
use Rattle.decide.specs.Standing.{whole_lines}
use Rattle.list.specs.Layout.{line_size, list_size, lines_at, columns_at, list_fits, passing}
use Rattle.list.proofs.Fitting.{passed_next}
use Rattle.list.proofs.Stepping.{left_step}
use Rattle.learn.specs.Places.{over_cell, over_cells, over_lines, over_lists}
use Rattle.learn.proofs.Meaning.{lines_behind}

pub cells_none : (k n w at : ℕ) (xs : List ℕ) → w ≡ 0 → over_cells k n w at xs ≡ xs
unfolding over_cells
cells_none k n w at xs e = rw e refl

pub cells_step : (k n w a at p : ℕ) (xs : List ℕ) → a < w → p ≡ at + 2 * a → over_cells k n (w - a) p xs ≡ over_cells k n (w - (a + 1)) (at + 2 * (a + 1)) (over_cell k n p xs)
unfolding over_cells
cells_step k n w a at p xs l e = let f : p + 2 ≡ at + 2 * (a + 1) = omega arith in
    ap (λ t. over_cells k n t p xs) (left_step w a l) ∙ ap (λ t. over_cells k n (w - (a + 1)) t (over_cell k n p xs)) f

pub lines_none : (k n m w at : ℕ) (xs : List ℕ) → m ≡ 0 → over_lines k n m w at xs ≡ xs
unfolding over_lines
lines_none k n m w at xs e = rw e refl

pub lines_step : (k n m i w at : ℕ) (xs : List ℕ) → i < m → over_lines k n (m - i) w at xs ≡ over_lines k n (m - (i + 1)) w (at + line_size w) (over_cells k n w (at + 1) xs)
unfolding over_lines
lines_step k n m i w at xs l = rw (left_step m i l) refl

-- one of n lines is left fewer
pub lines_left : (m i w : ℕ) → i < m → (m - i) * line_size w ≡ line_size w + (m - (i + 1)) * line_size w
lines_left m i w l = ap (λ t. t * line_size w) (left_step m i l) ∙ (suc-mul (m - (i + 1)) (line_size w) ∙ omega arith)

-- where fewer lines lie whole in a slice, it is too short for all
pub too_short : (n w : ℕ) (xs : List ℕ) → whole_lines n w xs ≢ n → length xs < n * line_size w
too_short n w xs ne = elim (cases_lt (length xs) (n * line_size w)) [
  | inl l ↦ l
  | inr l ↦
      let p : 0 < line_size w = omega arith in let q : n ≤ length xs / line_size w = (le-div_iff_mul-le {k = line_size w} {x = n} {y = length xs} p).1 l in
      absurd (ne (omega arith))
]

-- the list at hand, of m lines, w cells wide, which begin at p
module _ (k n : ℕ) where
  pub lists_none : (c at : ℕ) (xs : List ℕ) → c ≡ 0 → over_lists k n c at xs ≡ xs
  unfolding over_lists
  lists_none c at xs e = rw e refl

  module _ (c t at p m w : ℕ) (xs : List ℕ) (l : t < c) (begins : p ≡ at + 2) (lines : m ≡ lines_at (drop at xs)) (columns : w ≡ columns_at (drop at xs)) where
    end : at + list_size (drop at xs) ≡ p + m * line_size w
    end = rw (begins, lines, columns) (omega arith)

    pub lists_step : over_lists k n (c - t) at xs ≡ over_lists k n (c - (t + 1)) (p + m * line_size w) (over_lines k n m w p xs)
    unfolding over_lists
    lists_step =
        ap (λ i. over_lists k n i at xs) (left_step c t l)
        ∙ (ap (λ i. over_lists k n (c - (t + 1)) i (over_lines k n (lines_at (drop at xs)) (columns_at (drop at xs)) (at + 2) xs)) end
        ∙ ap (over_lists k n (c - (t + 1)) (p + m * line_size w)) (sym (rw (begins, lines, columns) refl)))

    -- the lists that are left fit as they did
    pub lists_left : passing list_fits (c - t) (drop at xs) ≡ c - t → passing list_fits (c - (t + 1)) (drop (p + m * line_size w) (over_lines k n m w p xs)) ≡ c - (t + 1)
    lists_left h =
        ap (passing list_fits (c - (t + 1))) (lines_behind k n w m p xs (p + m * line_size w) (omega arith) ∙ ap (λ i. drop i xs) (sym end))
        ∙ passed_next list_fits c t at (list_size (drop at xs)) xs l refl h
