-- The refusals of asking as numbers without places, written in another and shorter way: one test after another, over a reading of
-- the signs that does not count them. It knows no number 3, since there a node that does not stand reads as never, and it does
-- not hold the store to 131,072 nodes. SameNumber, which is proved, says that apart from these two it tells what ask_told tells.
--
--   refusal lists signs nodes out     the number, 0 for none
use Rattle.std.specs.Prelude.{◌≡◌, ℕ, zero, suc, ◌+◌, ◌*◌, ◌%◌, ◌<◌, Bool, true, false, cond as if, ◌&&◌, ◌⊎◌, List, [], ◌∷◌, length, take, drop, ◌==◌, nat_le, nat_lt, slice_index, slice_index_or}
use Rattle.condition.specs.Refusals.{number}
use Rattle.condition.specs.Store.{count}
use Rattle.list.specs.Layout.{lines_at, columns_at, list_size, line_size, lines_fit, shapes}
use Rattle.query.specs.Ask.{same, differ, is, is_not, Query, table, keep, columns, join, union, without}
use Rattle.query.specs.Reading.{all_below}
use Rattle.answer.specs.Entry.{question, ask_told}

unfoldable pub lists_fit : ℕ → List ℕ → Bool
lists_fit zero xs = true
lists_fit (suc k) xs =
    lines_fit (lines_at xs) (columns_at xs) (drop 2 xs) && (nat_le 2 (length xs) && (nat_le (lines_at xs) 64 && (nat_le 1 (columns_at xs) && (nat_le (columns_at xs) 4
    && (nat_le (list_size xs) (length xs) && lists_fit k (drop (list_size xs) xs))))))

-- a question with its lines, its columns, its cost and the numbers left
pub data Read : Type 0 where
  read : Query → ℕ → ℕ → ℕ → List ℕ → Read
  bad : Read

abbrev pub next : Read → (Query → ℕ → ℕ → ℕ → List ℕ → Read) → Read
next (read q n w c xs) f = f q n w c xs
next bad f = bad

abbrev pub ok : Bool → Read → Read
ok true r = r
ok false r = bad

unfoldable pub by_kind : ℕ → List (ℕ × ℕ) → List ℕ → (List ℕ → Read) → Read
by_kind zero ss xs go =
    ok (nat_lt (slice_index xs 0) (length ss)) (read (table (slice_index xs 0)) (slice_index_or ss (slice_index xs 0) (0, 0)).0 (slice_index_or ss (slice_index xs 0) (0, 0)).1 0 (drop 5 xs))
by_kind (suc zero) ss xs go =
    next (go (drop 5 xs)) (λ q n w c ys. ok (nat_lt (slice_index xs 0) w && nat_lt (slice_index xs 1) w) (read (keep (same (slice_index xs 0) (slice_index xs 1)) q) n w (c + 3 * n) ys))
by_kind (suc (suc zero)) ss xs go =
    next (go (drop 5 xs)) (λ q n w c ys. ok (nat_lt (slice_index xs 0) w && nat_lt (slice_index xs 1) w) (read (keep (differ (slice_index xs 0) (slice_index xs 1)) q) n w (c + 3 * n) ys))
by_kind (suc (suc (suc zero))) ss xs go =
    next (go (drop 5 xs)) (λ q n w c ys. ok (nat_lt (slice_index xs 0) w) (read (keep (is (slice_index xs 0) (slice_index xs 1)) q) n w (c + 3 * n) ys))
by_kind (suc (suc (suc (suc zero)))) ss xs go =
    next (go (drop 5 xs)) (λ q n w c ys. ok (nat_lt (slice_index xs 0) w) (read (keep (is_not (slice_index xs 0) (slice_index xs 1)) q) n w (c + 3 * n) ys))
by_kind (suc (suc (suc (suc (suc zero))))) ss xs go =
    next (go (drop 5 xs)) (λ q n w c ys. ok (nat_le 1 (slice_index xs 0) && (nat_le (slice_index xs 0) 4 && all_below w (take (slice_index xs 0) (drop 1 xs))))
    (read (columns (take (slice_index xs 0) (drop 1 xs)) q) n (slice_index xs 0) c ys))
by_kind (suc (suc (suc (suc (suc (suc zero)))))) ss xs go =
    next (go (drop 5 xs)) (λ p n w c ys. next (go ys) (λ q m v d zs. ok (nat_le (w + v) 8) (read (join p q) (n * m) (w + v) (c + d + n * m) zs)))
by_kind (suc (suc (suc (suc (suc (suc (suc zero))))))) ss xs go =
    next (go (drop 5 xs)) (λ p n w c ys. next (go ys) (λ q m v d zs. ok (w == v) (read (union p q) (n + m) w (c + d) zs)))
by_kind (suc (suc (suc (suc (suc (suc (suc (suc zero)))))))) ss xs go =
    next (go (drop 5 xs)) (λ p n w c ys. next (go ys) (λ q m v d zs. ok (w == v) (read (without p q) n w (c + d + n * m * (2 * w + 3)) zs)))
by_kind (suc (suc (suc (suc (suc (suc (suc (suc (suc k))))))))) ss xs go = bad

unfoldable pub reads : ℕ → List (ℕ × ℕ) → List ℕ → Read
reads zero ss xs = bad
reads (suc n) ss [] = bad
reads (suc n) ss (k ∷ xs) = by_kind k ss xs (λ ys. reads n ss ys)

abbrev pub asked : (lists signs : List ℕ) → Read
asked lists signs = reads 16 (shapes lists) signs

abbrev pub lines_of : Read → ℕ
lines_of (read q n w c xs) = n
lines_of bad = 0

abbrev pub width_of : Read → ℕ
width_of (read q n w c xs) = w
width_of bad = 0

abbrev pub cost_of : Read → ℕ
cost_of (read q n w c xs) = c
cost_of bad = 0

abbrev pub whole : Read → Bool
whole (read q n w c []) = true
whole (read q n w c (x ∷ xs)) = false
whole bad = false

abbrev pub refusal : (lists signs nodes out : List ℕ) → ℕ
refusal lists signs nodes out =
    if (nat_le 1 (slice_index lists 0) && (nat_le (slice_index lists 0) 8 && lists_fit (slice_index lists 0) (drop 2 lists)))
    (if (nat_le (count nodes) 131072 && nat_le (1 + 5 * count nodes) (length nodes))
    (if (nat_le (length signs) 96 && (length signs % 6 == 0 && whole (asked lists signs)))
    (if (nat_le (lines_of (asked lists signs)) 4096 && nat_le (cost_of (asked lists signs)) 65536)
    (if (nat_le (1 + 5 * (count nodes + cost_of (asked lists signs) + 2)) (length nodes))
    (if (nat_le (lines_of (asked lists signs) * line_size (width_of (asked lists signs))) (length out)) 0 7) 6) 5) 4) 2) 1

-- the same number; or 3, for a node that does not stand; or 6, for a store that would pass 131,072 nodes
abbrev pub SameNumber : Type 0
SameNumber =
    (lists signs nodes out : List ℕ) →
    (number (ask_told lists signs nodes out) ≡ refusal lists signs nodes out)
    ⊎ ((number (ask_told lists signs nodes out) ≡ 3)
    ⊎ ((number (ask_told lists signs nodes out) ≡ 6) × (131072 < count nodes + (question lists signs).cost + 2)))
