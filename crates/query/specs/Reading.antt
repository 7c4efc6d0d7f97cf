-- Questions as numbers in memory: signs in reading order, six numbers each; after a sign stand the questions that it needs.
--
--   Sign               one sign
--   sign_in k xs       the sign of kind k, where xs are the numbers behind the kind
--   Sized              a question with its lines, its width and its cost
--   Read               a question that was read, the next sign and the numbers left; or the sign that can't be read
--   reads n ss at xs   the question that begins at sign number at
--   asked lists signs  the question that is asked
--   sized r            the question of a reading
--   question_told      number 4 with its place
--   size_told          number 5 with its place
use Rattle.std.specs.Prelude.{◌≡◌, ℕ, zero, suc, ◌+◌, ◌*◌, ◌^◌, ◌<◌, ◌≤◌, Bool, true, false, cond as if, ◌&&◌, List, [], ◌∷◌, length, take, drop, Some, None, ◌==◌, nat_le, nat_lt, slice_index, slice_index_or}
use Rattle.condition.specs.Refusals.{Told, unless, first}
use Rattle.list.specs.Layout.{shapes, lists_told}
use Rattle.query.specs.Ask.{Test, same, differ, is, is_not, Query, table, keep, columns, join, union, without}

pub data Sign : Type 0 where
  a_list : ℕ → Sign
  a_test : Test → Sign
  -- how many columns, and which
  some_columns : ℕ → List ℕ → Sign
  a_join : Sign
  a_union : Sign
  a_without : Sign
  no_sign : Sign

unfoldable pub sign_in : ℕ → List ℕ → Sign
sign_in zero xs = a_list (slice_index xs 0)
sign_in (suc zero) xs = a_test (same (slice_index xs 0) (slice_index xs 1))
sign_in (suc (suc zero)) xs = a_test (differ (slice_index xs 0) (slice_index xs 1))
sign_in (suc (suc (suc zero))) xs = a_test (is (slice_index xs 0) (slice_index xs 1))
sign_in (suc (suc (suc (suc zero)))) xs = a_test (is_not (slice_index xs 0) (slice_index xs 1))
sign_in (suc (suc (suc (suc (suc zero))))) xs = some_columns (slice_index xs 0) (take (slice_index xs 0) (drop 1 xs))
sign_in (suc (suc (suc (suc (suc (suc zero)))))) xs = a_join
sign_in (suc (suc (suc (suc (suc (suc (suc zero))))))) xs = a_union
sign_in (suc (suc (suc (suc (suc (suc (suc (suc zero)))))))) xs = a_without
sign_in (suc (suc (suc (suc (suc (suc (suc (suc (suc k))))))))) xs = no_sign

pub record Sized : Type 0 where
  pub query : Query
  -- how many lines its answer has, and how wide they are
  pub lines : ℕ
  pub width : ℕ
  -- how many nodes its conditions may take
  pub cost : ℕ

-- a list by its lines and columns
abbrev pub of_list : ℕ → ℕ × ℕ → Sized
of_list t shape = record { query = table t; lines = shape.0; width = shape.1; cost = 0 }

abbrev pub of_test : Test → Sized → Sized
of_test t s = record { query = keep t s.query; lines = s.lines; width = s.width; cost = s.cost + 3 * s.lines }

abbrev pub of_columns : ℕ → List ℕ → Sized → Sized
of_columns k ps s = record { query = columns ps s.query; lines = s.lines; width = k; cost = s.cost }

abbrev pub of_join : Sized → Sized → Sized
of_join s t =
    record { query = join s.query t.query; lines = s.lines * t.lines; width = s.width + t.width; cost = s.cost + t.cost + s.lines * t.lines }

abbrev pub of_union : Sized → Sized → Sized
of_union s t = record { query = union s.query t.query; lines = s.lines + t.lines; width = s.width; cost = s.cost + t.cost }

abbrev pub of_without : Sized → Sized → Sized
of_without s t =
    record { query = without s.query t.query; lines = s.lines; width = s.width; cost = s.cost + t.cost + s.lines * t.lines * (2 * s.width + 3) }

pub data Read : Type 0 where
  read : Sized → (next : ℕ) → (rest : List ℕ) → Read
  bad : (sign : ℕ) → Read

-- goes on with a question that was read
abbrev pub then : Read → (Sized → ℕ → List ℕ → Read) → Read
then (read s next rest) f = f s next rest
then (bad sign) f = bad sign

-- a test of the sign at a place
abbrev pub check : Bool → ℕ → Read → Read
check true at r = r
check false at r = bad at

unfoldable pub all_below : ℕ → List ℕ → Bool
all_below w [] = true
all_below w (a ∷ ps) = nat_lt a w && all_below w ps

-- the columns of a test are columns
abbrev pub test_fits : Test → ℕ → Bool
test_fits (same a b) w = nat_lt a w && nat_lt b w
test_fits (differ a b) w = nat_lt a w && nat_lt b w
test_fits (is a n) w = nat_lt a w
test_fits (is_not a n) w = nat_lt a w

-- Reads what stands behind a sign. First the sign's list, or the questions that it needs, in order; then its own columns and
-- widths.
abbrev pub by_sign : Sign → List (ℕ × ℕ) → ℕ → List ℕ → (ℕ → List ℕ → Read) → Read
by_sign (a_list t) ss at xs go = check (nat_lt t (length ss)) at (read (of_list t (slice_index_or ss t (0, 0))) (suc at) xs)
by_sign (a_test t) ss at xs go =
    then (go (suc at) xs) (λ s i ys.
    check (test_fits t s.width) at (read (of_test t s) i ys))
by_sign (some_columns k ps) ss at xs go =
    then (go (suc at) xs) (λ s i ys.
    check (nat_le 1 k && (nat_le k 4 && all_below s.width ps)) at (read (of_columns k ps s) i ys))
by_sign a_join ss at xs go =
    then (go (suc at) xs) (λ s i ys. then (go i ys) (λ t j zs.
    check (nat_le (s.width + t.width) 8) at (read (of_join s t) j zs)))
by_sign a_union ss at xs go =
    then (go (suc at) xs) (λ s i ys. then (go i ys) (λ t j zs.
    check (s.width == t.width) at (read (of_union s t) j zs)))
by_sign a_without ss at xs go =
    then (go (suc at) xs) (λ s i ys. then (go i ys) (λ t j zs.
    check (s.width == t.width) at (read (of_without s t) j zs)))
by_sign no_sign ss at xs go = bad at

-- at most n signs deep; a sign that is missing or cut can't be read
unfoldable pub reads : ℕ → List (ℕ × ℕ) → ℕ → List ℕ → Read
reads zero ss at xs = bad at
reads (suc n) ss at xs = if (nat_le 6 (length xs)) (by_sign (sign_in (slice_index xs 0) (drop 1 xs)) ss at (drop 6 xs) (λ i ys. reads n ss i ys)) (bad at)

-- at most 16 signs count
abbrev pub asked : (lists signs : List ℕ) → Read
asked lists signs = reads 16 (shapes lists) 0 (take 96 signs)

abbrev pub sized : Read → Sized
sized (read s next rest) = s
sized (bad sign) = record { query = table 0; lines = 0; width = 0; cost = 0 }

-- the sign that can't be read, or the first surplus one
abbrev pub question_told : Read → (signs : List ℕ) → Told
question_told (read s next rest) signs = unless (6 * next == length signs) 4 next
question_told (bad sign) signs = Some (4, sign)

abbrev pub sizes_told : (lines cost : ℕ) → Told
sizes_told lines cost = first (unless (nat_le lines 4096) 5 4097) (unless (nat_le cost 65536) 5 65537)

abbrev pub size_told : Sized → Told
size_told s = sizes_told s.lines s.cost

-- Sixteen signs hold at most eight lists, of at most 64 lines each: lines and cost of a question fit 64 bits by far.
abbrev pub FewLines : Type 0
FewLines = (lists signs : List ℕ) → lists_told lists ≡ None → ((sized (asked lists signs)).lines ≤ 2 ^ 48) × ((sized (asked lists signs)).cost < 2 ^ 57)
