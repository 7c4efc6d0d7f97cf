-- Lists in a file, and what is told where they are not there.
--
--   list_long bs             how many numbers the list at the front of the bytes bs takes
--   lists_long k bs          how many numbers the k lists at the front take
--   behind_lists k bs        the bytes behind them
--   ListThere most bs        the list at the front has at most so many lines and 1 to 4 columns, and is not cut short
--   AllThere most k bs       so have the k lists at the front
--   FirstCut most k bs j     of the k lists the one with number j is the first that has not
--   EachTold most k bs e     the refusal e is told of k lists: 1 and the first that is not there, or want of memory
--   lists_in_file bs         how many numbers lists take, with their count and the node of what is known
--   ListsThere most bs       1 to 8 lists are there, each of at most so many lines, and of 64
--   ListsTold most bs e      the refusal e is told of lists
use Rattle.std.specs.Prelude.{◌≡◌, ℕ, zero, suc, ◌+◌, ◌*◌, ◌<◌, ◌≤◌, ◌⊎◌, min, List, length, drop}
use Rattle.condition.specs.declared.Refusal.{Refusal}
use Rattle.condition.specs.declared.Refusal.TheVariants.{BadLists, NoMemory}
use Rattle.file_bytes.specs.Numbers.{number_at}

abbrev pub list_long : List ℕ → ℕ
list_long bs = 2 + number_at bs * (1 + 2 * number_at (drop 4 bs))

unfoldable pub lists_long : ℕ → List ℕ → ℕ
lists_long zero bs = 0
lists_long (suc k) bs = list_long bs + lists_long k (drop (4 * list_long bs) bs)

abbrev pub behind_lists : ℕ → List ℕ → List ℕ
behind_lists k bs = drop (4 * lists_long k bs) bs

abbrev pub ListThere : ℕ → List ℕ → Type 0
ListThere most bs =
    (8 ≤ length bs) × (number_at bs ≤ most) × (1 ≤ number_at (drop 4 bs)) × (number_at (drop 4 bs) ≤ 4) × (4 * list_long bs ≤ length bs)

abbrev pub AllThere : (most k : ℕ) → List ℕ → Type 0
AllThere most k bs = (j : ℕ) → j < k → ListThere most (behind_lists j bs)

abbrev pub FirstCut : (most k : ℕ) → List ℕ → ℕ → Type 0
FirstCut most k bs j = (j < k) × AllThere most j bs × (ListThere most (behind_lists j bs) → ⊥)

abbrev pub EachTold : (most k : ℕ) → List ℕ → Refusal → Type 0
EachTold most k bs e = (e ≡ NoMemory) ⊎ ((j : ℕ) × ((e ≡ BadLists j) × FirstCut most k bs j))

abbrev pub lists_in_file : List ℕ → ℕ
lists_in_file bs = 2 + lists_long (number_at bs) (drop 8 bs)

abbrev pub ListsThere : ℕ → List ℕ → Type 0
ListsThere most bs = (8 ≤ length bs) × (1 ≤ number_at bs) × (number_at bs ≤ 8) × AllThere (min most 64) (number_at bs) (drop 8 bs)

-- at place 0 where the count is missing or 0, or the node of what is known is missing; at place 8 where there are more
abbrev pub ListsTold : ℕ → List ℕ → Refusal → Type 0
ListsTold most bs e =
    (((e ≡ BadLists 0) × ((length bs < 8) ⊎ (number_at bs < 1))) ⊎ ((e ≡ BadLists 8) × (8 < number_at bs)))
    ⊎ EachTold (min most 64) (number_at bs) (drop 8 bs) e
