-- A question that was read into parts: what it is, and that the parts tell the truth.
--
--   sized_of n ss ps     the question at the front of the parts ps with its lines, width and cost, over lists of the shapes ss
--   Parted n ss u ps     the question at the front of ps takes u parts: they lie in ps, say what their questions' lines, widths
--                        and costs are, and their columns and widths fit
--   Reads ..             what reading leaves behind
use Rattle.std.specs.Prelude.{◌≡◌, ℕ, zero, suc, ◌+◌, ◌-◌, ◌<◌, ◌≤◌, true, ◌⊎◌, List, length, drop, slice_index_or}
use Rattle.query.specs.Ask.{table}
use Rattle.query.specs.Reading.{Sized, of_list, of_test, of_columns, of_join, of_union, of_without, all_below, test_fits, read, reads}
use Rattle.query.specs.Shapes.{test_of, columns_of, part_at}
use Rattle.query.specs.declared.Sign.{Sign}
use Rattle.query.specs.declared.Sign.TheVariants.{Rows, Keep, Columns, Join, Union, Without}
use Rattle.query.specs.declared.Part.{Part}

-- the question of a sign, where go i gives the question that begins i parts further on
abbrev pub sized_by : Sign → List (ℕ × ℕ) → (ℕ → Sized) → Sized
sized_by (Rows t) ss go = of_list t (slice_index_or ss t (0, 0))
sized_by (Keep t) ss go = of_test (test_of t) (go 1)
sized_by (Columns c) ss go = of_columns c.count (columns_of c) (go 1)
sized_by (Join second) ss go = of_join (go 1) (go second)
sized_by (Union second) ss go = of_union (go 1) (go second)
sized_by (Without second) ss go = of_without (go 1) (go second)

unfoldable pub sized_of : ℕ → List (ℕ × ℕ) → List Part → Sized
sized_of zero ss ps = record { query = table 0; lines = 0; width = 0; cost = 0 }
sized_of (suc n) ss ps = sized_by (part_at ps 0).sign ss (λ i. sized_of n ss (drop i ps))

-- a part has the numbers of its question
pub record Numbers (p : Part) (s : Sized) : Type 0 where
  pub lines : p.lines ≡ s.lines
  pub width : p.width ≡ s.width
  pub cost : p.cost ≡ s.cost

-- lists, columns and widths of a sign fit
abbrev pub FitsBy : Sign → List (ℕ × ℕ) → (ℕ → Sized) → Type 0
FitsBy (Rows t) ss go = t < length ss
FitsBy (Keep t) ss go = test_fits (test_of t) (go 1).width ≡ true
FitsBy (Columns c) ss go = all_below (go 1).width (columns_of c) ≡ true
FitsBy (Join second) ss go = (go 1).width + (go second).width ≤ 8
FitsBy (Union second) ss go = (go 1).width ≡ (go second).width
FitsBy (Without second) ss go = (go 1).width ≡ (go second).width

-- the questions that a sign needs, each by where it begins and how many parts it takes; the sign's own takes u
abbrev pub NeedsBy : Sign → ℕ → (ℕ → ℕ → Type 0) → Type 0
NeedsBy (Rows t) u go = u ≡ 1
NeedsBy (Keep t) u go = (1 < u) × go 1 (u - 1)
NeedsBy (Columns c) u go = (1 < u) × go 1 (u - 1)
NeedsBy (Join second) u go = (1 < second) × (second < u) × go 1 (second - 1) × go second (u - second)
NeedsBy (Union second) u go = (1 < second) × (second < u) × go 1 (second - 1) × go second (u - second)
NeedsBy (Without second) u go = (1 < second) × (second < u) × go 1 (second - 1) × go second (u - second)

unfoldable pub Parted : ℕ → List (ℕ × ℕ) → ℕ → List Part → Type 0
Parted zero ss u ps = ⊥
Parted (suc n) ss u ps =
    (u ≤ length ps) × Numbers (part_at ps 0) (sized_of (suc n) ss ps)
    × FitsBy (part_at ps 0).sign ss (λ i. sized_of n ss (drop i ps))
    × NeedsBy (part_at ps 0).sign u (λ i v. Parted n ss v (drop i ps))

-- the question that begins at sign number at stands in the parts from there on up to next, the others are as they were, and rest
-- are the numbers left
pub record Reads (n : ℕ) (ss : List (ℕ × ℕ)) (at : ℕ) (xs : List ℕ) (before after : List Part) (next : ℕ) (rest : List ℕ) : Type 0 where
  pub question : Sized
  pub is : reads n ss at xs ≡ read question next rest
  pub ahead : at < next
  pub parts : Parted n ss (next - at) (drop at after)
  pub sizes : sized_of n ss (drop at after) ≡ question
  pub long : length after ≡ length before
  pub kept : (i : ℕ) → (i < at) ⊎ (next ≤ i) → part_at after i ≡ part_at before i
