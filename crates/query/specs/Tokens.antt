-- Signs as the code first reads them, and the parts that it writes for them.
--
--   TokenIs o s           the token o is the sign s
--   list_part, one_part, pair_part     the part of a sign and the questions behind it
--   one_fits, pair_fits                whether its columns and widths fit
use Rattle.std.specs.Prelude.{◌≡◌, ℕ, ◌+◌, ◌*◌, ◌<◌, ◌⊎◌, Bool, false, List, Some, None, Option, nat_le}
use Rattle.list.specs.declared.shape.Shape.{Shape}
use Rattle.query.specs.Reading.{a_list, a_test, some_columns, a_join, a_union, a_without, no_sign, test_fits, all_below}
use Rattle.query.specs.Reading as signs
use Rattle.query.specs.Shapes.{test_of, columns_of}
use Rattle.query.specs.declared.Sign.TheVariants.{Rows, Keep, Join, Union, Without}
use Rattle.query.specs.declared.Sign.TheVariants as signs_of
use Rattle.query.specs.declared.columns.Columns.{Columns}
use Rattle.query.specs.declared.Part.{Part}
use Rattle.query.specs.declared.reading.One.{One}
use Rattle.query.specs.declared.reading.One.TheVariants.{Test, Cut}
use Rattle.query.specs.declared.reading.Pair.{Pair}
use Rattle.query.specs.declared.reading.Pair.TheVariants.{Joined, United, Less}
use Rattle.query.specs.declared.reading.Token.{Token}
use Rattle.query.specs.declared.reading.Token.TheVariants.{Listed, Single, Double}

-- the k columns ps, which are one to four
abbrev pub CutIs : Option Columns → ℕ → List ℕ → Type 0
CutIs None k ps = (k ≡ 0) ⊎ (4 < k)
CutIs (Some c) k ps = (c.count ≡ k) × (columns_of c ≡ ps)

-- a sign with one question behind it
abbrev pub OneIs : One → signs.Sign → Type 0
OneIs (Test t) s = s ≡ a_test (test_of t)
OneIs (Cut o) s = (k : ℕ) × (ps : List ℕ) × (s ≡ some_columns k ps) × CutIs o k ps

-- a sign with two
abbrev pub pair_of : Pair → signs.Sign
pair_of Joined = a_join
pair_of United = a_union
pair_of Less = a_without

abbrev pub TokenIs : Option Token → signs.Sign → Type 0
TokenIs None s = s ≡ no_sign
TokenIs (Some (Listed t)) s = s ≡ a_list t
TokenIs (Some (Single one)) s = OneIs one s
TokenIs (Some (Double pair)) s = s ≡ pair_of pair

-- the part of list t, by its shape
abbrev pub list_part : ℕ → Shape → Part
list_part t s = record { sign = Rows t; lines = s.lines; width = s.width; cost = 0 }

-- whether the columns of a sign are columns of a question that is w wide
abbrev pub one_fits : One → ℕ → Bool
one_fits (Test t) w = test_fits (test_of t) w
one_fits (Cut None) w = false
one_fits (Cut (Some c)) w = all_below w (columns_of c)

-- the part of a sign that fits, where p is that of the question behind it
abbrev pub one_part : One → Part → Part
one_part (Test t) p = record { sign = Keep t; lines = p.lines; width = p.width; cost = p.cost + 3 * p.lines }
one_part (Cut None) p = p
one_part (Cut (Some c)) p = record { sign = signs_of.Columns c; lines = p.lines; width = c.count; cost = p.cost }

-- whether two questions, v and w wide, go together
abbrev pub pair_fits : Pair → ℕ → ℕ → Bool
pair_fits Joined v w = nat_le (v + w) 8
pair_fits United v w = lib.Dec.eqb v w
pair_fits Less v w = lib.Dec.eqb v w

abbrev pub pair_part : Pair → ℕ → Part → Part → Part
pair_part Joined second p q =
    record { sign = Join second; lines = p.lines * q.lines; width = p.width + q.width; cost = p.cost + q.cost + p.lines * q.lines }
pair_part United second p q = record { sign = Union second; lines = p.lines + q.lines; width = p.width; cost = p.cost + q.cost }
pair_part Less second p q =
    record { sign = Without second; lines = p.lines; width = p.width; cost = p.cost + q.cost + p.lines * q.lines * (2 * p.width + 3) }
