-- `==` at slices and `same_row` decide the same fact.
use Rattle.std.proofs.Common.{rules}
use Rattle.std.proofs.lemmas.Slice.Eq.{slice_eq-Decides, compares_Decides}
use Rattle.std.proofs.lemmas.Bool.Decides.{same_from_decides, Decides-eqb}
use Rattle.list.specs.Lists.{same_row}
use Rattle.query.proofs.asking.same_row.Goals as goal

pub returns : goal.returns
unfolding same_row
returns c = same_from_decides _ _ (slice_eq-Decides Decides-eqb c.args.a.now c.args.b.now _ c.eq.ensures) (compares_Decides same_row (search rules) c.args.a.now c.args.b.now)
