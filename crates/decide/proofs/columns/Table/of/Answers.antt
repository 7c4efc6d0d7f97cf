use Rattle.std.proofs.Common.{◌≡◌, ℕ, List, [], ◌∷◌, ◌++◌, length, inl, inr, arith, length-append}
use Rattle.std.proofs.Math.Seq.{get_or-append_seam}
use Rattle.std.proofs.lemmas.Bool.{cases_lt}
use Rattle.std.proofs.lemmas.List.{get_or_append_left}
use Rattle.decide.specs.Columns.{ColumnOf, no_column, Filled}
use Rattle.decide.specs.declared.columns.Column.{Column}
use Rattle.decide.specs.declared.rows.Row.{Row}
use Rattle.decide.proofs.columns.Table.of.Goals as goal

-- one column more
filled_more : (rows : List Row) (ns : List ℕ) (cs : List Column) (c : Column) → Filled rows ns cs → ColumnOf rows (length cs) ns c → Filled rows ns (cs ++ c ∷ [])
filled_more rows ns cs c filled here p l = elim (cases_lt p (length cs)) [
  | inl b ↦ rw (get_or_append_left cs (c ∷ []) no_column p b) (filled p b)
  | inr b ↦ let e : p ≡ length cs = omega (arith, simp length-append at l) in rw (e, get_or-append_seam cs c [] no_column) here
]

pub loop-place-preserved : goal.loop-place-preserved
loop-place-preserved c =
    let i = c.loop-place.invariant in
    rw c.push.ensures.items (record {
      many = simp length-append (omega (arith, i.many));
      filled = filled_more c.args.rows.now c.args.named.now c.loop-place.columns.items _ i.filled (rw i.many (record { earlier = c.earlier.ensures; named = c.with_named.ensures }));
    })
