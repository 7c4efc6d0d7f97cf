-- Each sign by what it says of the questions below.
use Rattle.std.proofs.Common.{arith}
use Rattle.answer.proofs.Splitting.{some_parts, rows, kept, cut, joined, united, lessened}
use Rattle.answer.proofs.side.Side.split.Goals as goal

pub bounds-self-0 : goal.bounds-self-0
bounds-self-0 c = some_parts c.args.self.now

pub unwrap-requires : goal.unwrap-requires
unwrap-requires c = let r = rows c.args.self.now _ c.in-Rows.t c.in-Rows.is in grind (arith, r)

pub below-requires : goal.below-requires
below-requires c = (kept c.args.self.now _ c.in-Keep.test c.in-Keep.is).first

pub below-requires-in-Columns : goal.below-requires-in-Columns
below-requires-in-Columns c = (cut c.args.self.now _ c.in-Columns.columns c.in-Columns.is).first

pub below-p-requires : goal.below-p-requires
below-p-requires c = (joined c.args.self.now _ c.in-Join.second c.in-Join.is).first

pub below-requires-in-Join : goal.below-requires-in-Join
below-requires-in-Join c = let j = joined c.args.self.now _ c.in-Join.second c.in-Join.is in rw (c.end.ensures, c.below-p.ensures.under.base, c.below-p.ensures.is) j.second

pub below-p-requires-in-Union : goal.below-p-requires-in-Union
below-p-requires-in-Union c = (united c.args.self.now _ c.in-Union.second c.in-Union.is).first

pub below-requires-in-Union : goal.below-requires-in-Union
below-requires-in-Union c = let j = united c.args.self.now _ c.in-Union.second c.in-Union.is in rw (c.end-in-Union.ensures, c.below-p-in-Union.ensures.under.base, c.below-p-in-Union.ensures.is) j.second

pub below-p-requires-in-Without : goal.below-p-requires-in-Without
below-p-requires-in-Without c = (lessened c.args.self.now _ c.in-Without.second c.in-Without.is).first

pub below-requires-in-Without : goal.below-requires-in-Without
below-requires-in-Without c = let j = lessened c.args.self.now _ c.in-Without.second c.in-Without.is in rw (c.end-in-Without.ensures, c.below-p-in-Without.ensures.under.base, c.below-p-in-Without.ensures.is) j.second

pub returns-in-Rows : goal.returns-in-Rows
returns-in-Rows c = let r = rows c.args.self.now _ c.in-Rows.t c.in-Rows.is in let g = rw c.unwrap.ensures at c.get.ensures in rw g.1 r.0

pub returns-in-Keep : goal.returns-in-Keep
returns-in-Keep c = record { is = rw c.below.ensures.is (kept c.args.self.now _ c.in-Keep.test c.in-Keep.is).is; first = c.below.ensures.under }

pub returns-in-Columns : goal.returns-in-Columns
returns-in-Columns c = record { is = rw (c.below-in-Columns.ensures.is, c.as_slice.ensures) (cut c.args.self.now _ c.in-Columns.columns c.in-Columns.is).is; first = c.below-in-Columns.ensures.under }

pub returns-in-Join : goal.returns-in-Join
returns-in-Join c = record {
  is = rw (c.below-p.ensures.is, c.below-in-Join.ensures.is) (joined c.args.self.now _ c.in-Join.second c.in-Join.is).is;
  first = c.below-p.ensures.under;
  second = rw (c.end.ensures, c.below-p.ensures.under.base) at c.below-in-Join.ensures.under;
}

pub returns-in-Union : goal.returns-in-Union
returns-in-Union c = record {
  is = rw (c.below-p-in-Union.ensures.is, c.below-in-Union.ensures.is) (united c.args.self.now _ c.in-Union.second c.in-Union.is).is;
  first = c.below-p-in-Union.ensures.under;
  second = rw (c.end-in-Union.ensures, c.below-p-in-Union.ensures.under.base) at c.below-in-Union.ensures.under;
}

pub returns-in-Without : goal.returns-in-Without
returns-in-Without c = record {
  is = rw (c.below-p-in-Without.ensures.is, c.below-in-Without.ensures.is) (lessened c.args.self.now _ c.in-Without.second c.in-Without.is).is;
  first = c.below-p-in-Without.ensures.under;
  second = rw (c.end-in-Without.ensures, c.below-p-in-Without.ensures.under.base) at c.below-in-Without.ensures.under;
}
