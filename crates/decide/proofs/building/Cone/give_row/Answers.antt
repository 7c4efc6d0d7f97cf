use Rattle.std.proofs.Common.{◌-◌, length, refl, arith}
use Rattle.decide.proofs.Kept.{same_self, same_on}
use Rattle.decide.proofs.Agreeing.{cell_named}
use Rattle.decide.proofs.Meaning.{giving_none, giving_more}
use Rattle.decide.proofs.building.Cone.give_row.Goals as goal

pub loop-a-init : goal.loop-a-init
loop-a-init c = record { same = same_self c.args.self.now; giving = giving_none c.args.self.now.nodes.now c.args.line.now.numbers.now c.args.row.now c.args.self.now.begun }

pub equal_of-equal-requires-clause-named : goal.equal_of-equal-requires-clause-named
equal_of-equal-requires-clause-named c =
    (rw c.cell.ensures (cell_named (length c.args.row.now) (c.loop-a.a - 1) c.args.line.now.numbers.now (omega arith) c.requires.line.1), refl)

pub loop-a-preserved : goal.loop-a-preserved
loop-a-preserved c =
    let e = c.equal_of-equal in let b = c.both_of-given in record {
      same = same_on c.loop-a.invariant.same (same_on e.ensures.same b.ensures.same);
      giving = giving_more c.args.self.now.nodes.now c.loop-a.self.nodes.now e.new.self.nodes.now b.new.self.nodes.now c.args.line.now.numbers.now c.args.row.now c.loop-a.a c.loop-a.given
          e.result b.result c.cell.result c.loop-a-test.true (omega arith) c.loop-a.invariant.giving c.cell.ensures e.ensures.built b.ensures.built;
    }
