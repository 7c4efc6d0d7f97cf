use Rattle.std.proofs.Common.{below_more, arith}
use Rattle.std.proofs.lemmas.Result.{err_from_is_err_and}
use Rattle.file_bytes.proofs.Reading.{read_none, lists_none, each_more, each_told}
use Rattle.file_bytes.proofs.read_each.Goals as goal

pub loop-i-init : goal.loop-i-init
loop-i-init c = record { read = rw (lists_none c.args.input.now.rest.now) (read_none _ _); there = λ j l. absurd (omega arith) }

pub loop-i-preserved : goal.loop-i-preserved
loop-i-preserved c = record {
  read = each_more c.loop-i.i _ _ _ _ _ _ c.loop-i.invariant.read c.in_ok-read_list.ensures.read;
  there = below_more _ _ c.loop-i.invariant.there (rw (← c.loop-i.invariant.read.1) c.in_ok-read_list.ensures.there);
}

pub returns-in_err-read_list-clause-refused : goal.returns-in_err-read_list-clause-refused
returns-in_err-read_list-clause-refused c =
    let p = err_from_is_err_and c.from_residual.result c.from_residual.ensures.1 in
    rw (p.1, p.2) (each_told c.args.most c.args.count c.loop-i.i c.args.input.now.rest.now c.loop-i.input.rest.now c.in_err-read_list.field-0.0 (omega arith)
    c.loop-i.invariant.read.1 c.loop-i.invariant.there c.in_err-read_list.ensures.refused)
