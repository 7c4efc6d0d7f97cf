use Rattle.std.proofs.Common.{rules}
use Rattle.file_bytes.proofs.Reading.{each_of, lists_read}
use Rattle.file_bytes.proofs.read_lists.Goals as goal

pub returns-in_err-read_each-clause-refused : goal.returns-in_err-read_each-clause-refused
returns-in_err-read_each-clause-refused c =
    let h = each_of _ _ _ _ _ _ c.in_ok-count.count c.in_ok-next.field-0 c.in_ok-count.ensures.read c.in_ok-next.ensures.read c.args.most c.min.result c.in_err-read_each.field-0.0 c.min.ensures
    c.in_err-read_each.ensures.refused in
    search rules

pub returns-clause-read : goal.returns-clause-read
returns-clause-read c =
    lists_read _ _ _ _ _ _ c.in_ok-count.count c.in_ok-next.field-0 c.in_ok-count.ensures.read c.in_ok-next.ensures.read _ _ c.new-lists.ensures.items c.in_ok-read_each.ensures.read
