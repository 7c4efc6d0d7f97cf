use Rattle.std.proofs.Common.{vec_items}
use Rattle.file_bytes.specs.Numbers.{ReadOn}
use Rattle.file_bytes.specs.Listing.{lists_long, AllThere}
use Rattle.file_bytes.proofs.read_each.Given as goal

abbrev pub invariant-loop-i : goal.invariant-loop-i
invariant-loop-i l = record {
  read : ReadOn (lists_long l.i l.initial.input.rest.now) l.initial.input.rest.now (vec_items l.initial.lists) l.input.rest.now (vec_items l.lists);
  there : AllThere l.most l.i l.initial.input.rest.now;
}
