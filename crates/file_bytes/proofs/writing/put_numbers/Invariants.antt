use Rattle.std.proofs.Common.{◌≡◌, ◌++◌, take, vec_items}
use Rattle.file_bytes.specs.Numbers.{bytes_of}
use Rattle.file_bytes.proofs.writing.put_numbers.Given as goal

abbrev pub invariant-loop-number : goal.invariant-loop-number
invariant-loop-number l = vec_items l.bytes ≡ vec_items l.initial.bytes ++ bytes_of (take l.number-index l.numbers)
