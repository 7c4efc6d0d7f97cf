use Rattle.std.proofs.Common.{vec_items}
use Rattle.file_bytes.specs.Numbers.{ReadOn}
use Rattle.file_bytes.proofs.Input.numbers.Given as goal

abbrev pub invariant-loop : goal.invariant-loop
invariant-loop l = ReadOn l.counter l.initial.self.rest.now (vec_items l.initial.numbers) l.self.rest.now (vec_items l.numbers)
