use Rattle.std.proofs.Common.{◌≡◌, Some, arith}
use Rattle.file_bytes.proofs.Reading.{read_one}
use Rattle.file_bytes.proofs.Input.next.Goals as goal

pub returns-clause-read : goal.returns-clause-read
returns-clause-read c =
    let e : c.number.result ≡ Some c.in_ok-number.number = grind arith in let t = rw e at c.number.ensures in
    (t.1, read_one _ _ _ _ c.in_ok-number.number t.0 t.1 t.2 c.in_ok-push.ensures.items)
