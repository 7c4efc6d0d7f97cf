use Rattle.std.proofs.Common.{◌≡◌, [], ◌∷◌, map, reverse}
use Rattle.std.proofs.lemmas.List.{map-append, reverse-append, reverse-reverse}
use Rattle.condition.specs.Cond.{known}
use Rattle.decide.proofs.Noted.{notes_before}
use Rattle.decide.proofs.Ordering.{back_all}
use Rattle.decide.proofs.noting.Notes.note_row.Goals as goal

pub loop-number-init : goal.loop-number-init
loop-number-init c = λ ds h. h

pub loop-number-preserved : goal.loop-number-preserved
loop-number-preserved c =
    let ns = map (λ y. y.now) c.loop-number.yielded in let n = c.in-Some.number.now in
    rw (map-append (λ y. y.now) c.loop-number.yielded (c.in-Some.number ∷ []), reverse-append ns (n ∷ []))
    (notes_before (known n ∷ []) (map known (reverse ns)) c.args.self.now c.loop-number.self c.note.new.self c.loop-number.invariant c.note.ensures)

pub returns : goal.returns
returns c =
    let k : map (λ y. y.now) c.loop-number.yielded ≡ reverse c.args.row.now =
    back_all c.args.row.now c.into_iter-number-iterator.result c.loop-number.number-iterator c.next.new.self c.loop-number.yielded c.next.result
    (cc) c.loop-number.yielded_by c.next.ensures.steps c.in-None.is in
    rw (k, reverse-reverse) at c.loop-number.invariant
