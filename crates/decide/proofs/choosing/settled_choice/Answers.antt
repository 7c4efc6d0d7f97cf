use Rattle.std.proofs.Common.{◌≡◌, true, false, take, get_or, sym, refl, ◌∙◌}
use Rattle.condition.specs.Cond.{has}
use Rattle.decide.proofs.Listing.{has_any}
use Rattle.decide.proofs.choosing.settled_choice.Goals as goal

pub returns-then-contains : goal.returns-then-contains
returns-then-contains c =
    let ns = take c.args.task.now.named c.args.task.now.pool.items in let x = get_or c.args.row.now.numbers c.args.place 0 in
    let h : has ns x ≡ true = sym (has_any ns x) ∙ (sym (rw c.deref.ensures.0 at c.contains.ensures.value) ∙ c.if-contains.true) in
    rw h refl

pub returns-else-contains : goal.returns-else-contains
returns-else-contains c =
    let ns = take c.args.task.now.named c.args.task.now.pool.items in let x = get_or c.args.row.now.numbers c.args.place 0 in
    let h : has ns x ≡ false = sym (has_any ns x) ∙ (sym (rw c.deref.ensures.0 at c.contains.ensures.value) ∙ c.if-contains.false) in
    rw (h, c.owner.ensures.is, c.deref-else-contains.ensures.0) refl
