use Rattle.std.proofs.Common.{◌≡◌, ℕ, ◌<◌, List, length, get_or, ap, ◌∙◌}
use Rattle.std.proofs.lemmas.List.{get_or_default}
use Rattle.condition.proofs.Lists.{eqb_sym}
use Rattle.decide.specs.Columns.{no_column}
use Rattle.decide.specs.Rows.{number_at, blank}
use Rattle.decide.specs.declared.columns.Column.{Column}
use Rattle.decide.specs.declared.words.Word.{Word}
use Rattle.decide.proofs.columns.Table.pair.Goals as goal

-- the words of a column that stands, read through a slice of the columns
words_at : (xs cs : List Column) (p : ℕ) (d : Column) (ws : List Word) → xs ≡ cs → p < length cs → ws ≡ (get_or xs p d).earlier.items → ws ≡ (get_or cs p no_column).earlier.items
words_at xs cs p d ws e l h = h ∙ ap (λ (c : Column). c.earlier.items) (ap (λ (ys : List Column). get_or ys p d) e ∙ get_or_default cs p d no_column l)

pub returns-then-q-p : goal.returns-then-q-p
returns-then-q-p c =
    let t = c.args.self.now in
    rw (words_at c.deref.result.now t.columns.items c.args.p c.index-deref-p.result c.deref-then-q-p.result.now c.deref.ensures.0 c.requires.0 c.deref-then-q-p.ensures.0)
    ((t.filled c.args.p c.requires.0).earlier.each c.args.q c.if-q-p.true)

pub returns-then-p-q : goal.returns-then-p-q
returns-then-p-q c l h =
    let t = c.args.self.now in
    rw (words_at c.deref-then-p-q.result.now t.columns.items c.args.q c.index-deref-q.result c.deref-then-p-q-2.result.now c.deref-then-p-q.ensures.0 c.requires.1 c.deref-then-p-q-2.ensures.0)
    ((t.filled c.args.q c.requires.1).earlier.each c.args.p c.if-p-q.true l h
    ∙ eqb_sym (number_at (get_or t.rows.now l blank) c.args.q) (number_at (get_or t.rows.now l blank) c.args.p))
