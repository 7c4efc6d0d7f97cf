use Rattle.std.proofs.Common.{drop, length, inl, sym, ap, ◌∙◌, arith, rules, tests}
use Rattle.std.proofs.lemmas.Iterator.Adapters.{serves_from_places}
use Rattle.std.proofs.lemmas.Iterator.Consumers.{YieldsList-from_first, YieldsList-from_filter, YieldsList-at, count_from_yields_List}
use Rattle.list.specs.Layout.{cells_in}
use Rattle.list.specs.Lines.{starts, shown, lines_left}
use Rattle.list.proofs.Lined.{length_starts, start_at}
use Rattle.list.proofs.Reading.{length_lines}
use Rattle.decide.specs.Deciding.{agrees}
use Rattle.decide.specs.Sought.{lines_of}
use Rattle.decide.proofs.Looked.{agreeing_many, deciding_few}
use Rattle.decide.proofs.sought.Sought.count_lines.Goals as goal

pub count-requires-clause-can : goal.count-requires-clause-can
count-requires-clause-can c =
    let q = c.args.self.now in let w = length q.row.now in (
      tt,
      tt,
      serves_from_places (YieldsList-at c.filter.ensures.source (YieldsList-from_first shown lines_left (starts q.lines w q.answer.now) c.answer_lines.ensures))
          (λ x r k. search (rules, tests))
          (λ x k l e y h. rw (h, ap (λ p. p.0.now) c.filter.ensures.closure) (ap (λ p. p.0) (e ∙ start_at q.lines w k q.answer.now (shown x) (rw (length_starts q.lines w q.answer.now) at l)))),
    )

pub count-requires-clause-fits : goal.count-requires-clause-fits
count-requires-clause-fits c =
    let q = c.args.self.now in
    inl (rw (ap (λ s. length (lines_left s)) c.filter.ensures.source, ap length c.answer_lines.ensures, length_starts q.lines (length q.row.now) q.answer.now) (omega arith))

pub returns : goal.returns
returns c =
    let q = c.args.self.now in let w = length q.row.now in
    let e = count_from_yields_List c.filter.result c.count.result c.count.ensures.ran
    (YieldsList-from_filter _ (λ p. agrees (cells_in w (drop 1 p.1)) q.row.now) (YieldsList-at c.filter.ensures.source (YieldsList-from_first shown lines_left (starts q.lines w q.answer.now) c.answer_lines.ensures))
    c.filter.ensures.closure (λ x b r k. search (rules, tests)))
    ∙ agreeing_many q.nodes.now q.lines q.answer.now q.row.now in record {
      is = sym e;
      few = omega (arith, e, deciding_few (lines_of q) q.row.now, length_lines q.nodes.now q.lines w q.answer.now);
    }
