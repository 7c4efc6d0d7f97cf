use Rattle.std.proofs.Common.{◌≤◌, [], length, arith}
use Rattle.decide.proofs.Surveyed.{cleared, cleared_long, surveyed}
use Rattle.decide.proofs.sought.Sought.survey.Goals as goal

pub invariant_of-result : goal.invariant_of-result
invariant_of-result c =
    let n = c.count-count.ensures in
    let m = c.marked.ensures in
    let l : c.count-count.result ≤ length c.args.marks.now = omega (arith, c.args.self.small) in
    let e = c.fill.ensures.after (λ y h. h) in
    record {
      surveyed =
          surveyed c.args.self _ c.mark_lines.new.marks c.close.new.marks c.note_row.new.self c.mark_lines.new.notes c.note_marked.new.self
          (omega (arith, cleared_long c.count-count.result c.fill.new.self c.args.marks.now l e)) (λ i b. cleared c.count-count.result c.fill.new.self c.args.marks.now l e i (omega arith))
          (c.note_row.ensures [] c.new-notes.ensures) c.mark_lines.ensures
          (rw n at c.close.ensures.closed) c.close.ensures.kept (rw n at c.close.ensures.reached) (rw (m.nodes, m.all, m.marks) at c.note_marked.ensures);
    }
