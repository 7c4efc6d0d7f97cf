use Rattle.std.proofs.Common.{◌≡◌, ◌+◌, ◌*◌, ◌≤◌, ◌≢◌, length, refl, ◌∙◌, arith}
use Rattle.std.proofs.lemmas.Bool.{lt-leb}
use Rattle.list.specs.Layout.{line_size}
use Rattle.decide.specs.Standing.{whole_lines}
use Rattle.learn.specs.Places.{over_lines}
use Rattle.learn.proofs.Steps.{too_short}
use Rattle.learn.proofs.Meaning.{lines_mean, lines_name, lines_fits, lines_behind, same_at}
use Rattle.learn.proofs.over.write_over_answer.Goals as goal

pub returns-then-whole-lines-clause-refusal : goal.returns-then-whole-lines-clause-refusal
returns-then-whole-lines-clause-refusal c =
    let m = c.args.lines in let w = c.args.width in let xs = c.args.answer.now in
    let ne : whole_lines m w xs ≢ m = λ e. c.if-whole-lines.true (c.whole_lines-whole.ensures.is ∙ e) in
    rw (lt-leb (m * line_size w) (length xs) (too_short m w xs ne)) refl

pub returns-clause-over : goal.returns-clause-over
returns-clause-over c =
    let xs = c.args.answer.now in let k = c.args.gap in let n = c.args.number in let m = c.args.lines in let w = c.args.width in
    let e : c.over_lines.new.xs ≡ over_lines k n m w 0 xs = rw c.if-whole-lines.false at c.over_lines.ensures in
    let h : m * line_size w ≤ length xs = rw c.if-whole-lines.false at c.whole_lines-whole.ensures.inside in
    let l : 0 + m * line_size w ≤ length xs = omega arith in
    rw e record {
      lines = λ nodes. lines_mean k n w nodes m 0 xs l;
      named = λ c. lines_name k n w c m 0 xs;
      cells = lines_fits k n w m 0 xs l;
      behind = λ j p. same_at j xs (over_lines k n m w 0 xs) (lines_behind k n w m 0 xs j (omega arith));
    }
