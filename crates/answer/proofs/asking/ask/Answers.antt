use Rattle.std.proofs.Common.{◌∙◌}
use Rattle.list.specs.Layout.{known_in, all_in}
use Rattle.answer.specs.Entry.{question}
use Rattle.answer.proofs.Right.{answer_right}
use Rattle.answer.proofs.Checking.{passed, says_ok}
use Rattle.answer.proofs.asking.ask.Goals as goal

pub put_answer-requires : goal.put_answer-requires
put_answer-requires c =
    let s = c.in_ok-question.ensures.value in
    record { parts = s.parts; passed = rw s.sizes (passed c.args.lists.now c.args.signs.now c.args.nodes.now c.args.out.now c.in_ok-question.ensures.refusal) }

pub returns : goal.returns
returns c =
    let s = c.in_ok-question.ensures.value in let a = rw s.sizes at c.put_answer.ensures.answered in
    record {
      says = says_ok c.args.lists.now c.args.signs.now c.args.nodes.now c.args.out.now c.lines.result c.put_answer.new.nodes c.put_answer.new.out c.in_ok-question.ensures.refusal (c.lines.ensures ∙ s.first.lines) a;
      answers = λ v h r. rw a.lines (answer_right (known_in c.args.nodes.now c.args.lists.now) (all_in c.args.nodes.now c.args.lists.now) (question c.args.lists.now c.args.signs.now).query v h r);
      stays = c.put_answer.ensures.stays;
    }
