use Rattle.std.proofs.Common.{◌≡◌, ◌*◌, ◌<◌, ◌||◌, false, true, eqb, replicate, length, get_or, refl, sym, ap, ◌∙◌, arith, length-set}
use Rattle.std.proofs.lemmas.List.{length-replicate}
use Rattle.list.specs.Layout.{line_size}
use Rattle.learn.proofs.Lined.{lines_name_none, lines_name_more, mark_more}
use Rattle.learn.proofs.Moved.{cleared}
use Rattle.learn.proofs.tidying_lines.mark_lines.Goals as goal

pub loop-i-init : goal.loop-i-init
loop-i-init c = record {
  long = length-replicate 131072 false;
  named = λ j. cleared (replicate 131072 false) 131072 refl j ∙ sym (lines_name_none c.args.w c.args.answer.now j);
}

pub loop-i-preserved : goal.loop-i-preserved
loop-i-preserved c =
    let xs = c.args.answer.now in let i = c.loop-i.i in let at = get_or xs (i * c.line_size.result) 0 in
    let e : at ≡ get_or xs (i * line_size c.args.w) 0 = ap (λ t. get_or xs (i * t) 0) c.line_size.ensures in
    let l : at < length c.loop-i.marks = omega (arith, c.requires.inside i c.loop-i-test.true, c.loop-i.invariant.long) in record {
      long = length-set c.loop-i.marks at true ∙ c.loop-i.invariant.long;
      named = λ j. mark_more c.loop-i.marks at j l
          ∙ (rw e (ap (λ b. b || eqb (get_or xs (i * line_size c.args.w) 0) j) (c.loop-i.invariant.named j)) ∙ sym (lines_name_more i c.args.w xs j));
    }
