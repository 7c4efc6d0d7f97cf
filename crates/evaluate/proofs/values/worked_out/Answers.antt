use Rattle.std.proofs.Common.{◌<◌, false, length, drop, ◌∙◌, rules}
use Rattle.evaluate.proofs.Worked.{refilled_at}
use Rattle.evaluate.proofs.values.worked_out.Goals as goal

pub returns : goal.returns
returns c = (
  λ j h.
      let bs = c.work_out.new.values in let n = c.in_ok-values.values.len in
      let l : j < n = search rules in
      let k : j < length bs = search rules in
      refilled_at bs (drop (length bs) c.in_ok-values.values.items) n j l k ∙ c.work_out.ensures.values j h false,
  search rules,
)
