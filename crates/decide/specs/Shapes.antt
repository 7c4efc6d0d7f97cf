-- What the code's types stand for.
--
--   value_of c       a choice as a number: that number, or the gap's own that stands nowhere
--   chosen_of f      the number of each gap; past the 64 its own that stands nowhere
--   what_of a        what is known where an answer a stands
--   out_of a         the lines of the answer a
use Rattle.std.specs.Prelude.{ℕ, List, slice_index_or}
use Rattle.condition.specs.Cond.{Cond}
use Rattle.condition.specs.Store.{cond_at}
use Rattle.evaluate.specs.Filling.{Filling}
use Rattle.list.specs.Layout.{lines_in}
use Rattle.list.specs.Lists.{Line}
use Rattle.decide.specs.Choice.{nowhere}
use Rattle.decide.specs.declared.answered.Answered.{Answered}
use Rattle.decide.specs.declared.candidates.Choice.{Choice}
use Rattle.decide.specs.declared.candidates.Choice.TheVariants.{Number, Nowhere}
use Rattle.decide.specs.declared.candidates.Chosen.{Chosen}

abbrev pub value_of : Choice → ℕ
value_of (Number n) = n
value_of (Nowhere k) = nowhere k

abbrev pub chosen_of : Chosen → Filling
chosen_of f k = value_of (slice_index_or f.choices k (Nowhere k))

abbrev pub what_of : Answered → Cond
what_of a = cond_at a.nodes.now a.known

abbrev pub out_of : Answered → List Line
out_of a = lines_in a.nodes.now a.lines a.width a.answer.now
