use Rattle.std.proofs.Common.{◌≡◌, ℕ, ◌<◌, length, get_or}
use Rattle.decide.specs.Columns.{Alike, no_word}
use Rattle.decide.proofs.columns.earlier.Given as goal

abbrev pub invariant-loop-q : goal.invariant-loop-q
invariant-loop-q l = record {
  many : length l.words.items ≡ l.q-counter;
  each : (q : ℕ) → q < l.q-counter → Alike l.rows l.place q (get_or l.words.items q no_word);
}
