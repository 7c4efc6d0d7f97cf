-- Numbers of 64 bits as answers.
--
--   bit l a      the answer at l of the 64 of one number
--   lane l w     the answer at l of the 256 of a word, which is four numbers
--   half t r     one of two words: for true the first
--   wide r l     the answer at l of the 512 of two words
use Rattle.std.specs.Prelude.{ℕ, ◌-◌, ◌/◌, ◌%◌, ◌^◌, Bool, true, false, cond as if, ◌==◌, nat_lt, slice_index}
use Rattle.decide.specs.declared.words.Pair.{Pair}
use Rattle.decide.specs.declared.words.Word.{Word}

abbrev pub bit : ℕ → ℕ → Bool
bit l a = a / 2 ^ l % 2 == 1

unfoldable pub lane : ℕ → Word → Bool
lane l w = bit (l % 64) (slice_index w.bits (l / 64))

abbrev pub half : Bool → Pair → Word
half true r = r.first
half false r = r.second

abbrev pub wide : Pair → ℕ → Bool
wide r l = if (nat_lt l 256) (lane l r.first) (lane (l - 256) r.second)
