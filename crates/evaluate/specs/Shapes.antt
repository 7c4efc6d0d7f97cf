-- What the code's filling stands for.
--
--   numbers_of f     the number of each gap; 0 past the 64
use Rattle.std.specs.Prelude.{slice_index}
use Rattle.evaluate.specs.Filling as fillings
use Rattle.evaluate.specs.declared.Filling.{Filling}

abbrev pub numbers_of : Filling → fillings.Filling
numbers_of f k = slice_index f.numbers k
