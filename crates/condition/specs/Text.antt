-- Cells, nodes and refusals as text, byte for byte.
--
--   cell_text c      a number as it is; a gap as g and its name
--   node_text n      a node in words, with the places that it names
--   refusal_text r   a refusal by its number and its place
use Rattle.std.specs.Prelude.{ℕ, List, ◌++◌, codes, decimal}
use Rattle.condition.specs.Refusals.{told}
use Rattle.condition.specs.declared.Cell.{Cell}
use Rattle.condition.specs.declared.Cell.TheVariants.{Number, Gap}
use Rattle.condition.specs.declared.Node.{Node}
use Rattle.condition.specs.declared.Node.TheVariants.{Always, Never, Equal, Not, Both, Either}
use Rattle.condition.specs.declared.Refusal.{Refusal}

abbrev pub cell_text : Cell → List ℕ
cell_text (Number n) = decimal n
cell_text (Gap k) = codes "g" ++ decimal k

abbrev pub node_text : Node → List ℕ
node_text Always = codes "always"
node_text Never = codes "never"
node_text (Equal a b) = cell_text a ++ (codes " = " ++ cell_text b)
node_text (Not a) = codes "not " ++ decimal a
node_text (Both a b) = codes "both " ++ (decimal a ++ (codes " " ++ decimal b))
node_text (Either a b) = codes "either " ++ (decimal a ++ (codes " " ++ decimal b))

abbrev pub refusal_text : Refusal → List ℕ
refusal_text r = codes "refused " ++ (decimal (told r).0 ++ (codes " " ++ decimal (told r).1))
