use Rattle.std.proofs.Common.{◌≤◌, get_or, length, ◌/◌, ◌∙◌, arith, rules, tests}
use Rattle.std.specs.Simd.{first_chunks}
use Rattle.std.proofs.lemmas.Iterator.{YieldsList-from_slice, YieldsList-from_take}
use Rattle.std.proofs.lemmas.Iterator.Search.{all_from_yields_List}
use Rattle.list.specs.Layout.{cell_fits}
use Rattle.list.proofs.Lined.{chunks_fit}
use Rattle.list.proofs.fits.cells_fit.Goals as goal

pub returns : goal.returns
returns c =
    let xs = c.args.xs.now in let w = c.args.w in let k = length xs / 2 in
    let l : w ≤ k = omega (arith, c.requires) in
    all_from_yields_List (λ cell. cell_fits (get_or cell 0 0) (get_or cell 1 0)) _ _ _ c.all.ensures.ran
    (YieldsList-from_take w (YieldsList-from_slice (first_chunks 2 k xs) (cc)) (cc)) (λ x b q k. search (rules, tests))
    ∙ chunks_fit w k xs l
