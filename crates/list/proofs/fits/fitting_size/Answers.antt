use Rattle.std.proofs.Common.{arith}
use Rattle.std.proofs.lemmas.Bool.Decides.{nat_tests}
use Rattle.std.proofs.lemmas.List.{take_rest}
use Rattle.list.specs.Layout.{list_fits}
use Rattle.list.proofs.fits.fitting_size.Goals as goal
use Rattle.list.proofs.fits.fitting_size.Goals.{then-size-xs-via-then-size-xs, then-size-xs-via-else-size-xs+then-not-any_lines_fit}

pub returns-then-xs-lt2 : goal.returns-then-xs-lt2
unfolding list_fits
returns-then-xs-lt2 c = grind (arith, nat_tests)

pub returns-then-lines-gt64 : goal.returns-then-lines-gt64
unfolding list_fits
returns-then-lines-gt64 c = grind (arith, nat_tests)

pub returns-then-size-xs : goal.returns-then-size-xs
unfolding list_fits
returns-then-size-xs c =
    elim c.then-size-xs.branch [
      | then-size-xs-via-then-size-xs w ↦ grind (arith, nat_tests)
      | then-size-xs-via-else-size-xs+then-not-any_lines_fit w ↦ let p = simp take_rest at w.any_lines_fit.ensures in grind (arith, nat_tests)
    ]

pub returns : goal.returns
unfolding list_fits
returns c = let p = simp take_rest at c.any_lines_fit.ensures in (grind (arith, nat_tests), grind arith, omega arith)
