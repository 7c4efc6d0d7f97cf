use Rattle.std.proofs.Common.{◌≡◌, ◌+◌, get_or, drop, sym, refl, ◌∙◌, add-zero, arith, length-drop}
use Rattle.std.proofs.lemmas.List.{get_or-drop}
use Rattle.list.specs.Layout.{lines_at, columns_at}
use Rattle.list.proofs.shape.read_shape.Goals as goal

pub bounds-lists-at : goal.bounds-lists-at
bounds-lists-at c = omega (arith, c.requires.fits.some, length-drop c.args.at c.args.lists.now)

pub bounds-lists-at-2 : goal.bounds-lists-at-2
bounds-lists-at-2 c = omega (arith, c.requires.fits.some, length-drop c.args.at c.args.lists.now)

pub returns : goal.returns
returns c =
    let a : get_or c.args.lists.now c.args.at 0 ≡ lines_at (drop c.args.at c.args.lists.now) = sym (get_or-drop c.args.at c.args.lists.now 0 0 ∙ simp add-zero) in
    let b : get_or c.args.lists.now (c.args.at + 1) 0 ≡ columns_at (drop c.args.at c.args.lists.now) = sym (get_or-drop c.args.at c.args.lists.now 1 0) in
    record {
      at = refl;
      lines = a;
      width = b;
      few = omega (arith, c.requires.fits.lines);
      narrow = omega (arith, c.requires.fits.narrow);
      whole = rw (a, b) (omega (arith, c.requires.fits.whole, c.requires.fits.some, length-drop c.args.at c.args.lists.now));
    }
