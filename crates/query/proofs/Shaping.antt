-- The shapes of lists, as questions see them.
use Rattle.std.proofs.Common.{◌≡◌, ℕ, zero, suc, List, length, get_or, drop, sym, refl, ap, ◌∙◌}
use Rattle.std.proofs.lemmas.List.FromFn.{fill_by_all}
use Rattle.list.specs.Layout.{shapes_in, shapes, list_size}
use Rattle.list.specs.Shapes.{shape_of, AllShaped}
use Rattle.list.specs.declared.shapes.Shapes.{Shapes}
use Rattle.query.specs.Shapes.{pairs_of}

length_shapes : (k : ℕ) (xs : List ℕ) → length (shapes_in k xs) ≡ k
unfolding shapes_in
length_shapes zero xs = refl
length_shapes (suc k) xs = ap suc (length_shapes k (drop (list_size xs) xs))

pub pairs_all : (lists : List ℕ) (ss : Shapes) → AllShaped lists ss → pairs_of ss ≡ shapes lists
pairs_all lists ss a =
    sym (fill_by_all (λ t. ((shape_of ss t).lines, (shape_of ss t).width)) (shapes lists) ss.count (0, 0)
    (length_shapes (get_or lists 0 0) (drop 2 lists) ∙ sym a.count) (λ k l. (a.each k l).is))
