-- The lists mean the same in a grown store.
use Rattle.std.proofs.Common.{◌≡◌, ℕ, ◌+◌, ◌*◌, ◌<◌, ltb, List, [], get_or, drop, None, sym, refl, ◌∙◌, arith}
use Rattle.std.proofs.lemmas.List.{ext_get_or}
use Rattle.std.proofs.lemmas.Bool.{ltb-true}
use Rattle.condition.specs.Refusals.{unless}
use Rattle.condition.specs.Store.{count, Grown}
use Rattle.condition.proofs.Growing.{grown_cond}
use Rattle.condition.proofs.Refusing.{first_none, unless_none}
use Rattle.list.specs.Layout.{line_size, lines_in, all_in, all_pass, list_named, named_below}
use Rattle.list.specs.Shapes.{shape_of, AllShaped}
use Rattle.list.specs.declared.shapes.Shapes.{Shapes}
use Rattle.list.proofs.Reading.{length_lists}
use Rattle.answer.specs.Entry.{Stays}
use Rattle.answer.specs.Plan.{Listed}
use Rattle.answer.proofs.Tabs.{tab_same}
use Rattle.answer.proofs.Lines.{line_same, lines_in_tab}
use Rattle.answer.proofs.Planning.{listed}

lines_stay : (ns ns₁ ls : List ℕ) (at n w : ℕ) → Grown ns ns₁ → Listed ls (count ns) at n w → lines_in ns₁ n w (drop at ls) ≡ lines_in ns n w (drop at ls)
lines_stay ns ns₁ ls at n w g l =
    lines_in_tab ns₁ n w at ls
    ∙ (tab_same n _ _ (λ i m. line_same _ _ _ _ refl (grown_cond ns ns₁ g (get_or ls (at + i * line_size w) 0) (l.stand i m)))
    ∙ sym (lines_in_tab ns n w at ls))

pub stays : (ls : List ℕ) (sh : Shapes) (ns ns₁ : List ℕ) → AllShaped ls sh → named_below ls (count ns) ≡ None → Grown ns ns₁ → Stays ls ns ns₁
stays ls sh ns ns₁ shaped named g =
    let k = unless_none (ltb (get_or ls 1 0) (count ns)) 3 8 (first_none (all_pass (list_named (count ns)) ls 3) (unless (ltb (get_or ls 1 0) (count ns)) 3 8) named).1 in
    record {
      conditions = λ j l. grown_cond ns ns₁ g j l;
      known = grown_cond ns ns₁ g (get_or ls 1 0) (ltb-true (get_or ls 1 0) (count ns) k);
      all = ext_get_or [] (all_in ns₁ ls) (all_in ns ls) (length_lists ns₁ (get_or ls 0 0) (drop 2 ls) ∙ sym (length_lists ns (get_or ls 0 0) (drop 2 ls)))
          (λ t l.
          let m : t < sh.count = omega (arith, length_lists ns₁ (get_or ls 0 0) (drop 2 ls), shaped.count) in
          let s = shaped.each t m in
          s.says ns₁ ∙ (lines_stay ns ns₁ ls (shape_of sh t).at (shape_of sh t).lines (shape_of sh t).width g (listed ls sh shaped (count ns) named t m) ∙ sym (s.says ns)));
    }
