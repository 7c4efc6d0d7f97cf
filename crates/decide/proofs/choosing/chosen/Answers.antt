use Rattle.std.proofs.Common.{◌≡◌, ℕ, ◌<◌, ◌≤◌, List, Some, None, Option, sym, refl, ap, ◌∙◌, inl, inr, arith}
use Rattle.std.specs.List.{All}
use Rattle.std.proofs.lemmas.Bool.{cases_lt, cases_eq}
use Rattle.std.proofs.lemmas.Grind.{get_or-set_at}
use Rattle.std.proofs.lemmas.List.{get_or_past, get_or-set_other, length-set}
use Rattle.decide.specs.Rows.{place}
use Rattle.decide.specs.Search.{tried}
use Rattle.decide.specs.Shapes.{value_of}
use Rattle.decide.specs.declared.candidates.Choice.TheVariants.{Nowhere}
use Rattle.decide.proofs.Listing.{place_back}
use Rattle.decide.proofs.choosing.chosen.Goals as goal

no_place : (gs : List ℕ) → All (λ g. g < 64) gs → (k : ℕ) → 64 ≤ k → place gs k ≡ None
no_place gs low k l = go (place gs k) refl
  where
    go : (o : Option ℕ) → place gs k ≡ o → o ≡ None
    go None e = refl
    go (Some p) e = let b = place_back gs k p e in absurd (omega (arith, low p 0 b.0, b.1))

pub loop-gap-preserved : goal.loop-gap-preserved
loop-gap-preserved c =
    let xs = c.loop-gap.choices in let i = c.loop-gap.gap in let here = c.loop-gap.invariant in (
      length-set xs i c.choice.result ∙ here.0,
      λ k h. elim (cases_eq k i) [
        | inl e ↦ ap value_of (get_or-set_at xs i k c.choice.result (Nowhere k) e (omega (arith, here.0))) ∙ rw (sym e) at c.choice.ensures
        | inr n ↦ ap value_of (get_or-set_other xs i k c.choice.result (Nowhere k) n) ∙ here.1 k (omega (arith, n))
      ],
    )

pub returns-clause-each : goal.returns-clause-each
returns-clause-each c k = elim (cases_lt k 64) [
  | inl l ↦ c.loop-gap.invariant.1 k (omega (arith, c.loop-gap-test.false))
  | inr l ↦
      rw (no_place (tried c.args.task.now) c.args.task.now.gaps.low k l) (ap value_of (get_or_past c.loop-gap.choices k (Nowhere k) (omega (arith, c.loop-gap.invariant.0))))
]
