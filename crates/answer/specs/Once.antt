-- That a question has a plan that fits has at most one proof, as a fact that a struct holds must have.
use Rattle.std.specs.Prelude.{◌≡◌, ℕ, zero, suc, Bool, List}
use Rattle.std.specs.Coded.{Coded-set, coded_bool, coded_ℕ, ×_prop, Π_prop, le_prop}
use Rattle.list.specs.declared.shapes.Shapes.{Shapes}
use Rattle.query.specs.Ask.{Test, same, differ, is, is_not}
use Rattle.query.specs.declared.Part.{Part}
use Rattle.query.specs.declared.Sign.{Sign}
use Rattle.query.specs.declared.Sign.TheVariants.{Rows, Keep, Columns, Join, Union, Without}
use Rattle.answer.specs.Plan.{Plan, list, keep, columns, join, union, without, Inside, Listed, Fits}
use Rattle.answer.specs.Planned.{Numbers, BelowBy, Counted, Sound}

number : (a b : ℕ) → IsProp (a ≡ b)
number a b = Coded-set coded_ℕ a b

bool : (a b : Bool) → IsProp (a ≡ b)
bool a b = Coded-set coded_bool a b

Listed-prop : {ls : List ℕ} {c at n w : ℕ} → IsProp (Listed ls c at n w)
Listed-prop a b = λ i. record {
  whole = le_prop a.whole b.whole i;
  narrow = le_prop a.narrow b.narrow i;
  stand = Π_prop (λ _. Π_prop (λ _. le_prop)) a.stand b.stand i;
  named = Π_prop (λ _. Π_prop (λ _. Π_prop (λ _. Π_prop (λ _. bool _ _)))) a.named b.named i;
}

Inside-prop : (t : Test) (w : ℕ) → IsProp (Inside t w)
Inside-prop (same a b) w = ×_prop le_prop le_prop
Inside-prop (differ a b) w = ×_prop le_prop le_prop
Inside-prop (is a n) w = le_prop
Inside-prop (is_not a n) w = le_prop

Fits-prop : (ls : List ℕ) (c : ℕ) (p : Plan) → IsProp (Fits ls c p)
unfolding Fits
Fits-prop ls c (list at n w) = Listed-prop
Fits-prop ls c (keep t p) = ×_prop (Inside-prop t _) (Fits-prop ls c p)
Fits-prop ls c (columns cs p) = ×_prop (Π_prop (λ _. Π_prop (λ _. le_prop))) (Fits-prop ls c p)
Fits-prop ls c (join p q) = ×_prop (Fits-prop ls c p) (Fits-prop ls c q)
Fits-prop ls c (union p q) = λ a b i. (number _ _ a.0 b.0 i, Fits-prop ls c p a.1 b.1 i, Fits-prop ls c q a.2 b.2 i)
Fits-prop ls c (without p q) = λ a b i. (number _ _ a.0 b.0 i, Fits-prop ls c p a.1 b.1 i, Fits-prop ls c q a.2 b.2 i)

Numbers-prop : {part : Part} {p : Plan} → IsProp (Numbers part p)
Numbers-prop a b = λ i. record {
  lines = number _ _ a.lines b.lines i;
  width = number _ _ a.width b.width i;
  cost = number _ _ a.cost b.cost i;
  narrow = le_prop a.narrow b.narrow i;
  cheap = le_prop a.cheap b.cheap i;
}

BelowBy-prop : (g : Sign) (sh : Shapes) (go : ℕ → Type 0) → ((i : ℕ) → IsProp (go i)) → IsProp (BelowBy g sh go)
BelowBy-prop (Rows t) sh go one = ×_prop le_prop le_prop
BelowBy-prop (Keep t) sh go one = one 1
BelowBy-prop (Columns c) sh go one = one 1
BelowBy-prop (Join second) sh go one = ×_prop (one 1) (one second)
BelowBy-prop (Union second) sh go one = ×_prop (one 1) (one second)
BelowBy-prop (Without second) sh go one = ×_prop (one 1) (one second)

Counted-prop : (n : ℕ) (sh : Shapes) (ps : List Part) → IsProp (Counted n sh ps)
unfolding Counted
Counted-prop zero sh ps = λ a b. absurd a
Counted-prop (suc n) sh ps = λ a b i. (le_prop a.0 b.0 i, Numbers-prop a.1 b.1 i, BelowBy-prop _ sh _ (λ k. Counted-prop n sh _) a.2 b.2 i)

pub Sound-prop : (n : ℕ) (sh : Shapes) (ps : List Part) (ls : List ℕ) (c : ℕ) → IsProp (Sound n sh ps ls c)
Sound-prop n sh ps ls c a b = λ i. record { counted = Counted-prop n sh ps a.counted b.counted i; fits = Fits-prop ls c _ a.fits b.fits i }
