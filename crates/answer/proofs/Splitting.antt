-- What the sign of a question says of its plan and of the questions below it.
use Rattle.std.proofs.Common.{◌≡◌, ℕ, zero, suc, ◌+◌, ◌-◌, ◌<◌, ◌≤◌, List, length, get_or, drop, refl, ap, ◌∙◌, subst, arith, length-drop}
use Rattle.std.proofs.lemmas.List.{get_or_default}
use Rattle.list.specs.Shapes.{shape_of}
use Rattle.list.specs.declared.shapes.Shapes.{Shapes}
use Rattle.query.specs.Shapes.{test_of, columns_of, no_part, part_at}
use Rattle.query.specs.declared.Test.{Test}
use Rattle.query.specs.declared.Sign.{Sign}
use Rattle.query.specs.declared.Sign.TheVariants.{Rows, Keep, Columns, Join, Union, Without}
use Rattle.query.specs.declared.Part.{Part}
use Rattle.query.specs.declared.columns.Columns as chosen
use Rattle.answer.specs.declared.side.Side.{Side}
use Rattle.answer.specs.Plan.{Plan, list, keep, columns, join, union, without, size, Fits}
use Rattle.answer.specs.Planned.{plan_by, plan_of, Numbers, BelowBy, Counted}
use Rattle.answer.specs.Sides.{plan, below, Begins}

none : (n : ℕ) (sh : Shapes) (ps : List Part) → n ≡ 0 → Counted n sh ps → ⊥
unfolding Counted
none zero sh ps e c = c
none (suc n) sh ps e c = omega arith

unrolled : (n : ℕ) (sh : Shapes) (ps : List Part) → (n ≡ 0 → ⊥) →
    plan_of n sh ps ≡ plan_by (part_at ps 0).sign sh (λ i. plan_of (n - 1) sh (drop i ps))
unfolding plan_of
unrolled zero sh ps h = absurd (h refl)
unrolled (suc n) sh ps h = let e : suc n - 1 ≡ n = omega arith in rw e refl

pub counted : (n : ℕ) (sh : Shapes) (ps : List Part) → Counted n sh ps →
    (0 < length ps) × Numbers (part_at ps 0) (plan_of n sh ps) × BelowBy (part_at ps 0).sign sh (λ i. Counted (n - 1) sh (drop i ps))
unfolding Counted
counted zero sh ps c = absurd c
counted (suc n) sh ps c = let e : suc n - 1 ≡ n = omega arith in rw e c

-- a question that begins further on lies in the parts
pub lies : {s : Side} {k b : ℕ} → Begins s k b → k < length s.parts.now
lies {s = s} {k = k} h =
    let l : 0 < length s.parts.now - k = rw length-drop at (counted (s.left - 1) s.asked.shapes.now (drop k s.parts.now) h.sound.counted).0 in omega arith

-- a question with one below it
pub record OneBegins (s : Side) (up : Plan) : Type 0 where
  pub is : plan s ≡ up
  pub first : Begins s 1 s.base

-- a question with two below it, where the second begins k parts further on
pub record TwoBegin (s : Side) (k : ℕ) (up : Plan) : Type 0 where
  pub is : plan s ≡ up
  pub first : Begins s 1 s.base
  pub second : Begins s k (s.base + size (below s 1))

module _ (s : Side) where
  pub some_left : s.left ≡ 0 → ⊥
  some_left e = none s.left s.asked.shapes.now s.parts.now e s.sound.counted

  pub some_parts : 0 < length s.parts.now
  some_parts = (counted s.left s.asked.shapes.now s.parts.now s.sound.counted).0

  pub numbers : Numbers (part_at s.parts.now 0) (plan s)
  numbers = (counted s.left s.asked.shapes.now s.parts.now s.sound.counted).1

  -- the same of the first part, as it is read
  pub read_numbers : (d : Part) → Numbers (get_or s.parts.now 0 d) (plan s)
  read_numbers d = rw (get_or_default s.parts.now 0 d no_part some_parts) numbers

  begins : (k b : ℕ) → Counted (s.left - 1) s.asked.shapes.now (drop k s.parts.now) → Fits s.asked.lists.now s.asked.first (below s k) → b + size (below s k) ≤ 1000000 → Begins s k b
  begins k b c f l = record { sound = record { counted = c; fits = f }; low = l }

  module _ (d : Part) (g : Sign) (e : (get_or s.parts.now 0 d).sign ≡ g) where
    is : (part_at s.parts.now 0).sign ≡ g
    is = rw (get_or_default s.parts.now 0 no_part d some_parts) e

    plan_is : plan s ≡ plan_by g s.asked.shapes.now (below s)
    plan_is = unrolled s.left s.asked.shapes.now s.parts.now some_left ∙ ap (λ z. plan_by z s.asked.shapes.now (below s)) is

    counts : BelowBy g s.asked.shapes.now (λ i. Counted (s.left - 1) s.asked.shapes.now (drop i s.parts.now))
    counts = subst (λ z. BelowBy z s.asked.shapes.now (λ i. Counted (s.left - 1) s.asked.shapes.now (drop i s.parts.now))) is (counted s.left s.asked.shapes.now s.parts.now s.sound.counted).2

    fits : Fits s.asked.lists.now s.asked.first (plan_by g s.asked.shapes.now (below s))
    fits = subst (Fits s.asked.lists.now s.asked.first) plan_is s.sound.fits

  pub rows : (d : Part) (t : ℕ) → (get_or s.parts.now 0 d).sign ≡ Rows t →
      (plan s ≡ list (shape_of s.asked.shapes.now t).at (shape_of s.asked.shapes.now t).lines (shape_of s.asked.shapes.now t).width)
      × (t < s.asked.shapes.now.count) × (s.asked.shapes.now.count ≤ 8)
  rows d t e = (plan_is d (Rows t) e, (counts d (Rows t) e).0, (counts d (Rows t) e).1)

  pub kept : (d : Part) (t : Test) → (get_or s.parts.now 0 d).sign ≡ Keep t → OneBegins s (keep (test_of t) (below s 1))
  unfolding Fits size
  kept d t e = let p = plan_is d (Keep t) e in let z = ap size p in
      record { is = p; first = begins 1 s.base (counts d (Keep t) e) (fits d (Keep t) e).1 (omega (arith, z, s.low)) }

  pub cut : (d : Part) (c : chosen.Columns) → (get_or s.parts.now 0 d).sign ≡ Columns c → OneBegins s (columns (columns_of c) (below s 1))
  unfolding Fits size
  cut d c e = let p = plan_is d (Columns c) e in let z = ap size p in
      record { is = p; first = begins 1 s.base (counts d (Columns c) e) (fits d (Columns c) e).1 (omega (arith, z, s.low)) }

  pub joined : (d : Part) (k : ℕ) → (get_or s.parts.now 0 d).sign ≡ Join k → TwoBegin s k (join (below s 1) (below s k))
  unfolding Fits size
  joined d k e = let p = plan_is d (Join k) e in let z = ap size p in let c = counts d (Join k) e in let f = fits d (Join k) e in
      record { is = p; first = begins 1 s.base c.0 f.0 (omega (arith, z, s.low)); second = begins k _ c.1 f.1 (omega (arith, z, s.low)) }

  pub united : (d : Part) (k : ℕ) → (get_or s.parts.now 0 d).sign ≡ Union k → TwoBegin s k (union (below s 1) (below s k))
  unfolding Fits size
  united d k e = let p = plan_is d (Union k) e in let z = ap size p in let c = counts d (Union k) e in let f = fits d (Union k) e in
      record { is = p; first = begins 1 s.base c.0 f.1 (omega (arith, z, s.low)); second = begins k _ c.1 f.2 (omega (arith, z, s.low)) }

  pub lessened : (d : Part) (k : ℕ) → (get_or s.parts.now 0 d).sign ≡ Without k → TwoBegin s k (without (below s 1) (below s k))
  unfolding Fits size
  lessened d k e = let p = plan_is d (Without k) e in let z = ap size p in let c = counts d (Without k) e in let f = fits d (Without k) e in
      record { is = p; first = begins 1 s.base c.0 f.1 (omega (arith, z, s.low)); second = begins k _ c.1 f.2 (omega (arith, z, s.low)) }
