-- A question that was read into parts has a plan that fits, with its lines, its width, its cost and its answer.
use Rattle.std.proofs.Common.{◌≡◌, ℕ, zero, suc, ◌+◌, ◌-◌, ◌*◌, ◌<◌, ◌≤◌, true, ltb, List, [], ◌∷◌, length, get_or, drop, None, sym, refl, ap, ◌∙◌, subst, mul_assoc, arith, length-take}
use Rattle.std.proofs.lemmas.Bool.{ltb-true, and_parts}
use Rattle.condition.specs.Store.{has_name}
use Rattle.list.specs.Layout.{line_size, list_size, shapes_in, shapes, all_in, named_below}
use Rattle.list.specs.Shapes.{shape_of, AllShaped}
use Rattle.list.specs.declared.shapes.Shapes.{Shapes}
use Rattle.list.proofs.Reading.{line_named, line_cell_named}
use Rattle.query.specs.Ask.{Test, same, differ, is, is_not}
use Rattle.query.specs.Reading.{Sized, all_below, test_fits}
use Rattle.query.specs.Shapes.{test_of, columns_of, part_at}
use Rattle.query.specs.Parts.{sized_by, sized_of, FitsBy, NeedsBy, Parted}
use Rattle.query.specs.declared.Sign.{Sign}
use Rattle.query.specs.declared.Sign.TheVariants.{Rows, Keep, Columns, Join, Union, Without}
use Rattle.query.specs.declared.Part.{Part}
use Rattle.answer.specs.Answer.{tested, cut_lines, answer}
use Rattle.answer.specs.Plan.{Plan, many, wide, size, Inside, Listed, Fits}
use Rattle.answer.specs.Planned.{plan_by, plan_of, BelowBy, Counted, Sound}
use Rattle.answer.proofs.Lines.{answer_to}
use Rattle.answer.proofs.Views.{node_at, cell_at_line}

length_shapes : (k : ℕ) (xs : List ℕ) → length (shapes_in k xs) ≡ k
unfolding shapes_in
length_shapes zero xs = refl
length_shapes (suc k) xs = ap suc (length_shapes k (drop (list_size xs) xs))

test_inside : (t : Test) (w : ℕ) → test_fits t w ≡ true → Inside t w
test_inside (same a b) w h = let p = and_parts (ltb a w) (ltb b w) h in (ltb-true a w p.0, ltb-true b w p.1)
test_inside (differ a b) w h = let p = and_parts (ltb a w) (ltb b w) h in (ltb-true a w p.0, ltb-true b w p.1)
test_inside (is a n) w h = ltb-true a w h
test_inside (is_not a n) w h = ltb-true a w h

below_at : (w : ℕ) (cs : List ℕ) → all_below w cs ≡ true → (a : ℕ) → a < length cs → get_or cs a 0 < w
unfolding all_below
below_at w [] h a l = absurd (omega arith)
below_at w (d ∷ cs) h zero l = ltb-true d w (and_parts (ltb d w) (all_below w cs) h).0
below_at w (d ∷ cs) h (suc a) l = below_at w cs (and_parts (ltb d w) (all_below w cs) h).1 a (omega arith)

some_needs : (g : Sign) (u : ℕ) (P : ℕ → ℕ → Type 0) → NeedsBy g u P → 0 < u
some_needs (Rows t) u P n = omega arith
some_needs (Keep t) u P n = omega (arith, n.0)
some_needs (Columns c) u P n = omega (arith, n.0)
some_needs (Join k) u P n = omega (arith, n.1)
some_needs (Union k) u P n = omega (arith, n.1)
some_needs (Without k) u P n = omega (arith, n.1)

module _ (ls : List ℕ) (sh : Shapes) (shaped : AllShaped ls sh) (c : ℕ) (named : named_below ls c ≡ None) where
  -- a plan has the numbers and the answer of a question
  pub record Meets (s : Sized) (p : Plan) : Type 0 where
    pub fits : Fits ls c p
    pub lines : s.lines ≡ many p
    pub width : s.width ≡ wide p
    pub cost : s.cost ≡ size p
    pub narrow : wide p ≤ 8
    pub answers : (ns : List ℕ) → answer s.query (all_in ns ls) ≡ answer_to ns ls p

  pub listed : (t : ℕ) → t < sh.count → Listed ls c (shape_of sh t).at (shape_of sh t).lines (shape_of sh t).width
  listed t l =
      let s = shaped.each t l in
      let n = (shape_of sh t).lines in let w = (shape_of sh t).width in let at = (shape_of sh t).at in
      record {
        whole = s.whole;
        narrow = s.narrow;
        stand = λ i m. let k = at + i * line_size w in subst (λ z. z < c) (node_at (drop k ls) ls k refl) (line_named c n w i at ls (drop k ls) m refl (s.named c named));
        named = λ i a m o. let k = at + i * line_size w in subst (λ z. has_name z ≡ true) (cell_at_line (drop k ls) ls k a refl) (line_cell_named n w i a at ls (drop k ls) m o refl s.cells);
      }

  module _ (u : ℕ) (f : ℕ → Sized) (h : ℕ → Plan) (C : ℕ → Type 0) (Q : ℕ → ℕ → Type 0)
      (below : (i v : ℕ) → Q i v → (f i).cost ≤ 65536 → Meets (f i) (h i) × C i) where
    by_sign : (g : Sign) → (sized_by g (shapes ls) f).cost ≤ 65536 → FitsBy g (shapes ls) f → NeedsBy g u Q → Meets (sized_by g (shapes ls) f) (plan_by g sh h) × BelowBy g sh C
    unfolding answer answer_to many wide size Fits
    by_sign (Rows t) x y z =
        let l : t < sh.count = omega (arith, shaped.count, length_shapes (get_or ls 0 0) (drop 2 ls), y) in
        let s = shaped.each t l in
        (record { fits = listed t l; lines = ap (λ q. q.0) s.is; width = ap (λ q. q.1) s.is; cost = refl; narrow = omega (arith, s.narrow); answers = λ ns. s.says ns }, (l, shaped.few))
    by_sign (Keep t) x y z =
        let m = below 1 (u - 1) z.1 (omega arith) in let p = m.0 in (
          record {
            fits = (test_inside (test_of t) (wide (h 1)) (subst (λ q. test_fits (test_of t) q ≡ true) p.width y), p.fits);
            lines = p.lines;
            width = p.width;
            cost = omega (arith, p.cost, p.lines);
            narrow = p.narrow;
            answers = λ ns. ap (tested (test_of t)) (p.answers ns);
          },
          m.1,
        )
    by_sign (Columns d) x y z =
        let m = below 1 (u - 1) z.1 (omega arith) in let p = m.0 in
        let e : d.count ≡ length (columns_of d) = rw length-take (omega (arith, d.four, d.few)) in (
          record {
            fits = (below_at (wide (h 1)) (columns_of d) (subst (λ q. all_below q (columns_of d) ≡ true) p.width y), p.fits);
            lines = p.lines;
            width = e;
            cost = p.cost;
            narrow = omega (arith, e, d.few);
            answers = λ ns. ap (cut_lines (columns_of d)) (p.answers ns);
          },
          m.1,
        )
    by_sign (Join k) x y z =
        let m = below 1 (k - 1) z.2 (omega arith) in let n = below k (u - k) z.3 (omega arith) in let p = m.0 in let q = n.0 in (
          record {
            fits = (p.fits, q.fits);
            lines = rw (p.lines, q.lines) refl;
            width = rw (p.width, q.width) refl;
            cost = rw (p.lines, q.lines, p.cost, q.cost) refl;
            narrow = omega (arith, p.width, q.width, y);
            answers = λ ns. rw (p.answers ns, q.answers ns) refl;
          },
          (m.1, n.1),
        )
    by_sign (Union k) x y z =
        let m = below 1 (k - 1) z.2 (omega arith) in let n = below k (u - k) z.3 (omega arith) in let p = m.0 in let q = n.0 in (
          record {
            fits = (sym p.width ∙ (y ∙ q.width), p.fits, q.fits);
            lines = rw (p.lines, q.lines) refl;
            width = p.width;
            cost = rw (p.cost, q.cost) refl;
            narrow = p.narrow;
            answers = λ ns. rw (p.answers ns, q.answers ns) refl;
          },
          (m.1, n.1),
        )
    by_sign (Without k) x y z =
        let m = below 1 (k - 1) z.2 (omega arith) in let n = below k (u - k) z.3 (omega arith) in let p = m.0 in let q = n.0 in (
          record {
            fits = (sym p.width ∙ (y ∙ q.width), p.fits, q.fits);
            lines = p.lines;
            width = p.width;
            cost = rw (p.lines, q.lines, p.width, p.cost, q.cost, mul_assoc (many (h 1)) (many (h k)) (2 * wide (h 1) + 3)) refl;
            narrow = p.narrow;
            answers = λ ns. rw (p.answers ns, q.answers ns) refl;
          },
          (m.1, n.1),
        )

  pub planned : (n u : ℕ) (ps : List Part) → Parted n (shapes ls) u ps → (sized_of n (shapes ls) ps).cost ≤ 65536 → Meets (sized_of n (shapes ls) ps) (plan_of n sh ps) × Counted n sh ps
  unfolding sized_of Parted plan_of Counted
  planned zero u ps p l = absurd p
  planned (suc n) u ps p l =
      let m = by_sign u (λ i. sized_of n (shapes ls) (drop i ps)) (λ i. plan_of n sh (drop i ps)) (λ i. Counted n sh (drop i ps)) (λ i v. Parted n (shapes ls) v (drop i ps))
      (λ i v q k. planned n v (drop i ps) q k) (part_at ps 0).sign l p.2 p.3 in
      let s = m.0 in let o = p.1 in (
        s,
        (
          omega (arith, p.0, some_needs (part_at ps 0).sign u (λ i v. Parted n (shapes ls) v (drop i ps)) p.3),
          record { lines = o.lines ∙ s.lines; width = o.width ∙ s.width; cost = o.cost ∙ s.cost; narrow = s.narrow; cheap = omega (arith, s.cost) },
          m.1,
        ),
      )

-- the same for the parts as they are passed on
pub record Planned (ls : List ℕ) (sh : Shapes) (c : ℕ) (s : Sized) (n : ℕ) (qs : List Part) : Type 0 where
  pub sound : Sound n sh qs ls c
  pub lines : s.lines ≡ many (plan_of n sh qs)
  pub width : s.width ≡ wide (plan_of n sh qs)
  pub cost : s.cost ≡ size (plan_of n sh qs)
  pub answers : (ns : List ℕ) → answer s.query (all_in ns ls) ≡ answer_to ns ls (plan_of n sh qs)

pub planned_at : {ls : List ℕ} {sh : Shapes} → AllShaped ls sh → {k c : ℕ} → c ≡ k → named_below ls k ≡ None → (n u : ℕ) (ps : List Part) {qs : List Part} → qs ≡ ps →
    Parted n (shapes ls) u ps → (sized_of n (shapes ls) ps).cost ≤ 65536 → Planned ls sh c (sized_of n (shapes ls) ps) n qs
planned_at {ls = ls} {sh = sh} shaped {k = k} e named n u ps f p l =
    rw (e, f) (let m = planned ls sh shaped k named n u ps p l in let s = m.0 in
    record { sound = record { counted = m.1; fits = s.fits }; lines = s.lines; width = s.width; cost = s.cost; answers = s.answers })
