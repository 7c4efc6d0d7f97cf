-- Lines written one after the other, and what they are.
use Rattle.std.proofs.Common.{rules, ◌≡◌, ℕ, suc, ◌+◌, ◌*◌, ◌<◌, ◌≤◌, List, length, get_or, drop, sym, refl, ap, ◌∙◌, subst, inl, inr, suc-mul, add-one, arith, length-drop}
use Rattle.std.proofs.lemmas.List.{get_or-drop, ext_get_or, places}
use borrow.Rule.Slice.PartMut.{put_mid}
use Rattle.std.proofs.lemmas.Bool.{cases_lt}
use Rattle.condition.specs.Cond.{Cell}
use Rattle.condition.specs.Store.{cell_in, cond_at, count, Grown}
use Rattle.list.specs.Layout.{line_size, lines_in}
use Rattle.answer.specs.declared.side.Side.{Side}
use Rattle.answer.specs.Plan.{many, wide, cell_from}
use Rattle.answer.specs.Sides.{plan, node, cells}
use Rattle.answer.specs.Laid.{Laid}
use Rattle.answer.specs.Written.{Put, Written}
use Rattle.answer.proofs.Tabs.{tab_same}
use Rattle.answer.proofs.Lines.{line_of, line_same, answer_to, lines_in_tab, answer_is}
use Rattle.answer.proofs.Steps.{row}
use Rattle.answer.proofs.Views.{says_grown}

-- one line more
pub written_more : (node : ℕ → ℕ) (cells : ℕ → ℕ → Cell) (w n at s : ℕ) (xs ys zs : List ℕ) → at ≡ n * line_size w → s ≡ line_size w → at + s ≤ length ys → length zs ≡ s
    → Written node cells w n xs ys → Put (node n) (cells n) w zs → Written node cells w (n + 1) xs (put_mid at s ys zs)
written_more node cells w n at s xs ys zs u v q e a p =
    let old : (k : ℕ) → k < at → get_or (put_mid at s ys zs) k 0 ≡ get_or ys k 0 = λ k l. search (rules, places) in
    let new : (j : ℕ) → j < s → get_or (put_mid at s ys zs) (at + j) 0 ≡ get_or zs j 0 = λ j l. search (rules, places) in
    let rest : (k : ℕ) → at + s ≤ k → get_or (put_mid at s ys zs) k 0 ≡ get_or ys k 0 = λ k l. search (rules, places) in
    let size : length (put_mid at s ys zs) ≡ length ys = search (rules, places) in
    record {
      long = size ∙ a.long;
      head = λ i l. elim (cases_lt i n) [
        | inl m ↦ old (i * line_size w) (omega (arith, row i n (line_size w) m)) ∙ a.head i m
        | inr m ↦ let t : n ≡ i = omega arith in let z : n * line_size w ≡ at + 0 = omega arith in
            subst (λ t. get_or (put_mid at s ys zs) (t * line_size w) 0 ≡ node t) t (rw z (new 0 (omega arith) ∙ p.head))
      ];
      body = λ i l b h. elim (cases_lt i n) [
        | inl m ↦ let r = row i n (line_size w) m in
            rw (old (i * line_size w + 1 + 2 * b) (omega arith), old (i * line_size w + 1 + 2 * b + 1) (omega arith)) (a.body i m b h)
        | inr m ↦ let t : n ≡ i = omega arith in
            let x : n * line_size w + 1 + 2 * b ≡ at + (1 + 2 * b) = omega arith in
            let y : n * line_size w + 1 + 2 * b + 1 ≡ at + (1 + 2 * b + 1) = omega arith in
            subst (λ t. cell_in (get_or (put_mid at s ys zs) (t * line_size w + 1 + 2 * b) 0) (get_or (put_mid at s ys zs) (t * line_size w + 1 + 2 * b + 1) 0) ≡ cells t b) t
            (rw (y, x, new (1 + 2 * b) (omega arith), new (1 + 2 * b + 1) (omega arith)) (p.body b h))
      ];
      past = λ k l. let m : suc n * line_size w ≤ k = rw add-one at l in let r = suc-mul n (line_size w) in rest k (omega arith) ∙ a.past k (omega arith);
    }

-- what is written is the answer
pub written_says : (s : Side) (ns ns₁ ns₂ xs ys : List ℕ) → s.asked.first ≤ count ns → Grown ns ns₁ → Laid s ns₁ ns₂
    → Written (node s) (cells s) (wide (plan s)) (many (plan s)) xs ys → lines_in ns₂ (many (plan s)) (wide (plan s)) ys ≡ answer_to ns s.asked.lists.now (plan s)
written_says s ns ns₁ ns₂ xs ys e g a w =
    let ls = s.asked.lists.now in let p = plan s in
    lines_in_tab ns₂ (many p) (wide p) 0 ys
    ∙ (tab_same (many p) _ (line_of ns ls p) (λ i l.
    let k = 0 + i * line_size (wide p) in let z : i * line_size (wide p) ≡ k = omega arith in
    line_same _ _ _ _
    (tab_same (wide p) (cell_from ys k) (cells s i) (λ d m.
    let x : i * line_size (wide p) + 1 + 2 * d ≡ k + (1 + 2 * d) = omega arith in
    let y : i * line_size (wide p) + 1 + 2 * d + 1 ≡ k + (2 + 2 * d) = omega arith in
    rw (y, x) at (w.body i l d m)))
    (ap (cond_at ns₂) (rw z at (w.head i l)) ∙ (a.is i l ∙ says_grown ns ns₁ ls s.asked.first p i s.sound.fits l g e)))
    ∙ sym (answer_is ns ls s.asked.first p s.sound.fits))

-- past the lines the slice holds what it held
pub drop_past : (k : ℕ) (xs ys : List ℕ) → length ys ≡ length xs → ((j : ℕ) → k ≤ j → get_or ys j 0 ≡ get_or xs j 0) → drop k ys ≡ drop k xs
drop_past k xs ys e h =
    ext_get_or 0 (drop k ys) (drop k xs) (simp length-drop (rw e refl))
    (λ j l. rw (get_or-drop k ys j 0, get_or-drop k xs j 0) (h (k + j) (omega arith)))
