-- Each line of an answer, by its place.
use Rattle.std.proofs.Common.{◌≡◌, ℕ, zero, suc, ◌+◌, ◌-◌, ◌*◌, ◌/◌, ◌%◌, ◌<◌, List, [], ◌∷◌, ◌++◌, length, get_or, drop, sym, refl, ap, ◌∙◌, inl, inr, add-zero, mul-zero, zero-add, zero-mul, arith}
use Rattle.std.proofs.lemmas.List.{get_or-drop}
use Rattle.std.proofs.lemmas.Bool.{cases_lt, lt-ltb, le-ltb}
use Rattle.condition.specs.Cond.{Cell, known, Cond, always, both, not_so}
use Rattle.condition.specs.Store.{cond_at}
use Rattle.list.specs.Lists.{Line}
use Rattle.list.specs.Layout.{line_size, cells_in, lines_in}
use Rattle.list.proofs.Reading.{length_cells, length_lines, line_cell_at, line_of_part}
use Rattle.query.specs.Ask.{Test, same, differ, is, is_not}
use Rattle.answer.specs.Answer.{at, test_of, tested, some_cells, cut_lines, line_beside, lines_joined, cells_same, spared, lines_less}
use Rattle.answer.specs.Plan.{Plan, list, keep, columns, join, union, without, many, wide, cell_from, cell, says, tests, Inside, rid, equals, Fits}
use Rattle.answer.proofs.Tabs.{tab, tab_same, as_tab, getD_tab, tab_union, tab_pairs}

-- line i of the answer
abbrev pub line_of : List ℕ → List ℕ → Plan → ℕ → Line
line_of ns ls p i = record { cells = tab (wide p) (cell ls p i); if_so = says ns ls p i }

-- the answer to a plan, its lists read with the nodes ns
unfoldable pub answer_to : List ℕ → List ℕ → Plan → List Line
answer_to ns ls (list at n w) = lines_in ns n w (drop at ls)
answer_to ns ls (keep t p) = tested t (answer_to ns ls p)
answer_to ns ls (columns ps p) = cut_lines ps (answer_to ns ls p)
answer_to ns ls (join p q) = lines_joined (answer_to ns ls p) (answer_to ns ls q)
answer_to ns ls (union p q) = answer_to ns ls p ++ answer_to ns ls q
answer_to ns ls (without p q) = lines_less (answer_to ns ls p) (answer_to ns ls q)

pub line_same : (cs ds : List Cell) (c d : Cond) → cs ≡ ds → c ≡ d → ◌≡◌ {A = Line} (record { cells = cs; if_so = c }) (record { cells = ds; if_so = d })
line_same cs ds c d e h = rw (e, h) refl

pub tested_tab : (t : Test) (n : ℕ) (f : ℕ → Line) → tested t (tab n f) ≡ tab n (λ i. record { cells = (f i).cells; if_so = both (f i).if_so (test_of t (f i).cells) })
unfolding tested tab
tested_tab t zero f = refl
tested_tab t (suc n) f = rw (tested_tab t n (λ i. f (suc i))) refl

pub test_tab : (t : Test) (w : ℕ) (f : ℕ → Cell) → Inside t w → test_of t (tab w f) ≡ tests t f
unfolding test_of
test_tab (same a b) w f h = rw (getD_tab w f a (known 0) h.0, getD_tab w f b (known 0) h.1) refl
test_tab (differ a b) w f h = rw (getD_tab w f a (known 0) h.0, getD_tab w f b (known 0) h.1) refl
test_tab (is a n) w f h = rw (getD_tab w f a (known 0) h) refl
test_tab (is_not a n) w f h = rw (getD_tab w f a (known 0) h) refl

pub cut_tab : (ps : List ℕ) (n : ℕ) (f : ℕ → Line) → cut_lines ps (tab n f) ≡ tab n (λ i. record { cells = some_cells ps (f i).cells; if_so = (f i).if_so })
unfolding cut_lines tab
cut_tab ps zero f = refl
cut_tab ps (suc n) f = rw (cut_tab ps n (λ i. f (suc i))) refl

pub some_tab : (ps : List ℕ) (w : ℕ) (f : ℕ → Cell) → ((a : ℕ) → a < length ps → get_or ps a 0 < w) → some_cells ps (tab w f) ≡ tab (length ps) (λ a. f (get_or ps a 0))
unfolding some_cells tab
some_tab [] w f h = refl
some_tab (p ∷ ps) w f h = rw (getD_tab w f p (known 0) (h 0 (omega arith)), some_tab ps w f (λ a l. h (suc a) (omega arith))) refl

abbrev beside : Line → Line → Line
beside l m = record { cells = l.cells ++ m.cells; if_so = both l.if_so m.if_so }

beside_tab : (l : Line) (n : ℕ) (f : ℕ → Line) → line_beside l (tab n f) ≡ tab n (λ i. beside l (f i))
unfolding line_beside tab
beside_tab l zero f = refl
beside_tab l (suc n) f = rw (beside_tab l n (λ i. f (suc i))) refl

join_none : (n : ℕ) (f g : ℕ → Line) → lines_joined (tab n f) (tab 0 g) ≡ []
unfolding lines_joined line_beside tab
join_none zero f g = refl
join_none (suc n) f g = join_none n (λ i. f (suc i)) g

pub join_tab : (n m : ℕ) (f g : ℕ → Line) → lines_joined (tab n f) (tab m g) ≡ tab (n * m) (λ i. beside (f (i / m)) (g (i % m)))
unfolding lines_joined tab
join_tab zero m f g = rw (zero-mul m) refl
join_tab (suc n) zero f g = join_none (suc n) f g ∙ rw (mul-zero (suc n)) refl
join_tab (suc n) (suc m) f g =
    ap (λ t. t ++ lines_joined (tab n (λ i. f (suc i))) (tab (suc m) g)) (beside_tab (f 0) (suc m) g)
    ∙ (ap (λ t. tab (suc m) (λ j. beside (f 0) (g j)) ++ t) (join_tab n (suc m) (λ i. f (suc i)) g) ∙ tab_pairs n (suc m) (λ i j. beside (f i) (g j)) (omega arith))

-- the same cells, from column a on
cells_tab : (r a : ℕ) (f g : ℕ → Cell) → cells_same (tab r (λ i. f (a + i))) (tab r (λ i. g (a + i))) ≡ equals r a f g
unfolding cells_same tab equals
cells_tab zero a f g = refl
cells_tab (suc r) a f g =
    let h : (x : ℕ → Cell) → tab r (λ i. x (a + suc i)) ≡ tab r (λ i. x (a + 1 + i)) = λ x. tab_same r _ _ (λ i l. let e : a + suc i ≡ a + 1 + i = omega arith in ap x e) in
    rw (add-zero a, h f, h g, cells_tab r (a + 1) f g) refl

cells_all : (w : ℕ) (f g : ℕ → Cell) → cells_same (tab w f) (tab w g) ≡ equals w 0 f g
cells_all w f g =
    let h : (x : ℕ → Cell) → tab w x ≡ tab w (λ i. x (0 + i)) = λ x. tab_same w _ _ (λ i l. ap x (sym (zero-add i))) in
    rw (h f, h g) (cells_tab w 0 f g)

rid_front : (m w : ℕ) (f : ℕ → Cell) (d : ℕ → Cond) (g : ℕ → ℕ → Cell) (c : Cond)
    → rid m w f (λ i. d (suc i)) (λ i. g (suc i)) (both c (not_so (both (d 0) (equals w 0 f (g 0))))) ≡ rid (suc m) w f d g c
unfolding rid
rid_front zero w f d g c = refl
rid_front (suc m) w f d g c = rw (rid_front m w f d g c) refl

spared_tab : (m w : ℕ) (f : ℕ → Cell) (d : ℕ → Cond) (g : ℕ → ℕ → Cell) (c : Cond) → spared (tab w f) (tab m (λ j. record { cells = tab w (g j); if_so = d j })) c ≡ rid m w f d g c
unfolding spared tab rid
spared_tab zero w f d g c = refl
spared_tab (suc m) w f d g c =
    ap (λ z. spared (tab w f) (tab m (λ j. record { cells = tab w (g (suc j)); if_so = d (suc j) })) (both c (not_so (both (d 0) z)))) (cells_all w f (g 0))
    ∙ (spared_tab m w f (λ i. d (suc i)) (λ i. g (suc i)) (both c (not_so (both (d 0) (equals w 0 f (g 0))))) ∙ rid_front m w f d g c)

less_tab : (n : ℕ) (f : ℕ → Line) (ms : List Line) → lines_less (tab n f) ms ≡ tab n (λ i. record { cells = (f i).cells; if_so = spared (f i).cells ms (f i).if_so })
unfolding lines_less tab
less_tab zero f ms = refl
less_tab (suc n) f ms = rw (less_tab n (λ i. f (suc i)) ms) refl

-- lines in memory, by their places
cells_in_tab : (w k : ℕ) (ys : List ℕ) → cells_in w (drop 1 (drop k ys)) ≡ tab w (cell_from ys k)
cells_in_tab w k ys =
    let xs = cells_in w (drop 1 (drop k ys)) in
    as_tab xs (known 0) ∙ (ap (λ n. tab n (λ a. get_or xs a (known 0))) (length_cells w (drop 1 (drop k ys)))
    ∙ tab_same w _ _ (λ a l. line_cell_at w a (drop k ys) (known 0) l ∙ rw (get_or-drop k ys (1 + 2 * a) 0, get_or-drop k ys (2 + 2 * a) 0) refl))

pub lines_in_tab : (ns : List ℕ) (n w at : ℕ) (ys : List ℕ) →
    lines_in ns n w (drop at ys) ≡ tab n (λ i. record { cells = tab w (cell_from ys (at + i * line_size w)); if_so = cond_at ns (get_or ys (at + i * line_size w) 0) })
lines_in_tab ns n w at ys =
    let xs = lines_in ns n w (drop at ys) in let d : Line = record { cells = []; if_so = always } in
    as_tab xs d ∙ (ap (λ n. tab n (λ i. get_or xs i d)) (length_lines ns n w (drop at ys))
    ∙ tab_same n _ _ (λ i l.
    let k = at + i * line_size w in
    line_of_part ns n w i at ys (drop k ys) d l refl ∙ line_same _ _ _ _ (cells_in_tab w k ys) (rw (get_or-drop k ys 0 0, add-zero k) refl)))

pub answer_is : (ns ls : List ℕ) (c : ℕ) (p : Plan) → Fits ls c p → answer_to ns ls p ≡ tab (many p) (line_of ns ls p)
unfolding answer_to many wide cell says Fits
answer_is ns ls c (list at n w) f = lines_in_tab ns n w at ls
answer_is ns ls c (keep t p) f =
    ap (tested t) (answer_is ns ls c p f.1) ∙ (tested_tab t (many p) (line_of ns ls p) ∙ tab_same (many p) _ _ (λ i l. line_same _ _ _ _ refl (rw (test_tab t (wide p) (cell ls p i) f.0) refl)))
answer_is ns ls c (columns cs p) f =
    ap (cut_lines cs) (answer_is ns ls c p f.1) ∙ (cut_tab cs (many p) (line_of ns ls p) ∙ tab_same (many p) _ _ (λ i l. line_same _ _ _ _ (some_tab cs (wide p) (cell ls p i) f.0) refl))
answer_is ns ls c (join p q) f =
    rw (answer_is ns ls c p f.0, answer_is ns ls c q f.1) (join_tab (many p) (many q) (line_of ns ls p) (line_of ns ls q)
    ∙ tab_same (many p * many q) _ _ (λ i l. line_same _ _ _ _ (tab_union (wide p) (wide q) (cell ls p (i / many q)) (cell ls q (i % many q))) refl))
answer_is ns ls c (union p q) f =
    rw (answer_is ns ls c p f.1, answer_is ns ls c q f.2) (tab_union (many p) (many q) (line_of ns ls p) (line_of ns ls q)
    ∙ tab_same (many p + many q) _ _ (λ i l. elim (cases_lt i (many p)) [
      | inl m ↦ let e = lt-ltb i (many p) m in
          rw e (line_same _ _ _ _ (tab_same (wide p) _ _ (λ a k. rw e refl)) refl)
      | inr m ↦ let e = le-ltb i (many p) m in
          rw e (line_same _ _ _ _ (ap (λ v. tab v (cell ls q (i - many p))) (sym f.0) ∙ tab_same (wide p) _ _ (λ a k. rw e refl)) refl)
    ]))
answer_is ns ls c (without p q) f =
    rw (answer_is ns ls c p f.1, answer_is ns ls c q f.2) (less_tab (many p) (line_of ns ls p) (tab (many q) (line_of ns ls q))
    ∙ tab_same (many p) _ _ (λ i l. line_same _ _ _ _ refl
    (ap (λ t. spared (tab (wide p) (cell ls p i)) t (says ns ls p i)) (tab_same (many q) (line_of ns ls q) (λ j. record { cells = tab (wide p) (cell ls q j); if_so = says ns ls q j }) (λ j m. line_same _ _ _ _ (ap (λ v. tab v (cell ls q j)) (sym f.0)) refl))
    ∙ spared_tab (many q) (wide p) (cell ls p i) (says ns ls q) (cell ls q) (says ns ls p i))))
