-- Why a simpler node, or a place that stands, holds where a node does.
use Rattle.std.proofs.Common.{◌≡◌, ℕ, ◌<◌, ◌≤◌, Bool, true, false, not, ◌&&◌, ◌||◌, eqb, List, [], ◌∷◌, sym, refl, ap, ◌∙◌, subst, arith}
use Rattle.std.proofs.lemmas.Bool.{eq-eqb, ne_eqb}
use Rattle.condition.specs.Cond.{cells_of, numbers_in, gaps_in, has, Within}
use Rattle.condition.specs.Store.{count, cond_at}
use Rattle.condition.specs.Shapes.{cell_of, Named}
use Rattle.condition.specs.Nodes.{decoded}
use Rattle.condition.specs.declared.Cell.{Cell}
use Rattle.condition.specs.declared.Cell.TheVariants.{Number, Gap}
use Rattle.condition.specs.declared.Node.{Node}
use Rattle.condition.specs.declared.Node.TheVariants.{Equal, Not, Both, Either}
use Rattle.condition.proofs.Lists.{eqb_sym}
use Rattle.condition.proofs.Decoding.{stands_means}
use Rattle.evaluate.specs.Filling.{Filling, holds, fill_cell}
use Rattle.evaluate.specs.Values.{value_of}
use Rattle.evaluate.proofs.Holding.{holds_always, holds_never, holds_not}
use Rattle.decide.specs.Reaching.{Covers}
use Rattle.decide.specs.Folding.{Begun, Neat, Tidy, truth, joined, vanishing, settling, Says, StandsFor}
use Rattle.decide.specs.declared.simplifying.Join.{Join}
use Rattle.decide.specs.declared.simplifying.Join.TheVariants.{All, Any}
use Rattle.decide.proofs.Added.{neat_behind}
use Rattle.decide.proofs.Coverage.{covers_none}

and_not : (x : Bool) → false ≡ (x && not x)
and_not true = refl
and_not false = refl

or_not : (x : Bool) → true ≡ (x || not x)
or_not true = refl
or_not false = refl

-- the constants of a cone
module _ (xs : List ℕ) (b : Begun xs) where
  pub truth_always : (v : Filling) → truth xs v 0 ≡ true
  truth_always v = ap (holds v) b.first ∙ holds_always v

  pub truth_never : (v : Filling) → truth xs v 1 ≡ false
  truth_never v = ap (holds v) b.second ∙ holds_never v

  first_inside : (ns gs : List ℕ) → Covers ns gs (cells_of (cond_at xs 0))
  unfolding cells_of
  first_inside ns gs = rw b.first (covers_none ns gs)

  second_inside : (ns gs : List ℕ) → Covers ns gs (cells_of (cond_at xs 1))
  unfolding cells_of
  second_inside ns gs = rw b.second (covers_none ns gs)

  pub says_always : (n : Node) → ((v : Filling) → value_of v n (truth xs v) ≡ true) → Says xs n 0
  says_always n h = record { stands = omega (arith, b.two); value = λ v. truth_always v ∙ sym (h v); inside = λ ns gs d. first_inside ns gs }

  pub says_never : (n : Node) → ((v : Filling) → value_of v n (truth xs v) ≡ false) → Says xs n 1
  says_never n h = record { stands = omega (arith, b.two); value = λ v. truth_never v ∙ sym (h v); inside = λ ns gs d. second_inside ns gs }

  pub not_always : (a : ℕ) → a ≡ 0 → Says xs (Not a) 1
  not_always a e = says_never (Not a) (λ v. ap (λ j. not (truth xs v j)) e ∙ ap not (truth_always v))

  pub not_never : (a : ℕ) → a ≡ 1 → Says xs (Not a) 0
  not_never a e = says_always (Not a) (λ v. ap (λ j. not (truth xs v j)) e ∙ ap not (truth_never v))

  -- one constant changes nothing, the other settles what it is joined to, and so does a condition with its negation
  pub join_vanishing : (j : Join) (a c : ℕ) → a ≡ vanishing j → c < count xs → Says xs (joined j a c) c
  join_vanishing All a c e l = record { stands = l; value = λ v. sym (ap (λ k. truth xs v k && truth xs v c) e ∙ ap (λ t. t && truth xs v c) (truth_always v)); inside = λ ns gs d. d.1.1 }
  join_vanishing Any a c e l = record { stands = l; value = λ v. sym (ap (λ k. truth xs v k || truth xs v c) e ∙ ap (λ t. t || truth xs v c) (truth_never v)); inside = λ ns gs d. d.1.1 }

  pub join_settling : (j : Join) (a c : ℕ) → a ≡ settling j → Says xs (joined j a c) (settling j)
  join_settling All a c e = says_never (Both a c) (λ v. ap (λ k. truth xs v k && truth xs v c) e ∙ ap (λ t. t && truth xs v c) (truth_never v))
  join_settling Any a c e = says_always (Either a c) (λ v. ap (λ k. truth xs v k || truth xs v c) e ∙ ap (λ t. t || truth xs v c) (truth_always v))

  pub join_negated : (j : Join) (a c : ℕ) → ((v : Filling) → truth xs v c ≡ not (truth xs v a)) → Says xs (joined j a c) (settling j)
  join_negated All a c h = says_never (Both a c) (λ v. ap (λ t. truth xs v a && t) (h v) ∙ sym (and_not (truth xs v a)))
  join_negated Any a c h = says_always (Either a c) (λ v. ap (λ t. truth xs v a || t) (h v) ∙ sym (or_not (truth xs v a)))

  pub equal_same : (a c : Cell) → a ≡ c → Says xs (Equal a c) 0
  equal_same a c e = says_always (Equal a c) (λ v. eq-eqb _ _ (ap (λ t. fill_cell v (cell_of t)) e))

  pub equal_apart : (a c : Cell) (m n : ℕ) → a ≡ Number m → c ≡ Number n → (m ≡ n → ⊥) → Says xs (Equal a c) 1
  equal_apart a c m n p q h = rw (p, q) (says_never (Equal (Number m) (Number n)) (λ v. ne_eqb m n h))

within_turn : (j k : ℕ) (gs : List ℕ) → Within (j ∷ (k ∷ [])) gs → Within (k ∷ (j ∷ [])) gs
unfolding Within has
within_turn j k gs h n e = h n (turn (eqb k n) (eqb j n) e)
  where
    turn : (x y : Bool) → (x || (y || false)) ≡ true → (y || (x || false)) ≡ true
    turn true true p = refl
    turn true false p = refl
    turn false true p = refl
    turn false false p = p

covers_turn : (ns gs : List ℕ) (a c : Cell) → Covers ns gs (cell_of a ∷ (cell_of c ∷ [])) → Covers ns gs (cell_of c ∷ (cell_of a ∷ []))
unfolding numbers_in gaps_in
covers_turn ns gs (Number m) (Number n) h = record { numbers = within_turn m n ns h.numbers; gaps = h.gaps }
covers_turn ns gs (Number m) (Gap k) h = record { numbers = h.numbers; gaps = h.gaps }
covers_turn ns gs (Gap j) (Number n) h = record { numbers = h.numbers; gaps = h.gaps }
covers_turn ns gs (Gap j) (Gap k) h = record { numbers = h.numbers; gaps = within_turn j k gs h.gaps }

pub neat_number : (i : ℕ) (a c : Cell) (k n : ℕ) → a ≡ Gap k → c ≡ Number n → Neat i (Equal a c)
neat_number i a c k n p q = rw (p, q) tt

pub neat_gap : (i : ℕ) (a c : Cell) (j k : ℕ) → a ≡ Gap j → c ≡ Gap k → j < k → Neat i (Equal a c)
neat_gap i a c j k p q l = rw (p, q) l

-- a comparison the other way round
pub equal_turned : (xs : List ℕ) (a c : Cell) → Neat (count xs) (Equal c a) → Named (Equal a c) → StandsFor xs (Equal a c) (Equal c a)
equal_turned xs a c h m = record {
  neat = h;
  named = (m.1, m.0);
  value = λ v. eqb_sym (fill_cell v (cell_of c)) (fill_cell v (cell_of a));
  draws = λ ns gs p. covers_turn ns gs a c p;
  places = λ ns gs p. (covers_turn ns gs a c p.0, tt);
}

-- what a negation says
pub negation : (xs : List ℕ) → Tidy xs → (a c : ℕ) → 2 ≤ a → a < count xs → Not c ≡ decoded xs a → (v : Filling) → truth xs v a ≡ not (truth xs v c)
negation xs t a c p q e v =
    let n : Neat a (Not c) = subst (Neat a) (sym e) (t a p q) in
    ap (holds v) (stands_means xs a (Not c) (record { stands = q; after = neat_behind a (Not c) n; same = sym e })) ∙ holds_not v (cond_at xs c)

pub negation_cells : (xs : List ℕ) → Tidy xs → (a c : ℕ) → 2 ≤ a → a < count xs → Not c ≡ decoded xs a → cells_of (cond_at xs a) ≡ cells_of (cond_at xs c)
unfolding cells_of
negation_cells xs t a c p q e =
    let n : Neat a (Not c) = subst (Neat a) (sym e) (t a p q) in
    ap cells_of (stands_means xs a (Not c) (record { stands = q; after = neat_behind a (Not c) n; same = sym e }))

-- what was negated already
pub not_negated : (xs : List ℕ) (a c : ℕ) → c < count xs → ((v : Filling) → truth xs v a ≡ not (truth xs v c)) → cells_of (cond_at xs a) ≡ cells_of (cond_at xs c) → Says xs (Not a) c
not_negated xs a c l h e = record {
  stands = l;
  value = λ v. sym (ap not (h v) ∙ twice (truth xs v c));
  inside = λ ns gs d. subst (Covers ns gs) e d.1;
}
  where
    twice : (b : Bool) → not (not b) ≡ b
    twice true = refl
    twice false = refl
