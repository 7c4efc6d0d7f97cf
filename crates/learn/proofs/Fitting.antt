-- What deciding the only line of an answer without columns says of learning its condition.
use Rattle.std.proofs.Common.{◌≡◌, ℕ, ◌+◌, ◌*◌, ◌<◌, ◌≤◌, Bool, true, false, cond as if, leb, List, [], ◌∷◌, length, None, sym, refl, ◌∙◌, arith}
use Rattle.std.proofs.lemmas.Bool.{lt-ltb, le-leb, leb-true, and_parts, both_ways}
use Rattle.std.specs.Cmp.Derive.{both_true}
use Rattle.condition.specs.Refusals.{Told, first}
use Rattle.condition.specs.Store.{count, cond_at, store_fits, store_told, room, room_told}
use Rattle.condition.proofs.Refusing.{first_none, unless_none}
use Rattle.evaluate.specs.Filling.{Filling, holds}
use Rattle.evaluate.proofs.Holding.{holds_both}
use Rattle.list.specs.Lists.{fill_cells, filled, all_filled, same_row, stands}
use Rattle.list.specs.Layout.{cells_in, lines_in, known_in, cells_fit, lines_fit, lines_named, lists_told, named_told, check_told}
use Rattle.list.proofs.Fitting.{fitted}
use Rattle.query.specs.Ask.{table, ask}
use Rattle.decide.specs.Deciding.{agrees, deciding}
use Rattle.decide.specs.Standing.{nine_told, answer_told, decide_told, is_possible, Decided}
use Rattle.decide.specs.declared.Standing.{Standing}
use Rattle.learn.specs.Learning.{learned, alone, SomeFits, NoneFits, learn_told, Learnable}

-- what is told behind nothing
pub after : (a b : Told) → a ≡ None → first a b ≡ b
after a b e = rw e refl

module _ (nodes : List ℕ) (new : ℕ) where
  -- the condition is the only line, and it decides the row
  pub one_line : lines_in nodes 1 0 (new ∷ []) ≡ alone nodes new
  unfolding lines_in cells_in
  one_line = refl

  alone_decides : deciding (alone nodes new) [] ≡ alone nodes new
  unfolding deciding agrees
  alone_decides = refl

  one_fits : lines_fit 1 0 (new ∷ []) ≡ true
  unfolding lines_fit cells_fit
  one_fits = refl

  one_named : new < count nodes → lines_named (count nodes) 1 0 (new ∷ []) ≡ true
  unfolding lines_named
  one_named l = rw (lt-ltb new (count nodes) l) refl

  -- under a filling the answer has the row exactly if the condition holds
  alone_stands : (v : Filling) → stands [] (ask (table 0) (all_filled v (alone nodes new ∷ []))) ≡ holds v (cond_at nodes new)
  unfolding ask all_filled filled fill_cells stands same_row
  alone_stands v = go (holds v (cond_at nodes new)) refl
    where
      go : (b : Bool) → holds v (cond_at nodes new) ≡ b → stands [] (if b ([] ∷ []) []) ≡ b
      go true e = refl
      go false e = refl

module _ (lists nodes : List ℕ) (new : ℕ) where
  abbrev nine : Told
  nine = nine_told (known_in nodes lists) (alone nodes new) []

  module _ (checks : None ≡ check_told lists nodes) (l : new < count nodes) where
    learn_later : learn_told lists nodes new ≡ first (room_told nodes 1) nine
    learn_later = after (check_told lists nodes) _ (sym checks) ∙ rw (lt-ltb new (count nodes) l) refl

    answer_none : answer_told lists nodes (new ∷ []) 1 0 ≡ None
    answer_none =
        let f = first_none (lists_told lists) (first (store_told nodes) (named_told lists nodes)) (sym checks) in
        let g = first_none (store_told nodes) (named_told lists nodes) f.1 in
        rw (f.0, one_fits nodes new, g.0, g.1, one_named nodes new l) refl

    decide_nine : decide_told lists nodes (new ∷ []) 1 0 [] ≡ nine
    decide_nine = after (answer_told lists nodes (new ∷ []) 1 0) _ answer_none ∙ rw (one_line nodes new, alone_decides nodes new) refl

    module _ (r : ℕ) (is : r ≡ room nodes) (some : r ≡ 0 → ⊥) where
      -- where one node more fits, deciding tells what learning tells
      pub decide_learn : decide_told lists nodes (new ∷ []) 1 0 [] ≡ learn_told lists nodes new
      decide_learn =
          let k : 1 ≤ room nodes = omega arith in
          let f : room_told nodes 1 ≡ None = rw (le-leb 1 (room nodes) k) refl in
          decide_nine ∙ sym (learn_later ∙ after (room_told nodes 1) nine f)

      pub learnable : SomeFits (learned lists nodes new) → Learnable lists nodes new
      learnable h =
          let f = first_none (lists_told lists) (first (store_told nodes) (named_told lists nodes)) (sym checks) in
          let g = first_none (store_told nodes) (named_told lists nodes) f.1 in
          let s = and_parts (leb (count nodes) 131072) (leb (1 + 5 * count nodes) (length nodes)) (unless_none (store_fits nodes) 2 (count nodes) g.0) in
          let k = leb-true (1 + 5 * count nodes) (length nodes) s.1 in
          record { long = omega (arith, (fitted lists f.0).long); named = g.1; stands = l; few = omega arith; room = omega arith; fits = h }

  -- the row is possible exactly if some filling fits what is known and the condition
  module _ (s : Standing) (d : Decided (known_in nodes lists) (alone nodes new) [] s) where
    pub possible_fits : is_possible s ≡ true → SomeFits (learned lists nodes new)
    unfolding ask all_filled
    possible_fits h =
        let p = (d.possible (alone nodes new ∷ []) (table 0) (λ _ _ _. refl)).0 h in
        (p.0, holds_both p.0 (known_in nodes lists) (cond_at nodes new) ∙ both_true p.1 (sym (alone_stands nodes new p.0) ∙ p.2))

    pub impossible_none : is_possible s ≡ false → NoneFits (learned lists nodes new)
    unfolding ask all_filled
    impossible_none h v = go (holds v (learned lists nodes new)) refl
      where
        go : (b : Bool) → holds v (learned lists nodes new) ≡ b → b ≡ false
        go false e = refl
        go true e =
            let f = and_parts (holds v (known_in nodes lists)) (holds v (cond_at nodes new)) (sym (holds_both v (known_in nodes lists) (cond_at nodes new)) ∙ e) in
            absurd (both_ways (is_possible s) h ((d.possible (alone nodes new ∷ []) (table 0) (λ _ _ _. refl)).1 (v, f.0, alone_stands nodes new v ∙ f.1)))
