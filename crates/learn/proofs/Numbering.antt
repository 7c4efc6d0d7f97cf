-- What deciding a gap as the only line of an answer says of learning its number.
use Rattle.std.proofs.Common.{◌≡◌, ℕ, ◌+◌, ◌*◌, ◌^◌, ◌<◌, ◌≤◌, Bool, true, false, ◌&&◌, ◌||◌, eqb, leb, List, [], ◌∷◌, ◌++◌, length, get_or, None, sym, refl, ◌∙◌, arith}
use Rattle.std.proofs.lemmas.Bool.{lt-ltb, le-leb, leb-true, eqb-true, eq-eqb, and_parts, both_ways}
use Rattle.condition.specs.Cond.{Cond, known, gap, both, cells_of, gaps_in, numbers_in, has}
use Rattle.condition.specs.Refusals.{Told, first}
use Rattle.condition.specs.Store.{count, store_fits, store_told, room, room_told}
use Rattle.condition.proofs.Refusing.{first_none, unless_none}
use Rattle.condition.proofs.Lists.{has_app}
use Rattle.condition.proofs.Named.{gaps_app, numbers_app}
use Rattle.evaluate.specs.Filling.{Filling, holds}
use Rattle.list.specs.Lists.{Line, fill_cells, filled, all_filled, same_row, stands}
use Rattle.list.specs.Layout.{cells_in, lines_in, known_in, cells_fit, lines_fit, lines_named, lists_told, named_told, check_told}
use Rattle.list.proofs.Fitting.{fitted, all_named}
use Rattle.query.specs.Ask.{table, ask}
use Rattle.decide.specs.Deciding.{agrees, deciding, cells_in_lines, conds_in_lines}
use Rattle.decide.specs.Standing.{named_cells, nine_told, answer_told, decide_told, is_possible, Decided}
use Rattle.decide.specs.declared.Standing.{Standing}
use Rattle.decide.proofs.Counted.{counted_same}
use Rattle.learn.specs.Learning.{SomeFits, NoneFits}
use Rattle.learn.specs.Over.{is_number, number_told, Numbered}
use Rattle.learn.proofs.Fitting.{after}
use Rattle.learn.proofs.Writing.{learned_parts, learned_both}

-- what is known, and a gap as the only line
module _ (what : Cond) (k n : ℕ) where
  abbrev pub gap_line : List Line
  gap_line = record { cells = gap k ∷ []; if_so = what } ∷ []

  gap_decides : deciding gap_line (n ∷ []) ≡ gap_line
  unfolding deciding agrees
  gap_decides = refl

  -- it names what is known and the gap, as does what is known with the number
  gaps_twice : (a b : Bool) → (a || ((a || false) || (b || false))) ≡ ((a || (b || false)) || false)
  gaps_twice true b = refl
  gaps_twice false true = refl
  gaps_twice false false = refl

  gaps_left : (j : ℕ) → has (gaps_in (cells_of what ++ ((cells_of what ++ conds_in_lines []) ++ ((gap k ∷ []) ++ cells_in_lines [])))) j
      ≡ (has (gaps_in (cells_of what)) j || ((has (gaps_in (cells_of what)) j || false) || (eqb k j || false)))
  unfolding gaps_in has cells_in_lines conds_in_lines
  gaps_left j =
      let g = gaps_in (cells_of what) in
      rw (gaps_app (cells_of what) ((cells_of what ++ []) ++ (gap k ∷ [])), gaps_app (cells_of what ++ []) (gap k ∷ []), gaps_app (cells_of what) [], has_app g ((g ++ []) ++ (k ∷ [])) j, has_app (g ++ []) (k ∷ []) j, has_app g [] j) refl

  gaps_right : (j : ℕ) → has (gaps_in (cells_of (both what (is_number k n)) ++ (conds_in_lines [] ++ cells_in_lines []))) j
      ≡ ((has (gaps_in (cells_of what)) j || (eqb k j || false)) || false)
  unfolding gaps_in has cells_of cells_in_lines conds_in_lines
  gaps_right j =
      let g = gaps_in (cells_of what) in
      rw (gaps_app (cells_of what ++ (gap k ∷ (known n ∷ []))) [], gaps_app (cells_of what) (gap k ∷ (known n ∷ [])), has_app (g ++ (k ∷ [])) [] j, has_app g (k ∷ []) j) refl

  gaps_same : (j : ℕ) → has (gaps_in (named_cells what gap_line)) j ≡ has (gaps_in (named_cells (both what (is_number k n)) [])) j
  unfolding conds_in_lines cells_of cells_in_lines
  gaps_same j = gaps_left j ∙ (gaps_twice (has (gaps_in (cells_of what)) j) (eqb k j) ∙ sym (gaps_right j))

  numbers_twice : (a b : Bool) → ((a || ((a || false) || false)) || (b || false)) ≡ (((a || (b || false)) || false) || false)
  numbers_twice true b = refl
  numbers_twice false true = refl
  numbers_twice false false = refl

  numbers_left : (j : ℕ) → has (numbers_in (cells_of what ++ ((cells_of what ++ conds_in_lines []) ++ ((gap k ∷ []) ++ cells_in_lines []))) ++ (n ∷ [])) j
      ≡ ((has (numbers_in (cells_of what)) j || ((has (numbers_in (cells_of what)) j || false) || false)) || (eqb n j || false))
  unfolding numbers_in has cells_in_lines conds_in_lines
  numbers_left j =
      let g = numbers_in (cells_of what) in
      rw (numbers_app (cells_of what) ((cells_of what ++ []) ++ (gap k ∷ [])), numbers_app (cells_of what ++ []) (gap k ∷ []), numbers_app (cells_of what) [], has_app (g ++ ((g ++ []) ++ [])) (n ∷ []) j, has_app g ((g ++ []) ++ []) j, has_app (g ++ []) [] j, has_app g [] j) refl

  numbers_right : (j : ℕ) → has (numbers_in (cells_of (both what (is_number k n)) ++ (conds_in_lines [] ++ cells_in_lines [])) ++ []) j
      ≡ (((has (numbers_in (cells_of what)) j || (eqb n j || false)) || false) || false)
  unfolding numbers_in has cells_of cells_in_lines conds_in_lines
  numbers_right j =
      let g = numbers_in (cells_of what) in
      rw (numbers_app (cells_of what ++ (gap k ∷ (known n ∷ []))) [], numbers_app (cells_of what) (gap k ∷ (known n ∷ [])), has_app ((g ++ (n ∷ [])) ++ []) [] j, has_app (g ++ (n ∷ [])) [] j, has_app g (n ∷ []) j) refl

  numbers_same : (j : ℕ) → has (numbers_in (named_cells what gap_line) ++ (n ∷ [])) j ≡ has (numbers_in (named_cells (both what (is_number k n)) []) ++ []) j
  unfolding conds_in_lines cells_of cells_in_lines
  numbers_same j = numbers_left j ∙ (numbers_twice (has (numbers_in (cells_of what)) j) (eqb n j) ∙ sym (numbers_right j))

  nine_same : nine_told what gap_line (n ∷ []) ≡ nine_told (both what (is_number k n)) [] []
  nine_same =
      rw (
        counted_same 64 (has (gaps_in (named_cells what gap_line))) (has (gaps_in (named_cells (both what (is_number k n)) []))) (λ j l. gaps_same j),
        counted_same (2 ^ 64) (has (numbers_in (named_cells what gap_line) ++ (n ∷ []))) (has (numbers_in (named_cells (both what (is_number k n)) []) ++ [])) (λ j l. numbers_same j),
      ) refl

-- a row that is the number is there where what is known holds and the gap is the number
line_holds : (what : Cond) (k n : ℕ) (v : Filling) (b : Bool) → holds v what ≡ b → stands (n ∷ []) (ask (table 0) (all_filled v (gap_line what k n ∷ []))) ≡ (b && eqb n (v k))
unfolding ask all_filled filled fill_cells stands same_row
line_holds what k n v true e = rw e (shut (eqb n (v k)))
  where
    shut : (b : Bool) → ((b && true) || false) ≡ b
    shut true = refl
    shut false = refl
line_holds what k n v false e = rw e refl

module _ (lists nodes : List ℕ) (k n : ℕ) where
  abbrev pub gap_answer : List ℕ
  gap_answer = get_or lists 1 0 ∷ (1 ∷ (k ∷ []))

  abbrev what_is : Cond
  what_is = known_in nodes lists

  abbrev nine : Told
  nine = nine_told (both what_is (is_number k n)) [] []

  pub gap_lines : lines_in nodes 1 1 gap_answer ≡ gap_line what_is k n
  unfolding lines_in cells_in
  gap_lines = refl

  gap_fits : k < 64 → lines_fit 1 1 gap_answer ≡ true
  unfolding lines_fit cells_fit
  gap_fits l = rw (lt-ltb k 64 l) refl

  gap_named : get_or lists 1 0 < count nodes → lines_named (count nodes) 1 1 gap_answer ≡ true
  unfolding lines_named
  gap_named l = rw (lt-ltb (get_or lists 1 0) (count nodes) l) refl

  module _ (checks : None ≡ check_told lists nodes) (l : k < 64) where
    checked_parts : (lists_told lists ≡ None) × (store_told nodes ≡ None) × (named_told lists nodes ≡ None)
    checked_parts =
        let f = first_none (lists_told lists) (first (store_told nodes) (named_told lists nodes)) (sym checks) in
        let g = first_none (store_told nodes) (named_told lists nodes) f.1 in
        (f.0, g.0, g.1)

    pub lists_long : 2 ≤ length lists
    lists_long = let c = checked_parts in omega (arith, (fitted lists c.0).long)

    number_later : number_told lists nodes k n ≡ first (room_told nodes 2) nine
    number_later = let c = checked_parts in rw (c.0, lt-ltb k 64 l, c.1, c.2) refl

    answer_none : answer_told lists nodes gap_answer 1 1 ≡ None
    answer_none =
        let c = checked_parts in let m = all_named lists (count nodes) c.2 in
        rw (c.0, gap_fits l, c.1, c.2, gap_named m.1) refl

    decide_nine : decide_told lists nodes gap_answer 1 1 (n ∷ []) ≡ nine
    decide_nine =
        after (answer_told lists nodes gap_answer 1 1) _ answer_none ∙ (rw (gap_lines, gap_decides what_is k n) (nine_same what_is k n))

    module _ (r : ℕ) (is : r ≡ room nodes) (some : 2 ≤ r) where
      -- where two nodes more fit, deciding tells what writing over tells
      pub decide_number : decide_told lists nodes gap_answer 1 1 (n ∷ []) ≡ number_told lists nodes k n
      decide_number =
          let m : 2 ≤ room nodes = omega arith in
          let f : room_told nodes 2 ≡ None = rw (le-leb 2 (room nodes) m) refl in
          decide_nine ∙ sym (number_later ∙ after (room_told nodes 2) nine f)

      pub numbered : SomeFits (both what_is (is_number k n)) → Numbered lists nodes k n
      numbered h =
          let c = checked_parts in
          let s = and_parts (leb (count nodes) 131072) (leb (1 + 5 * count nodes) (length nodes)) (unless_none (store_fits nodes) 2 (count nodes) c.1) in
          let m = leb-true (1 + 5 * count nodes) (length nodes) s.1 in
          record { checked = sym checks; named = l; few = omega arith; room = omega arith; fits = h }

  -- the row is possible exactly if some filling that fits gives the gap the number
  module _ (s : Standing) (d : Decided what_is (gap_line what_is k n) (n ∷ []) s) where
    pub possible_number : is_possible s ≡ true → SomeFits (both what_is (is_number k n))
    unfolding ask all_filled
    possible_number h =
        let p = (d.possible (gap_line what_is k n ∷ []) (table 0) (λ _ _ _. refl)).0 h in
        let e = and_parts (holds p.0 what_is) (eqb n (p.0 k)) (sym (line_holds what_is k n p.0 (holds p.0 what_is) refl) ∙ p.2) in
        (p.0, learned_both what_is k n p.0 p.1 (sym (eqb-true n (p.0 k) e.1)))

    pub impossible_number : is_possible s ≡ false → NoneFits (both what_is (is_number k n))
    unfolding ask all_filled
    impossible_number h v = go (holds v (both what_is (is_number k n))) refl
      where
        go : (b : Bool) → holds v (both what_is (is_number k n)) ≡ b → b ≡ false
        go false e = refl
        go true e =
            let f = learned_parts what_is k n v e in
            absurd
            (both_ways (is_possible s) h
            ((d.possible (gap_line what_is k n ∷ []) (table 0) (λ _ _ _. refl)).1
            (v, f.0, line_holds what_is k n v true f.0 ∙ eq-eqb n (v k) (sym f.1))))
