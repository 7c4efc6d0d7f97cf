-- One step of reading, in the words of the code: a sign, what was read behind it, and the part that is written for it.
use Rattle.std.proofs.Common.{◌≡◌, ℕ, suc, ◌+◌, ◌-◌, ◌*◌, ◌^◌, ◌<◌, ◌≤◌, true, false, ◌&&◌, leb, ◌⊎◌, List, length, get_or, drop, set, sym, refl, ◌∙◌, inl, inr, Some, None, arith, length-drop}
use Rattle.std.proofs.lemmas.List.{get_or_past}
use Rattle.std.proofs.lemmas.List.FromFn.{length-map-range_with_len, get_or-map-range_with_len}
use Rattle.std.proofs.lemmas.Bool.{false≢true, leb-true, leb-false, eqb-true, eqb-false, and_right, lt-leb, cases_lt}
use Rattle.list.specs.Bounds.{AllSmall}
use Rattle.list.specs.Shapes.{shape_of}
use Rattle.list.specs.declared.shapes.Shapes.{Shapes}
use Rattle.query.specs.Reading as signs
use Rattle.query.specs.Reading.{Sized, Read, read, bad, reads, sign_in, a_list, no_sign, all_below}
use Rattle.query.specs.Shapes.{part_at, pairs_of}
use Rattle.query.specs.Parts.{Numbers, Reads}
use Rattle.query.specs.Tokens.{OneIs, pair_of, one_fits, one_part, pair_fits, pair_part}
use Rattle.query.specs.declared.Sign.TheVariants.{Rows}
use Rattle.query.specs.declared.Part.{Part}
use Rattle.query.specs.declared.reading.One.{One}
use Rattle.query.specs.declared.reading.One.TheVariants.{Test, Cut}
use Rattle.query.specs.declared.reading.Pair.{Pair}
use Rattle.query.specs.declared.reading.Pair.TheVariants.{Joined, United, Less}
use Rattle.query.proofs.Bounds.{Small, Bounded, reads_bounded, pairs_bounded}
use Rattle.query.proofs.Parting.{list_bad, none_bad, list_part, test_part, test_bad, columns_part, columns_bad, first_bad, second_bad, sub_numbers, first_numbers, second_numbers, join_part, union_part, without_part, join_bad, union_bad, without_bad}

-- the shapes as pairs
pub pairs_length : (ss : Shapes) → length (pairs_of ss) ≡ ss.count
pairs_length ss = length-map-range_with_len (λ t. ((shape_of ss t).lines, (shape_of ss t).width)) 0 ss.count

pub pairs_at : (ss : Shapes) (t : ℕ) → t < ss.count → get_or (pairs_of ss) t (0, 0) ≡ ((shape_of ss t).lines, (shape_of ss t).width)
pairs_at ss t l = get_or-map-range_with_len (λ t. ((shape_of ss t).lines, (shape_of ss t).width)) 0 ss.count t t (0, 0) l (omega arith)

pub pairs_small : (ss : Shapes) → AllSmall ss.shapes ss.count → Small (pairs_of ss)
pairs_small ss small t = go (cases_lt t ss.count)
  where
    go : (t < ss.count) ⊎ (ss.count ≤ t) → ((get_or (pairs_of ss) t (0, 0)).0 ≤ 64) × ((get_or (pairs_of ss) t (0, 0)).1 ≤ 4)
    go (inl l) = rw (pairs_at ss t l) ((small t l).lines, (small t l).width)
    go (inr l) = rw (get_or_past (pairs_of ss) t (0, 0) (rw (pairs_length ss) l)) (omega arith, omega arith)

module _ (left : ℕ) (ss : List (ℕ × ℕ)) (at : ℕ) (xs : List ℕ) (some : left ≡ 0 → ⊥) (six : 6 ≤ length xs) where
  abbrev sign : signs.Sign
  sign = sign_in (get_or xs 0 0) (drop 1 xs)

  deep : suc (left - 1) ≡ left
  deep = omega arith

  back_bad : (off : ℕ) → reads (suc (left - 1)) ss at xs ≡ bad off → reads left ss at xs ≡ bad off
  back_bad off e = rw deep at e

  back : (before after : List Part) (next : ℕ) (rest : List ℕ) → Reads (suc (left - 1)) ss at xs before after next rest → Reads left ss at xs before after next rest
  back before after next rest g = rw deep at g

  pub no_token : sign ≡ no_sign → reads left ss at xs ≡ bad at
  no_token e = back_bad at (none_bad (left - 1) ss at xs six e)

  pub no_list : (t : ℕ) → sign ≡ a_list t → length ss ≤ t → reads left ss at xs ≡ bad at
  no_list t e l = back_bad at (list_bad (left - 1) ss at xs six t e l)

  pub one_list : (t lines width : ℕ) (before : List Part) → at < length before → sign ≡ a_list t → t < length ss → get_or ss t (0, 0) ≡ (lines, width) →
      Reads left ss at xs before (set before at (record { sign = Rows t; lines = lines; width = width; cost = 0 })) (at + 1) (drop 6 xs)
  one_list t lines width before within e l shape = back before _ (at + 1) (drop 6 xs) (list_part (left - 1) ss at xs six t lines width before within e l shape)

  -- one question behind a sign
  pub single_bad : (one : One) → OneIs one sign → (off : ℕ) → reads (left - 1) ss (at + 1) (drop 6 xs) ≡ bad off → reads left ss at xs ≡ bad off
  single_bad (Test t) e off b = back_bad off (first_bad (left - 1) ss at xs six _ tt e off b)
  single_bad (Cut o) e off b = back_bad off (first_bad (left - 1) ss at xs six _ tt e.2 off b)

  pub double_bad : (pair : Pair) → sign ≡ pair_of pair → (off : ℕ) → reads (left - 1) ss (at + 1) (drop 6 xs) ≡ bad off → reads left ss at xs ≡ bad off
  double_bad Joined e off b = back_bad off (first_bad (left - 1) ss at xs six _ tt e off b)
  double_bad United e off b = back_bad off (first_bad (left - 1) ss at xs six _ tt e off b)
  double_bad Less e off b = back_bad off (first_bad (left - 1) ss at xs six _ tt e off b)

  module _ (before mid : List Part) (next : ℕ) (rest : List ℕ) (long : at < length before) (r : Reads (left - 1) ss (at + 1) (drop 6 xs) before mid next rest) where
    numbers : Numbers (part_at mid (at + 1)) r.question
    numbers = sub_numbers (left - 1) ss at xs six before mid next rest long r

    pub single_off : (one : One) → OneIs one sign → false ≡ one_fits one (part_at mid (at + 1)).width → reads left ss at xs ≡ bad at
    single_off (Test t) e off = back_bad at (test_bad (left - 1) ss at xs six before mid next rest long r t e (rw numbers.width at (sym off)))
    single_off (Cut None) e off = back_bad at (columns_bad (left - 1) ss at xs six before mid next rest long r e.0 e.1 e.2 (go e.3))
      where
        go : (e.0 ≡ 0) ⊎ (4 < e.0) → (leb 1 e.0 && (leb e.0 4 && all_below r.question.width e.1)) ≡ false
        go (inl l) = rw l refl
        go (inr l) = rw (lt-leb e.0 4 l) (and_right (leb 1 e.0) false refl)
    single_off (Cut (Some c)) e off =
        let b : all_below r.question.width e.1 ≡ false = rw (← e.3.1, ← numbers.width) (sym off) in
        back_bad at (columns_bad (left - 1) ss at xs six before mid next rest long r e.0 e.1 e.2 (rw b (and_right (leb 1 e.0) _ (and_right (leb e.0 4) false refl))))

    pub single : (one : One) → OneIs one sign → true ≡ one_fits one (part_at mid (at + 1)).width →
        Reads left ss at xs before (set mid at (one_part one (part_at mid (at + 1)))) next rest
    single (Test t) e on =
        back before _ next rest (test_part (left - 1) ss at xs six before mid next rest long r t e (rw numbers.width at (sym on)) ((part_at mid (at + 1)).cost + 3 * (part_at mid (at + 1)).lines)
        (cc (numbers.cost, numbers.lines)))
    single (Cut None) e on = absurd (false≢true (sym on))
    single (Cut (Some c)) e on =
        back before _ next rest (columns_part (left - 1) ss at xs six before mid next rest long r e.0 c e.1 e.2 e.3.0 e.3.1 (rw (numbers.width, e.3.1) at (sym on)))

    -- two questions behind a sign
    pub double_second_bad : (pair : Pair) → sign ≡ pair_of pair → (off : ℕ) → reads (left - 1) ss next rest ≡ bad off → reads left ss at xs ≡ bad off
    double_second_bad Joined e off b = back_bad off (second_bad (left - 1) ss at xs six before mid next rest long r _ tt e off b)
    double_second_bad United e off b = back_bad off (second_bad (left - 1) ss at xs six before mid next rest long r _ tt e off b)
    double_second_bad Less e off b = back_bad off (second_bad (left - 1) ss at xs six before mid next rest long r _ tt e off b)

    module _ (after : List Part) (end : ℕ) (last : List ℕ) (q : Reads (left - 1) ss next rest mid after end last) where
      one : Numbers (part_at after (at + 1)) r.question
      one = first_numbers (left - 1) ss at xs six before mid next rest long r after end last q

      two : Numbers (part_at after next) q.question
      two = second_numbers (left - 1) ss at xs six before mid next rest long r after end last q

      pub double_off : (pair : Pair) → sign ≡ pair_of pair → false ≡ pair_fits pair (part_at after (at + 1)).width (part_at after next).width → reads left ss at xs ≡ bad at
      double_off Joined e off =
          back_bad at (join_bad (left - 1) ss at xs six before mid next rest long r after end last q e
          (omega (arith, leb-false ((part_at after (at + 1)).width + (part_at after next).width) 8 (sym off), one.width, two.width)))
      double_off United e off =
          back_bad at (union_bad (left - 1) ss at xs six before mid next rest long r after end last q e
          (λ p. eqb-false (part_at after (at + 1)).width (part_at after next).width (sym off) (one.width ∙ (p ∙ sym two.width))))
      double_off Less e off =
          back_bad at (without_bad (left - 1) ss at xs six before mid next rest long r after end last q e
          (λ p. eqb-false (part_at after (at + 1)).width (part_at after next).width (sym off) (one.width ∙ (p ∙ sym two.width))))

      pub double : (pair : Pair) → sign ≡ pair_of pair → true ≡ pair_fits pair (part_at after (at + 1)).width (part_at after next).width →
          Reads left ss at xs before (set after at (pair_part pair (next - at) (part_at after (at + 1)) (part_at after next))) end last
      double Joined e on =
          back before _ end last (join_part (left - 1) ss at xs six before mid next rest long r after end last q _ _ _ e
          (omega (arith, leb-true ((part_at after (at + 1)).width + (part_at after next).width) 8 (sym on), one.width, two.width))
          (record { lines = cc (one.lines, two.lines); width = cc (one.width, two.width); cost = cc (one.lines, two.lines, one.cost, two.cost) }))
      double United e on =
          back before _ end last (union_part (left - 1) ss at xs six before mid next rest long r after end last q _ _ _ e
          (sym one.width ∙ (eqb-true (part_at after (at + 1)).width (part_at after next).width (sym on) ∙ two.width))
          (record { lines = cc (one.lines, two.lines); width = one.width; cost = cc (one.cost, two.cost) }))
      double Less e on =
          back before _ end last (without_part (left - 1) ss at xs six before mid next rest long r after end last q _ _ _ e
          (sym one.width ∙ (eqb-true (part_at after (at + 1)).width (part_at after next).width (sym on) ∙ two.width))
          (record { lines = one.lines; width = one.width; cost = cc (one.lines, two.lines, one.cost, two.cost, one.width) }))

-- how large what was read is
pub record Room (p : Part) : Type 0 where
  pub lines : p.lines ≤ 2 ^ 48
  pub width : p.width ≤ 8
  pub cost : p.cost ≤ 2 ^ 57

room : (p : Part) (s : Sized) (at next : ℕ) → Numbers p s → Bounded s at next → Room p
room p s at next n b = record { lines = omega (arith, n.lines, b.lines); width = omega (arith, n.width, b.width); cost = omega (arith, n.cost, b.cost) }

module _ (n : ℕ) (ss : List (ℕ × ℕ)) (small : Small ss) (at : ℕ) (xs : List ℕ) (six : 6 ≤ length xs) (few : 6 * at + length xs ≤ 96)
    (before mid : List Part) (next : ℕ) (rest : List ℕ) (long : at < length before) (r : Reads n ss (at + 1) (drop 6 xs) before mid next rest) where
  first_bounded : Bounded r.question (at + 1) next × (6 * next + length rest ≤ 96)
  first_bounded = reads_bounded n ss small (at + 1) (drop 6 xs) (simp length-drop (omega arith)) r.question next rest r.is

  pub single_room : Room (part_at mid (at + 1)) × (at + 1 < next) × (next ≤ 16)
  single_room =
      (room (part_at mid (at + 1)) r.question (at + 1) next (sub_numbers n ss at xs six before mid next rest long r) first_bounded.0, r.ahead, first_bounded.0.within)

  pub rest_few : 6 * next + length rest ≤ 96
  rest_few = first_bounded.1

  module _ (after : List Part) (end : ℕ) (last : List ℕ) (q : Reads n ss next rest mid after end last) where
    second_bounded : Bounded q.question next end × (6 * end + length last ≤ 96)
    second_bounded = reads_bounded n ss small next rest rest_few q.question end last q.is

    pub double_room : Room (part_at after (at + 1)) × Room (part_at after next) × ((part_at after (at + 1)).lines * (part_at after next).lines ≤ 2 ^ 48) × (next < 16)
    double_room =
        let a : Numbers (part_at after (at + 1)) r.question = first_numbers n ss at xs six before mid next rest long r after end last q in
        let b : Numbers (part_at after next) q.question = second_numbers n ss at xs six before mid next rest long r after end last q in
        let p : r.question.lines * q.question.lines ≤ 2 ^ 48 =
        pairs_bounded r.question q.question at next end (omega (arith, r.ahead)) q.ahead second_bounded.0.within first_bounded.0.fine second_bounded.0.fine in (
          room (part_at after (at + 1)) r.question (at + 1) next a first_bounded.0,
          room (part_at after next) q.question next end b second_bounded.0,
          rw (a.lines, b.lines) p,
          omega (arith, q.ahead, second_bounded.0.within),
        )
