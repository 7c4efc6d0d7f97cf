-- Both ways of writing the refusals of asking tell the same number.
use Rattle.std.proofs.Common.{◌≡◌, ℕ, zero, suc, ◌+◌, ◌*◌, ◌/◌, ◌%◌, ◌<◌, ◌≤◌, min, Bool, true, false, cond as if, ◌&&◌, eqb, ltb, leb, ◌⊎◌, List, [], ◌∷◌, length, get_or, take, drop, sym, refl, ap, ◌∙◌, inl, inr, ⊎_elim, arith, length-drop, length-take}
use Rattle.std.proofs.lemmas.List.{take_all}
use Rattle.std.proofs.lemmas.Bool.Decides.{nat_tests}
use Rattle.std.proofs.lemmas.Bool.{false≢true, eqb-true, eqb-false, eq-eqb, leb-true, le-leb, lt-leb, cases_Bool, cases_lt, and_parts, and_from}
use Rattle.list.specs.Layout.{list_size, list_fits, list_named, passing, all_pass, named_told, shapes, line_size}
use Rattle.condition.specs.Refusals.{Told, number, first, unless}
use Rattle.condition.specs.Store.{count, store_fits, room, room_told}
use Rattle.query.specs.Ask.{Query}
use Rattle.query.specs.Reading.{Sized, Read, read, bad, then, check, by_sign, sign_in, reads, asked, sized, question_told, size_told}
use Rattle.query.proofs.Placed.{Placed, reads_placed}
use Rattle.answer.specs.Entry.{answer_size, question}
use Rattle.answer.specs.Numbers as plain
use Rattle.answer.specs.Numbers.{SameNumber}

-- a reading without the place
abbrev unplaced : Read → plain.Read
unplaced (read s next rest) = plain.read s.query s.lines s.width s.cost rest
unplaced (bad sign) = plain.bad

next_then : (r : Read) (total : ℕ) (f : Query → ℕ → ℕ → ℕ → List ℕ → plain.Read) (g : Sized → ℕ → List ℕ → Read) → Placed r total →
    ((s : Sized) (i : ℕ) (ys : List ℕ) → length ys + 6 * i ≡ total → f s.query s.lines s.width s.cost ys ≡ unplaced (g s i ys)) →
    plain.next (unplaced r) f ≡ unplaced (then r g)
next_then (read s i ys) total f g p h = h s i ys p
next_then (bad sign) total f g p h = refl

ok_check : (b : Bool) (at : ℕ) (r : Read) → plain.ok b (unplaced r) ≡ unplaced (check b at r)
ok_check true at r = refl
ok_check false at r = refl

module _ (n : ℕ) (ss : List (ℕ × ℕ)) (at m : ℕ) (ih : (i : ℕ) (ys : List ℕ) → length ys + 6 * i ≡ 6 * m → plain.reads n ss ys ≡ unplaced (reads n ss i ys)) where
  one_part : (xs : List ℕ) (f : Query → ℕ → ℕ → ℕ → List ℕ → plain.Read) (g : Sized → ℕ → List ℕ → Read) → length xs + 6 * suc at ≡ 6 * m →
      ((s : Sized) (i : ℕ) (ys : List ℕ) → length ys + 6 * i ≡ 6 * m → f s.query s.lines s.width s.cost ys ≡ unplaced (g s i ys)) →
      plain.next (plain.reads n ss xs) f ≡ unplaced (then (reads n ss (suc at) xs) g)
  one_part xs f g p h = rw (ih (suc at) xs p) (next_then (reads n ss (suc at) xs) (6 * m) f g (reads_placed n ss (suc at) (6 * m) xs p) h)

  two_parts : (xs : List ℕ) (f : Query → ℕ → ℕ → ℕ → Query → ℕ → ℕ → ℕ → List ℕ → plain.Read) (g : Sized → Sized → ℕ → List ℕ → Read) → length xs + 6 * suc at ≡ 6 * m →
      ((s t : Sized) (j : ℕ) (zs : List ℕ) → f s.query s.lines s.width s.cost t.query t.lines t.width t.cost zs ≡ unplaced (g s t j zs)) →
      plain.next (plain.reads n ss xs) (λ p i w c ys. plain.next (plain.reads n ss ys) (λ q j v d zs. f p i w c q j v d zs))
      ≡ unplaced (then (reads n ss (suc at) xs) (λ s i ys. then (reads n ss i ys) (λ t j zs. g s t j zs)))
  two_parts xs f g p h =
      one_part xs _ _ p (λ s i ys q. rw (ih i ys q) (next_then (reads n ss i ys) (6 * m) _ _ (reads_placed n ss i (6 * m) ys q) (λ t j zs u. h s t j zs)))

  same_kind : (k : ℕ) (xs : List ℕ) → length (drop 5 xs) + 6 * suc at ≡ 6 * m →
      plain.by_kind k ss xs (λ ys. plain.reads n ss ys) ≡ unplaced (by_sign (sign_in k xs) ss at (drop 5 xs) (λ i ys. reads n ss i ys))
  unfolding plain.by_kind sign_in
  same_kind zero xs p = ok_check _ at (read _ (suc at) (drop 5 xs))
  same_kind (suc zero) xs p = one_part (drop 5 xs) _ _ p (λ s i ys q. ok_check _ at (read _ i ys))
  same_kind (suc (suc zero)) xs p = one_part (drop 5 xs) _ _ p (λ s i ys q. ok_check _ at (read _ i ys))
  same_kind (suc (suc (suc zero))) xs p = one_part (drop 5 xs) _ _ p (λ s i ys q. ok_check _ at (read _ i ys))
  same_kind (suc (suc (suc (suc zero)))) xs p = one_part (drop 5 xs) _ _ p (λ s i ys q. ok_check _ at (read _ i ys))
  same_kind (suc (suc (suc (suc (suc zero))))) xs p = one_part (drop 5 xs) _ _ p (λ s i ys q. ok_check _ at (read _ i ys))
  same_kind (suc (suc (suc (suc (suc (suc zero)))))) xs p = two_parts (drop 5 xs) _ _ p (λ s t j zs. ok_check _ at (read _ j zs))
  same_kind (suc (suc (suc (suc (suc (suc (suc zero))))))) xs p = two_parts (drop 5 xs) _ _ p (λ s t j zs. ok_check _ at (read _ j zs))
  same_kind (suc (suc (suc (suc (suc (suc (suc (suc zero)))))))) xs p = two_parts (drop 5 xs) _ _ p (λ s t j zs. ok_check _ at (read _ j zs))
  same_kind (suc (suc (suc (suc (suc (suc (suc (suc (suc k))))))))) xs p = refl

-- whole signs are read alike
same_reads : (n : ℕ) (ss : List (ℕ × ℕ)) (m at : ℕ) (xs : List ℕ) → length xs + 6 * at ≡ 6 * m → plain.reads n ss xs ≡ unplaced (reads n ss at xs)
unfolding plain.reads reads
same_reads zero ss m at xs p = refl
same_reads (suc n) ss m at [] p = refl
same_reads (suc n) ss m at (k ∷ xs) p =
    rw (le-leb 6 (suc (length xs)) (omega arith))
    (same_kind n ss at m (λ i ys q. same_reads n ss m i ys q) k xs (simp length-drop (omega arith)))

-- the tests of the lists
lists_same : (k : ℕ) (xs : List ℕ) → plain.lists_fit k xs ≡ eqb (passing list_fits k xs) k
unfolding plain.lists_fit passing list_fits
lists_same zero xs = refl
lists_same (suc k) xs = let ih = lists_same k (drop (list_size xs) xs) in grind (arith, nat_tests)

lists_number : (a b f : Bool) (p : ℕ) (later : Told) → number (first (first (unless a 1 0) (first (unless b 1 8) (unless f 1 p))) later) ≡ if (a && (b && f)) (number later) 1
lists_number true true true p later = refl
lists_number true true false p later = refl
lists_number true false f p later = refl
lists_number false b f p later = refl

-- the question
module _ (lists signs : List ℕ) where
  abbrev whole_signs : Bool
  whole_signs = leb (length signs) 96 && (eqb (length signs % 6) 0 && plain.whole (plain.asked lists signs))

  read_same : (m : ℕ) → length signs ≡ 6 * m → m ≤ 16 → plain.asked lists signs ≡ unplaced (asked lists signs)
  read_same m e l =
      let t : take 96 signs ≡ signs = take_all 96 signs (omega arith) in
      rw t (same_reads 16 (shapes lists) m 0 signs (omega arith))

  -- what the tests of whole signs say
  whole_says : whole_signs ≡ true → (plain.asked lists signs ≡ unplaced (asked lists signs)) × (length signs ≤ 96) × (plain.whole (plain.asked lists signs) ≡ true)
  whole_says e =
      let p : (leb (length signs) 96 ≡ true) × ((eqb (length signs % 6) 0 && plain.whole (plain.asked lists signs)) ≡ true) = and_parts _ _ e in
      let q : (eqb (length signs % 6) 0 ≡ true) × (plain.whole (plain.asked lists signs) ≡ true) = and_parts _ _ p.1 in
      let l : length signs ≤ 96 = leb-true (length signs) 96 p.0 in
      let z : length signs % 6 ≡ 0 = eqb-true (length signs % 6) 0 q.0 in
      (read_same (length signs / 6) (omega arith) (omega arith), l, q.1)

  abbrev QuestionNumber : Read → Told → Type 0
  QuestionNumber r later =
      ((number (first (question_told r signs) later) ≡ number later) × (whole_signs ≡ true) × (plain.asked lists signs ≡ unplaced r))
      ⊎ ((number (first (question_told r signs) later) ≡ 4) × (whole_signs ≡ false))

  refuted : (whole_signs ≡ true → ⊥) → whole_signs ≡ false
  refuted h = ⊎_elim (λ e. absurd (h e)) (λ e. e) (cases_Bool whole_signs)

  all_read : (s : Sized) (next : ℕ) (rest : List ℕ) → plain.whole (plain.read s.query s.lines s.width s.cost rest) ≡ true → length rest ≡ 0
  all_read s next [] e = refl
  all_read s next (x ∷ rest) e = absurd (false≢true e)

  none_left : (s : Sized) (rest : List ℕ) → length rest ≡ 0 → plain.whole (plain.read s.query s.lines s.width s.cost rest) ≡ true
  none_left s [] e = refl
  none_left s (x ∷ rest) e = absurd (omega arith)

  taken : length (take 96 signs) ≡ min 96 (length signs)
  taken = length-take 96 signs

  question_is : (later : Told) (r : Read) → asked lists signs ≡ r → Placed r (length (take 96 signs)) → QuestionNumber r later
  question_is later (bad sign) e p =
      inr (refl, refuted (λ w. let k = whole_says w in false≢true (ap plain.whole (sym (ap unplaced e) ∙ sym k.0) ∙ k.2)))
  question_is later (read s next rest) e p = go (eqb (6 * next) (length signs)) refl
    where
      go : (b : Bool) → eqb (6 * next) (length signs) ≡ b →
          ((number (first (unless b 4 next) later) ≡ number later) × (whole_signs ≡ true) × (plain.asked lists signs ≡ unplaced (read s next rest)))
          ⊎ ((number (first (unless b 4 next) later) ≡ 4) × (whole_signs ≡ false))
      go true t =
          let l : 6 * next ≡ length signs = eqb-true (6 * next) (length signs) t in
          let m : length rest ≡ 0 = omega (arith, taken) in
          let same : plain.asked lists signs ≡ unplaced (read s next rest) = read_same next (sym l) (omega (arith, taken)) ∙ ap unplaced e in
          let z : length signs % 6 ≡ 0 = omega arith in
          inl (refl, and_from _ _ (le-leb (length signs) 96 (omega (arith, taken))) (and_from _ _ (eq-eqb (length signs % 6) 0 z) (ap plain.whole same ∙ none_left s rest m)), same)
      go false t =
          inr (
            refl,
            refuted (λ w.
                let k = whole_says w in
                let m : length rest ≡ 0 = all_read s next rest (ap plain.whole (sym (ap unplaced e) ∙ sym k.0) ∙ k.2) in
                let l : length signs ≤ 96 = k.1 in
                eqb-false (6 * next) (length signs) t (omega (arith, taken))),
          )

  question_number : (later : Told) → QuestionNumber (asked lists signs) later
  question_number later = question_is later (asked lists signs) refl (reads_placed 16 (shapes lists) 0 (length (take 96 signs)) (take 96 signs) (omega arith))

-- the size, the room and the answer's slice
room_same : (nodes : List ℕ) (n : ℕ) → 1 + 5 * count nodes ≤ length nodes → count nodes + n ≤ 131072 → leb n (room nodes) ≡ leb (1 + 5 * (count nodes + n)) (length nodes)
room_same nodes n l h = grind (arith, nat_tests)

abbrev rest_told : (nodes out : List ℕ) → Sized → Told
rest_told nodes out s = first (size_told s) (first (room_told nodes (s.cost + 2)) (unless (leb (answer_size s) (length out)) 7 (length out)))

abbrev rest_refusal : (nodes out : List ℕ) (lines width cost : ℕ) → ℕ
rest_refusal nodes out lines width cost =
    if (leb lines 4096 && leb cost 65536)
    (if (leb (1 + 5 * (count nodes + cost + 2)) (length nodes)) (if (leb (lines * line_size width) (length out)) 0 7) 6) 5

rest_number : (nodes out : List ℕ) (s : Sized) → 1 + 5 * count nodes ≤ length nodes →
    (number (rest_told nodes out s) ≡ rest_refusal nodes out s.lines s.width s.cost)
    ⊎ ((number (rest_told nodes out s) ≡ 6) × (131072 < count nodes + s.cost + 2))
rest_number nodes out s l = go (leb s.lines 4096) (leb s.cost 65536) (cases_lt 131072 (count nodes + s.cost + 2))
  where
    seven : Told
    seven = unless (leb (answer_size s) (length out)) 7 (length out)

    full : leb (s.cost + 2) (room nodes) ≡ false → number (first (room_told nodes (s.cost + 2)) seven) ≡ 6
    full e = rw e refl

    fits : leb (s.cost + 2) (room nodes) ≡ leb (1 + 5 * (count nodes + s.cost + 2)) (length nodes) →
        number (first (room_told nodes (s.cost + 2)) seven) ≡ if (leb (1 + 5 * (count nodes + s.cost + 2)) (length nodes)) (if (leb (answer_size s) (length out)) 0 7) 6
    fits e = rw e (go (leb (1 + 5 * (count nodes + s.cost + 2)) (length nodes)) (leb (answer_size s) (length out)))
      where
        go : (a b : Bool) → number (first (unless a 6 (room nodes)) (unless b 7 (length out))) ≡ if a (if b 0 7) 6
        go true true = refl
        go true false = refl
        go false b = refl

    go : (a b : Bool) → (131072 < count nodes + s.cost + 2) ⊎ (count nodes + s.cost + 2 ≤ 131072) →
        (number (first (first (unless a 5 4097) (unless b 5 65537)) (first (room_told nodes (s.cost + 2)) seven))
        ≡ if (a && b) (if (leb (1 + 5 * (count nodes + s.cost + 2)) (length nodes)) (if (leb (answer_size s) (length out)) 0 7) 6) 5)
        ⊎ ((number (first (first (unless a 5 4097) (unless b 5 65537)) (first (room_told nodes (s.cost + 2)) seven)) ≡ 6) × (131072 < count nodes + s.cost + 2))
    go true true (inl h) = inr (full (lt-leb (s.cost + 2) (room nodes) (omega arith)), h)
    go true true (inr h) = inl (fits (room_same nodes (s.cost + 2) l (omega arith) ∙ ap (λ (n : ℕ). leb (1 + 5 * n) (length nodes)) (omega arith)))
    go true false h = inl refl
    go false b h = inl refl

-- the same; or 3; or 6 for a reason
abbrev Like : Type 0 → ℕ → ℕ → Type 0
Like P a b = (a ≡ b) ⊎ ((a ≡ 3) ⊎ ((a ≡ 6) × P))

like_store : (P : Type 0) (l s : Bool) (p : ℕ) (later : Told) (n : ℕ) → (s ≡ true → Like P (number later) n) →
    Like P (if l (number (first (unless s 2 p) later)) 1) (if l (if s n 2) 1)
like_store P true true p later n h = h refl
like_store P true false p later n h = inl refl
like_store P false s p later n h = inl refl

like_named : (P : Type 0) (a b : Bool) (p : ℕ) (later : Told) (n : ℕ) → Like P (number later) n → Like P (number (first (first (unless a 3 p) (unless b 3 8)) later)) n
like_named P true true p later n h = h
like_named P true false p later n h = inr (inl refl)
like_named P false b p later n h = inr (inl refl)

sizes : (nodes out : List ℕ) (r : Read) →
    rest_refusal nodes out (plain.lines_of (unplaced r)) (plain.width_of (unplaced r)) (plain.cost_of (unplaced r))
    ≡ rest_refusal nodes out (sized r).lines (sized r).width (sized r).cost
sizes nodes out (read s next rest) = refl
sizes nodes out (bad sign) = refl

like_question : (lists signs nodes out : List ℕ) → 1 + 5 * count nodes ≤ length nodes →
    Like (131072 < count nodes + (question lists signs).cost + 2)
    (number (first (question_told (asked lists signs) signs) (rest_told nodes out (question lists signs))))
    (if (whole_signs lists signs) (rest_refusal nodes out (plain.lines_of (plain.asked lists signs)) (plain.width_of (plain.asked lists signs)) (plain.cost_of (plain.asked lists signs))) 4)
like_question lists signs nodes out l = elim (question_number lists signs (rest_told nodes out (question lists signs))) [
  | inl q ↦ rw (q.0, q.1, q.2, sizes nodes out (asked lists signs)) (⊎_elim inl (λ h. inr (inr h)) (rest_number nodes out (question lists signs) l))
  | inr q ↦ inl (rw (q.0, q.1) refl)
]

pub same_number : SameNumber
unfolding all_pass
same_number lists signs nodes out =
    let k : ℕ = get_or lists 0 0 in
    let named : ℕ = passing (list_named (count nodes)) k (drop 2 lists) in
    let last : Told = first (question_told (asked lists signs) signs) (rest_told nodes out (question lists signs)) in
    let P : Type 0 = 131072 < count nodes + (question lists signs).cost + 2 in
    rw (lists_same k (drop 2 lists), lists_number)
    (like_store P (leb 1 k && (leb k 8 && eqb (passing list_fits k (drop 2 lists)) k)) (store_fits nodes) (count nodes) (first (named_told lists nodes) last) _
    (λ e. like_named P (eqb named k) (ltb (get_or lists 1 0) (count nodes)) named last _
    (like_question lists signs nodes out (leb-true (1 + 5 * count nodes) (length nodes) (and_parts (leb (count nodes) 131072) (leb (1 + 5 * count nodes) (length nodes)) e).1))))
