-- What is told of a question, from what is told of its parts.
use Rattle.std.proofs.Common.{◌≡◌, ℕ, ◌+◌, ◌*◌, ◌<◌, ◌≤◌, leb, List, length, Ok, Some, None, sym, refl, ap, ◌∙◌, subst, arith}
use Rattle.std.proofs.lemmas.Bool.{le-leb, lt-leb, leb-true, and_parts}
use Rattle.condition.specs.Refusals.{Told, first, unless}
use Rattle.condition.specs.Store.{count, store_fits, store_told, room, room_told}
use Rattle.condition.proofs.Refusing.{first_none, unless_none}
use Rattle.list.specs.Layout.{lists_told, named_told, check_told, shapes}
use Rattle.list.specs.Shapes.{AllShaped}
use Rattle.list.specs.declared.shapes.Shapes.{Shapes}
use Rattle.query.specs.Questions.{Stands}
use Rattle.query.specs.Reading.{Sized, Read, asked, question_told, size_told}
use Rattle.query.specs.Shapes.{part_at}
use Rattle.query.specs.declared.Part.{Part}
use Rattle.answer.specs.Entry.{question, answer_size, ask_told, Passed, Answered, AskLeaves, AskSays}
use Rattle.answer.proofs.Splitting.{counted}
use Rattle.answer.proofs.Planning.{planned_at}

first_assoc : (a b c : Told) → first (first a b) c ≡ first a (first b c)
first_assoc None b c = refl
first_assoc (Some t) b c = refl

after : (a b : Told) → a ≡ None → first a b ≡ b
after a b e = rw e refl

module _ (lists signs nodes out : List ℕ) where
  abbrev s : Sized
  s = question lists signs

  abbrev seven : Told
  seven = unless (leb (answer_size s) (length out)) 7 (length out)

  abbrev later : Told
  later = first (room_told nodes (s.cost + 2)) seven

  abbrev asking : Told
  asking = first (question_told (asked lists signs) signs) (size_told s)

  told_rest : check_told lists nodes ≡ None → ask_told lists signs nodes out ≡ first asking later
  told_rest e =
      let f = first_none (lists_told lists) (first (store_told nodes) (named_told lists nodes)) e in
      let g = first_none (store_told nodes) (named_told lists nodes) f.1 in
      let z = first (question_told (asked lists signs) signs) (first (size_told s) later) in
      after (lists_told lists) (first (store_told nodes) (first (named_told lists nodes) z)) f.0
      ∙ (after (store_told nodes) (first (named_told lists nodes) z) g.0
      ∙ (after (named_told lists nodes) z g.1 ∙ sym (first_assoc (question_told (asked lists signs) signs) (size_told s) later)))

  module _ (checks : None ≡ check_told lists nodes) where
    pub told_asking : (t : ℕ × ℕ) → Some t ≡ asking → Some t ≡ ask_told lists signs nodes out
    told_asking t e = sym (told_rest (sym checks) ∙ ap (λ z. first z later) (sym e))

    module _ (reading : None ≡ asking) where
      told_later : ask_told lists signs nodes out ≡ later
      told_later = told_rest (sym checks) ∙ after asking later (sym reading)

      pub told_room : (n c : ℕ) → n ≡ room nodes → c ≡ s.cost → n < c + 2 → Some (6, n) ≡ ask_told lists signs nodes out
      told_room n c e f l =
          let m : room nodes < s.cost + 2 = omega arith in
          let g : room_told nodes (s.cost + 2) ≡ Some (6, room nodes) = rw (lt-leb (s.cost + 2) (room nodes) m) refl in
          rw e (sym (told_later ∙ ap (λ z. first z seven) g))

      told_seven : (n c : ℕ) → n ≡ room nodes → c ≡ s.cost → c + 2 ≤ n → ask_told lists signs nodes out ≡ seven
      told_seven n c e f l =
          let m : s.cost + 2 ≤ room nodes = omega arith in
          let g : room_told nodes (s.cost + 2) ≡ None = rw (le-leb (s.cost + 2) (room nodes) m) refl in
          told_later ∙ after (room_told nodes (s.cost + 2)) seven g

      pub told_out : (n c z : ℕ) → n ≡ room nodes → c ≡ s.cost → c + 2 ≤ n → z ≡ answer_size s → length out < z → Some (7, length out) ≡ ask_told lists signs nodes out
      told_out n c z e f l g h =
          let m : length out < answer_size s = omega arith in
          sym (told_seven n c e f l ∙ rw (lt-leb (answer_size s) (length out) m) refl)

      pub told_none : (n c z : ℕ) → n ≡ room nodes → c ≡ s.cost → c + 2 ≤ n → z ≡ answer_size s → z ≤ length out → None ≡ ask_told lists signs nodes out
      told_none n c z e f l g h =
          let m : answer_size s ≤ length out = omega arith in
          sym (told_seven n c e f l ∙ rw (le-leb (answer_size s) (length out) m) refl)

  pub passed : None ≡ ask_told lists signs nodes out → Passed s lists nodes out
  passed e =
      let a = first_none (lists_told lists) _ (sym e) in
      let b = first_none (store_told nodes) _ a.1 in
      let c = first_none (named_told lists nodes) _ b.1 in
      let d = first_none (question_told (asked lists signs) signs) _ c.1 in
      let f = first_none (size_told s) _ d.1 in
      let l = first_none (unless (leb s.lines 4096) 5 4097) (unless (leb s.cost 65536) 5 65537) f.0 in
      let g = first_none (room_told nodes (s.cost + 2)) seven f.1 in
      let r = leb-true (s.cost + 2) (room nodes) (unless_none (leb (s.cost + 2) (room nodes)) 6 (room nodes) g.0) in
      let h = and_parts (leb (count nodes) 131072) (leb (1 + 5 * count nodes) (length nodes)) (unless_none (store_fits nodes) 2 (count nodes) b.0) in
      let k = leb-true (1 + 5 * count nodes) (length nodes) h.1 in
      record {
        listed = a.0;
        named = c.0;
        cheap = leb-true s.cost 65536 (unless_none (leb s.cost 65536) 5 65537 l.1);
        few = leb-true (count nodes) 131072 h.0;
        room = omega arith;
        size = leb-true (answer_size s) (length out) (unless_none (leb (answer_size s) (length out)) 7 (length out) g.1);
      }

-- its lines are at most eight cells wide
pub narrow : {lists : List ℕ} (nodes : List ℕ) {sh : Shapes} {r : Read} {ps : List Part} {n : ℕ} → AllShaped lists sh → None ≡ check_told lists nodes → Stands (shapes lists) r ps n → (part_at ps 0).width ≤ 8
narrow {lists = lists} nodes {sh = sh} {ps = ps} {n = n} shaped e st =
    let f = first_none (lists_told lists) (first (store_told nodes) (named_told lists nodes)) (sym e) in
    let g = first_none (store_told nodes) (named_told lists nodes) f.1 in
    let p = planned_at shaped {k = count nodes} refl g.1 16 n ps refl st.parts (rw st.sizes st.cost) in
    let m = (counted 16 sh ps p.sound.counted).1 in omega (arith, m.width, m.narrow)

-- a reply with an answer
pub says_ok : (lists signs nodes out : List ℕ) (n : ℕ) (nodes₁ out₁ : List ℕ) → None ≡ ask_told lists signs nodes out → n ≡ (question lists signs).lines →
    Answered (question lists signs) lists nodes out nodes₁ out₁ → AskSays lists signs nodes out (Ok n) nodes₁ out₁
says_ok lists signs nodes out n nodes₁ out₁ e l a = subst (λ t. AskLeaves lists signs nodes out t (Ok n) nodes₁ out₁) e (ap Ok l, a)
