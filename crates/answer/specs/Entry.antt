-- What asking a question leaves behind, over the numbers that it is passed.
--
--   room_size cost                            how many numbers asking a question of that cost may write behind the nodes that stand
--   ask_told lists signs nodes out            what is told, the first number of the list that applies
--   AskSays lists signs nodes out r ns os    what the reply is, and what the store and the answer's slice hold after
--   Stays lists nodes ns                      the lists and all conditions that stood mean what they meant
use Rattle.std.specs.Prelude.{◌≡◌, ℕ, ◌+◌, ◌*◌, ◌<◌, ◌≤◌, min, List, length, drop, Result, Ok, Err, Some, None, nat_le}
use Rattle.condition.specs.Refusals.{Told, told, first, unless}
use Rattle.condition.specs.Store.{count, cond_at, store_told, room_told, Grown}
use Rattle.condition.specs.declared.Refusal.{Refusal}
use Rattle.list.specs.Layout.{shapes, line_size, lines_in, known_in, all_in, lists_told, named_told}
use Rattle.query.specs.Reading.{Sized, asked, sized, question_told, size_told}
use Rattle.query.specs.Parts.{sized_of}
use Rattle.query.specs.declared.Part.{Part}
use Rattle.answer.specs.Answer.{answer}

-- the question that is asked
abbrev pub question : (lists signs : List ℕ) → Sized
question lists signs = sized (asked lists signs)

-- a question that was read, by its parts
abbrev pub parts_size : (lists : List ℕ) → List Part → Sized
parts_size lists parts = sized_of 16 (shapes lists) parts

-- how many numbers its answer takes
abbrev pub answer_size : Sized → ℕ
answer_size s = s.lines * line_size s.width

-- asking a question adds at most its cost and two nodes, of five numbers each; no question that is answered costs more than 65,536
abbrev pub room_size : ℕ → ℕ
room_size cost = 5 * (min cost 65536 + 2)

abbrev pub ask_told : (lists signs nodes out : List ℕ) → Told
ask_told lists signs nodes out =
    first (lists_told lists)
    (first (store_told nodes)
    (first (named_told lists nodes)
    (first (question_told (asked lists signs) signs)
    (first (size_told (question lists signs))
    (first (room_told nodes ((question lists signs).cost + 2))
    (unless (nat_le (answer_size (question lists signs)) (length out)) 7 (length out)))))))

-- where nothing is told, everything fits
pub record Passed (s : Sized) (lists nodes out : List ℕ) : Type 0 where
  pub listed : lists_told lists ≡ None
  pub named : named_told lists nodes ≡ None
  pub cheap : s.cost ≤ 65536
  pub few : count nodes ≤ 131072
  pub room : 1 + 5 * (count nodes + s.cost + 2) ≤ length nodes
  pub size : answer_size s ≤ length out

-- nodes are added behind those that stand, at most the cost and two; the front of the answer's slice holds the answer's lines,
-- and past them it holds what it held
pub record Answered (s : Sized) (lists nodes out : List ℕ) (nodes₁ out₁ : List ℕ) : Type 0 where
  pub grown : Grown nodes nodes₁
  pub few : count nodes₁ ≤ count nodes + s.cost + 2
  pub long : length out₁ ≡ length out
  pub lines : lines_in nodes₁ s.lines s.width out₁ ≡ answer s.query (all_in nodes lists)
  pub past : drop (answer_size s) out₁ ≡ drop (answer_size s) out

-- a refusal leaves both slices as they were
abbrev pub AskLeaves : (lists signs nodes out : List ℕ) → Told → Result ℕ Refusal → (nodes₁ out₁ : List ℕ) → Type 0
AskLeaves lists signs nodes out None r nodes₁ out₁ = (r ≡ Ok (question lists signs).lines) × Answered (question lists signs) lists nodes out nodes₁ out₁
AskLeaves lists signs nodes out (Some t) (Ok n) nodes₁ out₁ = ⊥
AskLeaves lists signs nodes out (Some t) (Err e) nodes₁ out₁ = (told e ≡ t) × (nodes₁ ≡ nodes) × (out₁ ≡ out)

abbrev pub AskSays : (lists signs nodes out : List ℕ) → Result ℕ Refusal → (nodes₁ out₁ : List ℕ) → Type 0
AskSays lists signs nodes out r nodes₁ out₁ = AskLeaves lists signs nodes out (ask_told lists signs nodes out) r nodes₁ out₁

pub record Stays (lists nodes nodes₁ : List ℕ) : Type 0 where
  pub conditions : (j : ℕ) → j < count nodes → cond_at nodes₁ j ≡ cond_at nodes j
  pub known : known_in nodes₁ lists ≡ known_in nodes lists
  pub all : all_in nodes₁ lists ≡ all_in nodes lists
