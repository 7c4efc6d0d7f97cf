-- A book once an entry is learned.
use Rattle.std.proofs.Common.{◌≡◌, ◌≢◌, ℕ, zero, suc, ◌+◌, ◌-◌, ◌*◌, ◌<◌, ◌≤◌, ◌^◌, ◌⊎◌, inl, inr, true, ltb, List, ◌∷◌, ◌++◌, length, get_or, take, drop, replicate, None, sym, refl, ap, ◌∙◌, arith, length-drop, length-append}
use Rattle.std.proofs.lemmas.Bool.{cases_lt, cases_eq, ltb-true, lt-ltb, and_parts}
use Rattle.std.specs.Cmp.Derive.{both_true}
use Rattle.std.proofs.lemmas.List.{append-nil, get_or-drop, get_or_append_left, drop_all, take_all, get_or_read}
use Rattle.std.proofs.lemmas.Grind.{same_number_lists}
use Rattle.condition.specs.Refusals.{Told, first}
use Rattle.condition.specs.Store.{count, cond_at, store_fits, store_told}
use Rattle.condition.specs.Nodes.{five}
use Rattle.condition.specs.declared.Node.TheVariants.{Both}
use Rattle.condition.proofs.Refusing.{first_none}
use Rattle.condition.proofs.Growing.{cond_same}
use Rattle.list.specs.Layout.{line_size, list_size, lines_at, columns_at, lines_named, list_named, passing, lists_told, named_told, check_told}
use Rattle.list.proofs.Fitting.{pass_parts, fitted, all_named}
use Rattle.list.proofs.Telling.{told_fit, named_all}
use Rattle.learn.specs.Learning.{Learned, Placed}
use Rattle.learn.proofs.Staying.{lines_stay, lists_stay}
use Rattle.file_bytes.specs.Numbers.{AllBelow}
use Rattle.file_bytes.proofs.Reading.{below_drop}
use Rattle.book_file.specs.Books.{IsBook}
use Rattle.book_file.specs.Entries.{with_new, EntryLearned}
use Rattle.book_file.proofs.Bytes.{below_cons, below_append, IsEntry}

both_none : (a b : Told) → a ≡ None → b ≡ None → first a b ≡ None
both_none a b e f = rw e f

-- the more nodes stand, the more lists name only those that do
module _ (c d : ℕ) (more : c ≤ d) where
  lines_named_more : (n w : ℕ) (xs : List ℕ) → lines_named c n w xs ≡ true → lines_named d n w xs ≡ true
  unfolding lines_named
  lines_named_more zero w xs h = refl
  lines_named_more (suc n) w xs h =
      let p = and_parts (ltb (get_or xs 0 0) c) (lines_named c n w (drop (line_size w) xs)) h in
      let l : get_or xs 0 0 < c = ltb-true (get_or xs 0 0) c p.0 in
      both_true (lt-ltb (get_or xs 0 0) d (omega arith)) (lines_named_more n w (drop (line_size w) xs) p.1)

  lists_named_more : (k : ℕ) (xs : List ℕ) → passing (list_named c) k xs ≡ k → passing (list_named d) k xs ≡ k
  unfolding passing list_named
  lists_named_more zero xs h = refl
  lists_named_more (suc k) xs h =
      let p = pass_parts (list_named c) k xs h in
      rw (lines_named_more (lines_at xs) (columns_at xs) (drop 2 xs) p.0) (ap suc (lists_named_more k (drop (list_size xs) xs) p.1))

-- lists that were told nothing of, with another node that stands as what is known
module _ (lists ls ns ns₁ : List ℕ) (told : check_told lists ns ≡ None) (long : length ls ≡ length lists)
    (rest : (k : ℕ) → k ≢ 1 → get_or ls k 0 ≡ get_or lists k 0) where
  pub behind_same : drop 2 ls ≡ drop 2 lists
  behind_same =
      same_number_lists (drop 2 ls) (drop 2 lists) (omega (arith, length-drop 2 ls, length-drop 2 lists))
      (λ k l. rw (get_or-drop 2 ls k 0, get_or-drop 2 lists k 0) (rest (2 + k) (λ e. omega arith)))

  pub first_same : get_or ls 0 0 ≡ get_or lists 0 0
  first_same = rest 0 (λ e. omega arith)

  lists_fine : lists_told ls ≡ None
  lists_fine =
      let f = fitted lists (first_none (lists_told lists) _ told).0 in
      told_fit ls (rw first_same f.some) (rw first_same f.few) (rw (first_same, behind_same) f.passed)

  named_fine : count ns ≤ count ns₁ → get_or ls 1 0 < count ns₁ → named_told ls ns₁ ≡ None
  named_fine more l =
      let n = all_named lists (count ns) (first_none (store_told ns) _ (first_none (lists_told lists) _ told).1).1 in
      let p = lists_named_more (count ns) (count ns₁) more (get_or lists 0 0) (drop 2 lists) n.0 in
      let q : passing (list_named (count ns₁)) (get_or ls 0 0) (drop 2 ls) ≡ get_or ls 0 0 = rw (first_same, behind_same) p in
      named_all ls (count ns₁) (get_or ls 0 0) (sym q) refl l

  pub still_fine : store_fits ns₁ ≡ true → count ns ≤ count ns₁ → get_or ls 1 0 < count ns₁ → check_told ls ns₁ ≡ None
  still_fine s more l =
      let t : store_told ns₁ ≡ None = rw s refl in
      both_none (lists_told ls) (first (store_told ns₁) (named_told ls ns₁)) lists_fine (both_none (store_told ns₁) (named_told ls ns₁) t (named_fine more l))

module _ (lists nodes new : List ℕ) (node : ℕ) (b : IsBook lists nodes) (e : IsEntry new node) where
  behind_long : length (drop 1 nodes) ≡ 5 * count nodes
  behind_long = omega (arith, b.whole, length-drop 1 nodes)

  pub with_long : length (with_new nodes new) ≡ 6 + 5 * count (with_new nodes new)
  with_long =
      let z : length {A = ℕ} (replicate 5 0) ≡ 5 = refl in
      omega (arith, b.whole, e.whole, length-drop 1 nodes, length-drop 1 new, length-append (drop 1 nodes) (drop 1 new ++ replicate 5 0), length-append (drop 1 new) (replicate 5 0))

  zeros_small : (n : ℕ) → AllBelow (2 ^ 32) (replicate n 0)
  zeros_small zero = λ k. omega arith
  zeros_small (suc n) = below_cons (2 ^ 32) 0 (replicate n 0) (omega arith) (zeros_small n)

  with_small : AllBelow (2 ^ 32) (with_new nodes new)
  with_small =
      below_cons (2 ^ 32) (count nodes + count new) (drop 1 nodes ++ (drop 1 new ++ replicate 5 0)) (omega (arith, b.few, e.few))
      (below_append (2 ^ 32) (drop 1 nodes) (drop 1 new ++ replicate 5 0) (below_drop (2 ^ 32) 1 nodes b.small_nodes)
      (below_append (2 ^ 32) (drop 1 new) (replicate 5 0) (below_drop (2 ^ 32) 1 new e.small_nodes) (zeros_small 5)))

  -- the nodes that stood
  with_front : (k : ℕ) → 0 < k → k < 1 + 5 * count nodes → get_or (with_new nodes new) k 0 ≡ get_or nodes k 0
  with_front zero p l = absurd (omega arith)
  with_front (suc k) p l =
      get_or_append_left (drop 1 nodes) (drop 1 new ++ replicate 5 0) 0 k (omega (arith, behind_long)) ∙ (get_or-drop 1 nodes k 0 ∙ ap (λ (i : ℕ). get_or nodes i 0) (omega arith))

  with_same : (j : ℕ) → j < count nodes → cond_at (with_new nodes new) j ≡ cond_at nodes j
  with_same j l = cond_same nodes (with_new nodes new) j l (omega arith) (λ k p q. with_front k p (omega arith))

  named : (passing (list_named (count nodes)) (get_or lists 0 0) (drop 2 lists) ≡ get_or lists 0 0) × (get_or lists 1 0 < count nodes)
  named = all_named lists (count nodes) (first_none (store_told nodes) _ (first_none (lists_told lists) _ b.told).1).1

  module _ (ls ns : List ℕ) (d : Learned lists (with_new nodes new) node ls ns) (p : Placed lists (with_new nodes new) node ls ns) where
    small_front : (k : ℕ) → 0 < k → k < 1 + 5 * count (with_new nodes new) → get_or ns k 0 < 2 ^ 32
    small_front k o l = rw (d.grown.front k o l) (with_small k)

    small_both : AllBelow (2 ^ 32) (five (Both (get_or lists 1 0) node))
    small_both =
        below_cons (2 ^ 32) 4 (get_or lists 1 0 ∷ (node ∷ replicate 2 0)) (omega arith)
        (below_cons (2 ^ 32) (get_or lists 1 0) (node ∷ replicate 2 0) (b.small_lists 1) (below_cons (2 ^ 32) node (replicate 2 0) e.small (zeros_small 2)))

    small_new : (j : ℕ) → j < 5 → get_or ns (1 + 5 * count (with_new nodes new) + j) 0 < 2 ^ 32
    small_new j l = rw (p.numbers j l) (small_both j)

    small_past : (k : ℕ) → 1 + 5 * count ns ≤ k → get_or ns k 0 < 2 ^ 32
    small_past k l = rw (d.grown.past k l) (with_small k)

    nodes_small : AllBelow (2 ^ 32) ns
    nodes_small zero = omega (arith, d.more, b.few, e.few)
    nodes_small (suc k) = go (cases_lt (suc k) (1 + 5 * count (with_new nodes new))) (cases_lt (suc k) (1 + 5 * count ns))
      where
        go : (suc k < 1 + 5 * count (with_new nodes new)) ⊎ (1 + 5 * count (with_new nodes new) ≤ suc k) → (suc k < 1 + 5 * count ns) ⊎ (1 + 5 * count ns ≤ suc k) → get_or ns (suc k) 0 < 2 ^ 32
        go (inl l) h = small_front (suc k) (omega arith) l
        go (inr m) (inl l) =
            let f : suc k ≡ 1 + 5 * count (with_new nodes new) + (suc k - (1 + 5 * count (with_new nodes new))) = omega arith in
            rw f (small_new (suc k - (1 + 5 * count (with_new nodes new))) (omega (arith, d.more)))
        go (inr m) (inr l) = small_past (suc k) l

    lists_small : AllBelow (2 ^ 32) ls
    lists_small k = go (cases_eq k 1)
      where
        go : (k ≡ 1) ⊎ (k ≡ 1 → ⊥) → get_or ls k 0 < 2 ^ 32
        go (inl q) = rw q (omega (arith, p.place, b.few, e.few))
        go (inr q) = rw (d.rest k q) (b.small_lists k)

    pub learned_book : count new < 131072 - count nodes → IsBook ls ns
    learned_book room = record {
      told = still_fine lists ls nodes ns b.told d.long d.rest d.store (omega (arith, d.more)) (omega (arith, p.place, d.more));
      there = rw (first_same lists ls nodes ns b.told d.long d.rest, behind_same lists ls nodes ns b.told d.long d.rest) b.there;
      exact = d.long ∙ rw (first_same lists ls nodes ns b.told d.long d.rest, behind_same lists ls nodes ns b.told d.long d.rest) b.exact;
      few = omega (arith, d.more);
      whole = omega (arith, d.grown.long, d.more, with_long);
      small_lists = lists_small;
      small_nodes = nodes_small;
    }

    pub entry_learned : (i : ℕ) → i ≡ get_or ls 1 0 → EntryLearned lists nodes new node ls ns i
    entry_learned i h = record {
      learned = d;
      known = h;
      place = h ∙ p.place;
      unchanged = record {
        conditions = λ j l. d.unchanged.conditions j (omega arith) ∙ with_same j l;
        all = d.unchanged.all ∙ lists_stay nodes (with_new nodes new) with_same (get_or lists 0 0) (drop 2 lists) named.0;
        lines = λ n w xs l. d.unchanged.lines n w xs (lines_named_more (count nodes) (count (with_new nodes new)) (omega arith) n w xs l) ∙ lines_stay nodes (with_new nodes new) with_same n w xs l;
      };
      narrowed = rw (← with_same (get_or lists 1 0) named.1) d.narrowed;
    }

-- a slice that was written whole
written_whole : (n : ℕ) (xs ys : List ℕ) → n ≡ length ys → length xs ≡ length ys → take n (xs ++ drop (length xs) ys) ≡ xs
written_whole n xs ys l e =
    ap (λ (t : List ℕ). take n (xs ++ t)) (drop_all (length xs) ys (omega arith)) ∙ (ap (take n) (append-nil xs) ∙ take_all n xs (omega arith))

-- what the copies xs and ys of the lists and the nodes became
pub record Became (lists nodes new xs ys ls ns : List ℕ) (node n m i : ℕ) : Type 0 where
  pub lists_are : take n (ls ++ drop (length ls) xs) ≡ ls
  pub nodes_are : take m (ns ++ drop (length ns) ys) ≡ ns
  pub book : IsBook ls ns
  pub learned : EntryLearned lists nodes new node ls ns i

pub became : (lists nodes new xs ys vs ws ls ns : List ℕ) (node n m i j k : ℕ) → IsBook lists nodes → IsEntry new node →
    xs ≡ lists → ys ≡ with_new nodes new → vs ≡ xs → ws ≡ ys → n ≡ length xs → m ≡ length ys → Learned vs ws node ls ns × Placed vs ws node ls ns →
    j ≡ get_or nodes 0 j → k ≡ get_or new 0 k → k < 131072 - j → i ≡ get_or (take n (ls ++ drop (length ls) xs)) 1 i → Became lists nodes new xs ys ls ns node n m i
became lists nodes new xs ys vs ws ls ns node n m i j k b e x y v w ln lm h jr kr room ir =
    let p : Learned lists (with_new nodes new) node ls ns × Placed lists (with_new nodes new) node ls ns = rw (v ∙ x, w ∙ y) at h in
    let lx : length ls ≡ length xs = p.0.long ∙ ap length (sym x) in
    let ly : length ns ≡ length ys = p.0.grown.long ∙ ap length (sym y) in
    let a = written_whole n ls xs ln lx in
    let f = fitted lists (first_none (lists_told lists) _ b.told).0 in
    let jz : j ≡ count nodes = get_or_read nodes 0 j (omega (arith, b.whole)) jr 0 in
    let kz : k ≡ count new = get_or_read new 0 k (omega (arith, e.whole)) kr 0 in
    let iz : i ≡ get_or ls 1 0 = get_or_read ls 1 i (omega (arith, f.long, p.0.long)) (rw a at ir) 0 in
    record {
      lists_are = a;
      nodes_are = written_whole m ns ys lm ly;
      book = learned_book lists nodes new node b e ls ns p.0 p.1 (omega arith);
      learned = entry_learned lists nodes new node b e ls ns p.0 p.1 i iz;
    }
