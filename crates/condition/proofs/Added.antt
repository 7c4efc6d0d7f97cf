-- One node added behind those that stand: the five numbers ys in place of what stood there, and the count one higher.
use Rattle.std.proofs.Common.{◌≡◌, ℕ, suc, ◌+◌, ◌-◌, ◌*◌, ◌<◌, ◌≤◌, ◌≢◌, List, ◌++◌, length, get_or, take, drop, set, sym, refl, ap, ◌∙◌, add-zero, arith, lit<, length-drop, length-take}
use borrow.Rule.Slice.PartMut.{put_mid}
use Rattle.std.proofs.lemmas.List.{drop_all, append-nil, get_or_append_left, get_or-append_right, get_or-take, get_or-drop, get_or-set_same, get_or-set_other, length-append, length-set}
use Rattle.condition.specs.Cond.{Cond}
use Rattle.condition.specs.Store.{node, cond_deep, count, cond_at, Grown}
use Rattle.condition.specs.Shapes.{node_of, Named}
use Rattle.condition.specs.Nodes.{node_from, decoded, five, Added}
use Rattle.condition.specs.declared.Cell.TheVariants.{Number, Gap}
use Rattle.condition.specs.declared.Node.{Node}
use Rattle.condition.specs.declared.Node.TheVariants.{Always, Never, Equal, Not, Both, Either}
use Rattle.condition.proofs.Fuel.{unrolled, deep_same, node_same, earlier_same, at_within, node_five}

five_is : (n : Node) (go : ℕ → Cond) → node_of n go ≡ node (get_or (five n) 0 0) (get_or (five n) 1 0) (get_or (five n) 2 0) (get_or (five n) 3 0) (get_or (five n) 4 0) go
five_is Always go = refl
five_is Never go = refl
five_is (Equal (Number a) (Number b)) go = refl
five_is (Equal (Number a) (Gap b)) go = refl
five_is (Equal (Gap a) (Number b)) go = refl
five_is (Equal (Gap a) (Gap b)) go = refl
five_is (Not a) go = refl
five_is (Both a b) go = refl
five_is (Either a b) go = refl

-- the first five numbers of xs are those of the node n
abbrev pub Five : Node → List ℕ → Type 0
Five n xs = (k : ℕ) → k < 5 → get_or xs k 0 ≡ get_or (five n) k 0

five_node : (n : Node) (xs : List ℕ) → Five n xs → (go : ℕ → Cond) → node_of n go ≡ node (get_or xs 0 0) (get_or xs 1 0) (get_or xs 2 0) (get_or xs 3 0) (get_or xs 4 0) go
five_node n xs h go = rw (h 0 (lit< tt), h 1 (lit< tt), h 2 (lit< tt), h 3 (lit< tt), h 4 (lit< tt)) (five_is n go)

-- a slice whose part from a on was written
pub put_rest : (a : ℕ) (xs ys : List ℕ) → put_mid a (length xs - a) xs ys ≡ take a xs ++ ys
put_rest a xs ys =
    let z : length (drop a xs) ≤ length xs - a = simp length-drop (omega arith) in
    ap (λ t. take a xs ++ (ys ++ t)) (drop_all (length xs - a) (drop a xs) z) ∙ ap (λ t. take a xs ++ t) (append-nil ys)

module _ (xs ys : List ℕ) (fits : 6 + 5 * count xs ≤ length xs) (size : length ys ≡ length xs - (1 + 5 * count xs)) where
  abbrev at : ℕ
  at = 1 + 5 * count xs

  abbrev pub after : List ℕ
  after = set (put_mid at (length xs - at) xs ys) 0 (count xs + 1)

  front_long : length (take at xs) ≡ at
  front_long = simp length-take (omega arith)

  long : length after ≡ length xs
  long = simp (length-set, put_rest, length-append) (omega (arith, front_long, size))

  pub counted : count after ≡ count xs + 1
  counted =
      let l : 0 < length (put_mid at (length xs - at) xs ys) = simp (put_rest, length-append) (omega (arith, front_long)) in
      get_or-set_same _ 0 (count xs + 1) 0 l

  front : (k : ℕ) → 0 < k → k < at → get_or after k 0 ≡ get_or xs k 0
  front k l m =
      let ne : k ≢ 0 = omega arith in let q : k < length (take at xs) = omega (arith, front_long) in
      get_or-set_other (put_mid at (length xs - at) xs ys) 0 k (count xs + 1) 0 ne ∙ (ap (λ t. get_or t k 0) (put_rest at xs ys) ∙ (get_or_append_left (take at xs) ys 0 k q ∙ get_or-take at xs k 0 m))

  behind : (k : ℕ) → get_or after (at + k) 0 ≡ get_or ys k 0
  behind k =
      let ne : at + k ≢ 0 = omega arith in let e : at + k - at ≡ k = omega arith in
      get_or-set_other (put_mid at (length xs - at) xs ys) 0 (at + k) (count xs + 1) 0 ne
      ∙ (ap (λ t. get_or t (at + k) 0) (put_rest at xs ys) ∙ (get_or-append_right (take at xs) ys at (at + k) 0 front_long (omega arith) ∙ ap (λ t. get_or ys t 0) e))

  pub grown : ((k : ℕ) → 5 ≤ k → get_or ys k 0 ≡ get_or (drop at xs) k 0) → Grown xs after
  grown h = record {
    long = long;
    more = omega (arith, counted);
    fits = omega (arith, counted, long, fits);
    front = front;
    past = λ k l. let e : at + (k - at) ≡ k = omega (arith, counted) in
        ap (λ t. get_or after t 0) (sym e) ∙ (behind (k - at) ∙ (h (k - at) (omega (arith, counted)) ∙ (get_or-drop at xs (k - at) 0 ∙ ap (λ t. get_or xs t 0) e)));
  }

  pub numbered : (n : Node) → Five n ys → (k : ℕ) → k < 5 → get_or after (1 + 5 * count xs + k) 0 ≡ get_or (five n) k 0
  numbered n f k l = behind k ∙ f k l

  five_at : (k : ℕ) → get_or (drop 1 after) (5 * count xs + k) 0 ≡ get_or ys k 0
  five_at k = let e : 1 + (5 * count xs + k) ≡ at + k = omega arith in get_or-drop 1 after (5 * count xs + k) 0 ∙ (ap (λ t. get_or after t 0) e ∙ behind k)

  pub added : (n : Node) → Five n ys → cond_at after (count xs) ≡ node_of n (cond_at xs)
  unfolding cond_at
  added n f =
      at_within after (count xs) (omega (arith, counted))
      ∙ (unrolled (drop 1 after) (count xs)
      ∙ (node_five (drop 1 after) ys (count xs) five_at _
      ∙ (node_same (get_or ys 0 0) (get_or ys 1 0) (get_or ys 2 0) (get_or ys 3 0) (get_or ys 4 0) _ (cond_at xs)
      (earlier_same (count xs) (λ j. cond_deep (suc j) (drop 1 after) j) (λ j. cond_deep (suc j) (drop 1 xs) j)
      (λ j l. deep_same (suc j) (drop 1 after) (drop 1 xs) j (λ k m. rw (get_or-drop 1 after k 0, get_or-drop 1 xs k 0) (front (1 + k) (omega arith) (omega arith)))))
      ∙ sym (five_node n ys f (cond_at xs)))))

five_read : (n : Node) → Named n → node_from (get_or (five n) 0 0) (get_or (five n) 1 0) (get_or (five n) 2 0) (get_or (five n) 3 0) (get_or (five n) 4 0) ≡ n
five_read Always m = refl
five_read Never m = refl
five_read (Equal (Number a) (Number b)) m = refl
five_read (Equal (Number a) (Gap b)) m = rw m.1 refl
five_read (Equal (Gap a) (Number b)) m = rw m.0 refl
five_read (Equal (Gap a) (Gap b)) m = rw (m.0, m.1) refl
five_read (Not a) m = refl
five_read (Both a b) m = refl
five_read (Either a b) m = refl

-- a node whose five numbers stand at place i is read there, unless it compares a gap above 63
pub five_decoded : (xs : List ℕ) (i : ℕ) (n : Node) → ((k : ℕ) → k < 5 → get_or xs (1 + 5 * i + k) 0 ≡ get_or (five n) k 0) → Named n → decoded xs i ≡ n
five_decoded xs i n h m =
    let z : get_or xs (1 + 5 * i) 0 ≡ get_or (five n) 0 0 = ap (λ t. get_or xs t 0) (sym (add-zero (1 + 5 * i))) ∙ h 0 (lit< tt) in
    rw (z, h 1 (lit< tt), h 2 (lit< tt), h 3 (lit< tt), h 4 (lit< tt)) (five_read n m)

-- so is a node that was added
pub added_decoded : (xs ys : List ℕ) (n : Node) (i : ℕ) → Added xs ys n i → Named n → decoded ys i ≡ n
added_decoded xs ys n i a = five_decoded ys i n a.numbers
