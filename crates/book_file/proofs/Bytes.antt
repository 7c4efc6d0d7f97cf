-- Books as bytes and back.
use Rattle.std.proofs.Common.{◌≡◌, ℕ, zero, suc, ◌+◌, ◌-◌, ◌*◌, ◌<◌, ◌≤◌, ◌^◌, List, [], ◌∷◌, ◌++◌, length, get_or, take, drop, sym, refl, ap, None, ◌∙◌, append_assoc, arith, length-drop, length-append}
use Rattle.std.proofs.lemmas.List.{append-nil, take_at, drop_at, take_rest, nil_from_length}
use Rattle.condition.specs.Store.{count}
use Rattle.list.specs.Layout.{check_told}
use Rattle.file_bytes.specs.Numbers.{number_at, numbers_in, ReadOn, AllBelow, four, bytes_of}
use Rattle.file_bytes.specs.Listing.{lists_long, AllThere, lists_in_file, ListsThere}
use Rattle.file_bytes.proofs.There.{all_less}
use Rattle.file_bytes.proofs.Reading.{below_drop}
use Rattle.file_bytes.proofs.Inverse.{bytes_read, bytes_written, bytes_add, bytes_long}
use Rattle.book_file.specs.Books.{IsBook, book_bytes}

-- numbers that are read fit four bytes
pub number_small : (bs : List ℕ) → AllBelow 256 bs → number_at bs < 2 ^ 32
number_small bs h = omega (arith, h 0, h 1, h 2, h 3)

pub below_cons : (m x : ℕ) (xs : List ℕ) → x < m → AllBelow m xs → AllBelow m (x ∷ xs)
below_cons m x xs l h = go
  where
    go : AllBelow m (x ∷ xs)
    go zero = l
    go (suc k) = h k

numbers_small : (n : ℕ) (bs : List ℕ) → AllBelow 256 bs → AllBelow (2 ^ 32) (numbers_in n bs)
unfolding numbers_in
numbers_small zero bs h = λ k. omega arith
numbers_small (suc n) bs h = below_cons (2 ^ 32) (number_at bs) (numbers_in n (drop 4 bs)) (number_small bs h) (numbers_small n (drop 4 bs) (below_drop 256 4 bs h))

numbers_long : (n : ℕ) (bs : List ℕ) → length (numbers_in n bs) ≡ n
unfolding numbers_in
numbers_long zero bs = refl
numbers_long (suc n) bs = ap suc (numbers_long n (drop 4 bs))

pub below_append : (m : ℕ) (xs ys : List ℕ) → AllBelow m xs → AllBelow m ys → AllBelow m (xs ++ ys)
below_append m [] ys h g = g
below_append m (x ∷ xs) ys h g = below_cons m x (xs ++ ys) (h 0) (below_append m xs ys (λ k. h (suc k)) g)

whole_store : (nodes : List ℕ) → 1 ≤ length nodes → nodes ≡ count nodes ∷ drop 1 nodes
whole_store [] l = absurd (omega arith)
whole_store (n ∷ ns) l = refl

-- what lists and nodes have that are the numbers of some bytes
pub record Sized (lists nodes : List ℕ) : Type 0 where
  pub whole : length nodes ≡ 1 + 5 * count nodes
  pub small_lists : AllBelow (2 ^ 32) lists
  pub small_nodes : AllBelow (2 ^ 32) nodes

pub sized : (lists nodes : List ℕ) → IsBook lists nodes → Sized lists nodes
sized lists nodes b = record { whole = b.whole; small_lists = b.small_lists; small_nodes = b.small_nodes }

numbers_first : (n : ℕ) (bs : List ℕ) → 1 ≤ n → get_or (numbers_in n bs) 0 0 ≡ number_at bs
unfolding numbers_in
numbers_first zero bs l = absurd (omega arith)
numbers_first (suc n) bs l = refl

pub behind_two : (lists ds : List ℕ) → 2 ≤ length lists → drop 8 (bytes_of lists ++ ds) ≡ bytes_of (drop 2 lists) ++ ds
unfolding bytes_of
behind_two [] ds l = absurd (omega arith)
behind_two (x ∷ []) ds l = absurd (omega arith)
behind_two (x ∷ (y ∷ zs)) ds l = refl

-- lists that were read take all their numbers
read_listed : (cs ds lists : List ℕ) → AllBelow 256 cs → ReadOn (lists_in_file cs) cs [] ds lists → ListsThere 64 cs →
    AllThere 64 (get_or lists 0 0) (bytes_of (drop 2 lists)) × (length lists ≡ 2 + lists_long (get_or lists 0 0) (bytes_of (drop 2 lists)))
read_listed cs ds lists h r t =
    let n : length lists ≡ lists_in_file cs = ap length r.0 ∙ numbers_long (lists_in_file cs) cs in
    let f : get_or lists 0 0 ≡ number_at cs = ap (λ (u : List ℕ). get_or u 0 0) r.0 ∙ numbers_first (lists_in_file cs) cs (omega arith) in
    let a : bytes_of lists ++ ds ≡ cs = rw (r.0, r.1) (bytes_written (lists_in_file cs) cs h r.2) in
    let b : drop 8 cs ≡ bytes_of (drop 2 lists) ++ ds = ap (drop 8) (sym a) ∙ behind_two lists ds (omega arith) in
    let u : AllThere 64 (number_at cs) (bytes_of (drop 2 lists) ++ ds) = rw (← b) t.3 in
    let v : length lists ≡ 2 + lists_long (number_at cs) (bytes_of (drop 2 lists) ++ ds) = rw (← b) n in
    let l = all_less 64 (number_at cs) (bytes_of (drop 2 lists)) ds u (omega (arith, v, bytes_long (drop 2 lists), length-drop 2 lists)) in
    (rw f l.0, rw f (rw l.1 v))

-- from bytes to a book
module _ (bs cs ds es lists nodes : List ℕ) (n : ℕ) (h : AllBelow 256 bs)
    (long : 4 ≤ length bs) (is : n ≡ number_at bs) (after : cs ≡ drop 4 bs)
    (all : ReadOn (lists_in_file cs) cs [] ds lists) (rest : ReadOn (5 * n) ds (n ∷ []) es nodes) (done : length es ≡ 0) where
  below_cs : AllBelow 256 cs
  below_cs = rw after (below_drop 256 4 bs h)

  below_ds : AllBelow 256 ds
  below_ds = rw all.1 (below_drop 256 (4 * lists_in_file cs) cs below_cs)

  read_sized : Sized lists nodes
  read_sized =
      let z : nodes ≡ n ∷ numbers_in (5 * n) ds = rest.0 in
      record {
        whole = rw z (omega (arith, numbers_long (5 * n) ds));
        small_lists = rw all.0 (numbers_small (lists_in_file cs) cs below_cs);
        small_nodes = rw z (below_cons (2 ^ 32) n (numbers_in (5 * n) ds) (rw is (number_small bs h)) (numbers_small (5 * n) ds below_ds));
      }

  read_book : n ≤ 131072 → check_told lists nodes ≡ None → ListsThere 64 cs → IsBook lists nodes
  read_book few told there =
      let s = read_sized in
      let l = read_listed cs ds lists below_cs all there in
      record {
        told = told;
        there = l.0;
        exact = l.1;
        few = rw rest.0 few;
        whole = s.whole;
        small_lists = s.small_lists;
        small_nodes = s.small_nodes;
      }

  first_four : bs ≡ four n ++ cs
  unfolding numbers_in bytes_of
  first_four = rw (is, after) (sym (bytes_written 1 bs h (omega arith)))

  read_bytes : bs ≡ book_bytes lists nodes
  unfolding bytes_of
  read_bytes =
      let a : bytes_of lists ++ ds ≡ cs = rw (all.0, all.1) (bytes_written (lists_in_file cs) cs below_cs all.2) in
      let b : bytes_of (drop 1 nodes) ++ es ≡ ds = rw (rest.0, rest.1) (bytes_written (5 * n) ds below_ds rest.2) in
      let e : es ≡ [] = nil_from_length es done in
      let c : bytes_of (drop 1 nodes) ≡ ds = sym (append-nil (bytes_of (drop 1 nodes))) ∙ (ap (λ (t : List ℕ). bytes_of (drop 1 nodes) ++ t) (sym e) ∙ b) in
      let k : n ≡ count nodes = rw rest.0 refl in
      first_four ∙ (ap (λ (t : List ℕ). four n ++ t) (sym a ∙ (ap (λ (t : List ℕ). bytes_of lists ++ t) (sym c) ∙ sym (bytes_add lists (drop 1 nodes))))
      ∙ ap (λ (t : ℕ). four t ++ bytes_of (lists ++ drop 1 nodes)) k)

-- the numbers of a book are those of its bytes
same_numbers : (xs ys : List ℕ) → AllBelow (2 ^ 32) xs → AllBelow (2 ^ 32) ys → bytes_of xs ≡ bytes_of ys → xs ≡ ys
same_numbers xs ys h g e =
    let n : length xs ≡ length ys = omega (arith, bytes_long xs, bytes_long ys, ap length e) in
    sym (bytes_read xs [] h).0
    ∙ (ap (λ (t : List ℕ). numbers_in (length xs) (t ++ [])) e
    ∙ (ap (λ (t : ℕ). numbers_in t (bytes_of ys ++ [])) n ∙ (bytes_read ys [] g).0))

book_below : (lists nodes : List ℕ) → Sized lists nodes → AllBelow (2 ^ 32) (count nodes ∷ (lists ++ drop 1 nodes))
book_below lists nodes b =
    below_cons (2 ^ 32) (count nodes) (lists ++ drop 1 nodes) (b.small_nodes 0)
    (below_append (2 ^ 32) lists (drop 1 nodes) b.small_lists (below_drop (2 ^ 32) 1 nodes b.small_nodes))

pub same_book : (lists nodes ls ns : List ℕ) → Sized lists nodes → Sized ls ns → book_bytes lists nodes ≡ book_bytes ls ns → (lists ≡ ls) × (nodes ≡ ns)
same_book lists nodes ls ns a b e =
    let s : count nodes ∷ (lists ++ drop 1 nodes) ≡ count ns ∷ (ls ++ drop 1 ns) = same_numbers _ _ (book_below lists nodes a) (book_below ls ns b) e in
    let c : count nodes ≡ count ns = ap (λ (t : List ℕ). get_or t 0 0) s in
    let t : lists ++ drop 1 nodes ≡ ls ++ drop 1 ns = ap (λ (t : List ℕ). drop 1 t) s in
    let l : length lists ≡ length ls = omega (arith, a.whole, b.whole, length-drop 1 nodes, length-drop 1 ns, length-append lists (drop 1 nodes), length-append ls (drop 1 ns), ap length t) in
    let d : drop 1 nodes ≡ drop 1 ns =
    sym (drop_at lists (drop 1 nodes) (length lists) refl) ∙ (ap (λ (u : List ℕ). drop (length lists) u) t ∙ drop_at ls (drop 1 ns) (length lists) (sym l)) in
    let f : lists ≡ ls =
    sym (take_at lists (drop 1 nodes) (length lists) refl) ∙ (ap (λ (u : List ℕ). take (length lists) u) t ∙ take_at ls (drop 1 ns) (length lists) (sym l)) in
    (f, whole_store nodes (omega (arith, a.whole)) ∙ (ap (λ (k : ℕ). k ∷ drop 1 nodes) c ∙ (ap (λ (u : List ℕ). count ns ∷ u) d ∙ sym (whole_store ns (omega (arith, b.whole))))))

-- the three parts that are written
pub three_parts : (lists nodes a b d bs cs ds es : List ℕ) → length nodes ≡ 1 + 5 * count nodes → a ≡ nodes → b ≡ lists → d ≡ nodes → bs ≡ [] →
    cs ≡ bs ++ bytes_of (take 1 a) → ds ≡ cs ++ bytes_of b → es ≡ ds ++ bytes_of (take (length d - 1) (drop 1 d)) → es ≡ book_bytes lists nodes
unfolding bytes_of
three_parts lists [] a b d bs cs ds es l i j k z p q r = absurd (omega arith)
three_parts lists (n ∷ ns) a b d bs cs ds es l i j k z p q r =
    let u : cs ≡ four n = p ∙ rw (z, i) refl in
    let v : take (length (n ∷ ns) - 1) (drop 1 (n ∷ ns)) ≡ ns = take_rest (n ∷ ns) 1 in
    r ∙ rw (q, u, k, v, j) (append_assoc (four n) (bytes_of lists) (bytes_of ns) ∙ ap (λ (t : List ℕ). four n ++ t) (sym (bytes_add lists ns)))

pub was_sized : (bytes bs cs ds es lists nodes : List ℕ) (n : ℕ) → AllBelow 256 bs → bs ≡ bytes →
    (4 ≤ length bs) × (n ≡ number_at bs) × (cs ≡ drop 4 bs) → ReadOn (lists_in_file cs) cs [] ds lists → ReadOn (5 * n) ds (n ∷ []) es nodes → length es ≡ 0 →
    Sized lists nodes × (bytes ≡ book_bytes lists nodes)
was_sized bytes bs cs ds es lists nodes n h e t all rest done = (
  read_sized bs cs ds es lists nodes n h t.0 t.1 t.2 all rest done,
  sym e ∙ read_bytes bs cs ds es lists nodes n h t.0 t.1 t.2 all rest done,
)

-- what is read is a book, and the bytes are those that it is written as
pub was_read : (bytes bs cs ds es lists nodes : List ℕ) (n : ℕ) → AllBelow 256 bs → bs ≡ bytes →
    (4 ≤ length bs) × (n ≡ number_at bs) × (cs ≡ drop 4 bs) → ReadOn (lists_in_file cs) cs [] ds lists → ReadOn (5 * n) ds (n ∷ []) es nodes → length es ≡ 0 → n ≤ 131072 → check_told lists nodes ≡ None → ListsThere 64 cs →
    IsBook lists nodes × (bytes ≡ book_bytes lists nodes)
was_read bytes bs cs ds es lists nodes n h e t all rest done few told there = (
  read_book bs cs ds es lists nodes n h t.0 t.1 t.2 all rest done few told there,
  sym e ∙ read_bytes bs cs ds es lists nodes n h t.0 t.1 t.2 all rest done,
)

-- the numbers of an entry
pub record IsEntry (nodes : List ℕ) (node : ℕ) : Type 0 where
  pub few : count nodes ≤ 255
  pub whole : length nodes ≡ 1 + 5 * count nodes
  pub small_nodes : AllBelow (2 ^ 32) nodes
  pub small : node < 2 ^ 32

pub entry_small : (bs cs ds nodes : List ℕ) (n b node : ℕ) → AllBelow 256 bs → AllBelow 256 cs → AllBelow 256 ds → b ≡ get_or bs 0 0 → n ≡ b →
    ReadOn (5 * n) cs (n ∷ []) ds nodes → node ≡ number_at ds → IsEntry nodes node
entry_small bs cs ds nodes n b node h g k is e r m =
    let l : n < 256 = rw (e, is) (h 0) in
    record {
      few = rw r.0 (omega arith);
      whole = rw r.0 (omega (arith, numbers_long (5 * n) cs));
      small_nodes = rw r.0 (below_cons (2 ^ 32) n (numbers_in (5 * n) cs) (omega arith) (numbers_small (5 * n) cs g));
      small = rw m (number_small ds k);
    }
