-- Of the bytes of a book only want of memory is told.
use Rattle.std.proofs.Common.{◌≡◌, ℕ, ◌*◌, ◌≤◌, ◌^◌, inl, inr, List, [], ◌∷◌, ◌++◌, length, get_or, drop, None, Some, sym, ap, ◌∙◌, append_assoc, arith, length-drop, length-append}
use Rattle.std.proofs.lemmas.List.{drop_at}
use Rattle.std.proofs.lemmas.Option.{none-some}
use Rattle.condition.specs.Refusals.{told}
use Rattle.condition.specs.Store.{count}
use Rattle.condition.specs.declared.Refusal.{Refusal}
use Rattle.condition.specs.declared.Refusal.TheVariants.{NoMemory}
use Rattle.condition.proofs.Refusing.{first_none}
use Rattle.list.specs.Layout.{lists_told, check_told}
use Rattle.list.proofs.Fitting.{fitted}
use Rattle.file_bytes.specs.Numbers.{number_at, ReadOn, NodesTold, AllBelow, four, bytes_of}
use Rattle.file_bytes.specs.Listing.{lists_long, AllThere, lists_in_file, ListsThere, ListsTold}
use Rattle.file_bytes.proofs.Inverse.{four_read, bytes_add, bytes_long}
use Rattle.file_bytes.proofs.There.{all_more, told_there}
use Rattle.book_file.specs.Books.{IsBook, book_bytes}
use Rattle.book_file.proofs.Bytes.{Sized, sized, same_book, behind_two}

-- the first of some numbers
first_number : (xs ds : List ℕ) → 1 ≤ length xs → AllBelow (2 ^ 32) xs → number_at (bytes_of xs ++ ds) ≡ get_or xs 0 0
unfolding bytes_of
first_number [] ds l h = absurd (omega arith)
first_number (x ∷ xs) ds l h = ap number_at (append_assoc (four x) (bytes_of xs) ds) ∙ four_read x (bytes_of xs ++ ds) (h 0)

module _ (ls ns bytes : List ℕ) (b : IsBook ls ns) (q : bytes ≡ book_bytes ls ns) where
  behind : List ℕ
  behind = bytes_of (drop 1 ns)

  pub long : 4 ≤ length bytes
  long = omega (arith, ap length q, bytes_long (count ns ∷ (ls ++ drop 1 ns)))

  first_is : number_at bytes ≡ count ns
  unfolding bytes_of
  first_is = ap number_at q ∙ four_read (count ns) (bytes_of (ls ++ drop 1 ns)) (b.small_nodes 0)

  rest_is : drop 4 bytes ≡ bytes_of ls ++ bytes_of (drop 1 ns)
  unfolding bytes_of
  rest_is = ap (drop 4) q ∙ bytes_add ls (drop 1 ns)

  module _ (cs : List ℕ) (after : cs ≡ drop 4 bytes) where
    parts : cs ≡ bytes_of ls ++ bytes_of (drop 1 ns)
    parts = after ∙ rest_is

    some : 2 ≤ length ls
    some = omega (arith, b.exact)

    front : number_at cs ≡ get_or ls 0 0
    front = ap number_at parts ∙ first_number ls (bytes_of (drop 1 ns)) (omega (arith, some)) b.small_lists

    two : drop 8 cs ≡ bytes_of (drop 2 ls) ++ bytes_of (drop 1 ns)
    two = ap (drop 8) parts ∙ behind_two ls (bytes_of (drop 1 ns)) some

    more : AllThere 64 (get_or ls 0 0) (bytes_of (drop 2 ls) ++ bytes_of (drop 1 ns)) × (lists_long (get_or ls 0 0) (bytes_of (drop 2 ls) ++ bytes_of (drop 1 ns)) ≡ lists_long (get_or ls 0 0) (bytes_of (drop 2 ls)))
        × (4 * lists_long (get_or ls 0 0) (bytes_of (drop 2 ls)) ≤ length (bytes_of (drop 2 ls)))
    more = all_more 64 (get_or ls 0 0) (bytes_of (drop 2 ls)) (bytes_of (drop 1 ns)) b.there

    pub lists_there : (1 ≤ get_or ls 0 0) × (get_or ls 0 0 ≤ 8) → ListsThere 64 cs
    lists_there f =
        (omega (arith, ap length parts, length-append (bytes_of ls) (bytes_of (drop 1 ns)), bytes_long ls, some), rw front f.0, rw front f.1, rw (front, two) more.0)

    in_file : lists_in_file cs ≡ length ls
    in_file = rw (front, two, more.1) (sym b.exact)

    few : (1 ≤ get_or ls 0 0) × (get_or ls 0 0 ≤ 8)
    few = let f = fitted ls (first_none (lists_told ls) _ b.told).0 in (f.some, f.few)

    pub refused_lists : (e : Refusal) → ListsTold 64 cs e → e ≡ NoMemory
    refused_lists e h = told_there 64 cs e (lists_there few) h

    module _ (ds xs : List ℕ) (n : ℕ) (r : ReadOn (lists_in_file cs) cs [] ds xs) (is : n ≡ number_at bytes) where
      nodes_is : ds ≡ bytes_of (drop 1 ns)
      nodes_is =
          r.1 ∙ (ap (λ (k : ℕ). drop (4 * k) cs) in_file ∙ (ap (drop (4 * length ls)) parts
          ∙ drop_at (bytes_of ls) (bytes_of (drop 1 ns)) (4 * length ls) (bytes_long ls)))

      nodes_long : length ds ≡ 4 * (5 * n)
      nodes_long = omega (arith, ap length nodes_is, bytes_long (drop 1 ns), length-drop 1 ns, b.whole, is, first_is)

      pub refused_nodes : (e : Refusal) → NodesTold n ds e → e ≡ NoMemory
      refused_nodes e (inl m) = m
      refused_nodes e (inr (_, inl m)) = absurd (omega (arith, is, first_is, b.few, m))
      refused_nodes e (inr (_, inr m)) = absurd (omega (arith, nodes_long, m))

      pub nothing_left : (es ys : List ℕ) → ReadOn (5 * n) ds (n ∷ []) es ys → length es ≡ 0
      nothing_left es ys s = omega (arith, ap length s.1, length-drop (4 * (5 * n)) ds, nodes_long)

  -- and the lists and nodes that are read are checked as they were
  pub checked : (xs ys : List ℕ) (e : Refusal) → Sized xs ys × (bytes ≡ book_bytes xs ys) → Some (told e) ≡ check_told xs ys → e ≡ NoMemory
  checked xs ys e s h =
      let z = same_book xs ys ls ns s.0 (sized ls ns b) (sym s.1 ∙ q) in
      let k : Some (told e) ≡ None = h ∙ rw (z.0, z.1) b.told in
      absurd (none-some (told e) (sym k))
