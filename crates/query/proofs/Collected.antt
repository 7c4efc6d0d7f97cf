-- What `try_collect` gives of a chain whose last link makes rows, each of which may fail.
use Rattle.std.proofs.Common.{◌≡◌, List, [], ◌∷◌, ◌++◌, map, vec_items, vec_len, vec_capacity, Vec, Option, Result, Ok, Err, IfOk, None, ℕ, ◌+◌, ◌≤◌, length, sym, refl, ap, ap₂, ◌∙◌, subst, append_assoc, append-nil}
use denote.Param.Members.{Mut, Called}
use Rattle.std.proofs.lemmas.Iterator.{YieldsList, maps}
use Rattle.std.specs.Iterator.{AlwaysYields, Drains, TryCollects}
use Rattle.std.specs.Iterator.Adapters.{map_source, map_callee}
use Rattle.std.specs.List.{FoldsTo}
use Rattle.std.specs.declared.iter.Map.{Map}
use Rattle.list.specs.Lists.{Row}
use Rattle.list.specs.Shapes.{rows_of}

-- the clauses of a Vec
abbrev pub Made : {Y Z : Type 0} → List Y → Vec Y Z → Type 0
Made xs v = (vec_items v ≡ xs) × (vec_len v ≡ length xs)

abbrev pub Extended : {Y Z : Type 0} → Vec Y Z → List Y → Vec Y Z → Type 0
Extended v xs w = (vec_items w ≡ vec_items v ++ xs) × (vec_len w ≡ vec_len v + length xs) × (vec_capacity v ≤ vec_capacity w)

-- values added one by one
added : {Y Z E : Type 0} (xs : List (Result Y E)) (b v : Vec Y Z) → FoldsTo (λ p x q. (y : Y) × (Ok y ≡ x) × Extended p (y ∷ []) q) b xs v →
    (ys : List Y) × (xs ≡ map Ok ys) × (vec_items v ≡ vec_items b ++ ys)
added [] b v h = ([], refl, ap vec_items (sym h) ∙ sym (append-nil _))
added (x ∷ xs) b v h =
    let rest = added xs h.0 v h.2 in
    (h.1.0 ∷ rest.0, ap₂ ◌∷◌ (sym h.1.1) rest.1, rest.2 ∙ (ap (λ l. l ++ rest.0) h.1.2.0 ∙ append_assoc (vec_items b) (h.1.0 ∷ []) rest.0))

module _ {S A B F Y E C : Type 0} (steps : S → Option A → S → Type 0) (v : A → B) (g : Mut F (A × Unit {0}) (Result Y E)) (w : Y → C) (h : B → C) (f : F)
    (each : (x : A) (r : Result Y E) (q : F) → Called g f (x, tt) r q → (q ≡ f) × IfOk r (λ y. w y ≡ h (v x))) where
  drained : (ys : List Y) (bs : List B) (s : Map S F) → AlwaysYields steps v (map_source s) bs → map_callee s ≡ f → Drains (maps steps g) s (map Ok ys) → map w ys ≡ map h bs
  drained [] [] s a e d = refl
  drained [] (b ∷ bs) s a e d = absurd (a.0 (map_source d.0) (subst (λ (t : Map S F). steps (map_source t) None (map_source d.0)) (sym d.1.1) d.1.2.0))
  drained (y ∷ ys) [] s a e d = let m = d.1.1 in absurd (a m.1.0 (map_source m.0) m.1.1)
  drained (y ∷ ys) (b ∷ bs) s a e d =
      let m = d.1.1 in let c = m.1 in
      let n = a.1 c.0 (map_source m.0) c.1 in
      let k = each c.0 (Ok y) (map_callee m.0) (subst (λ t. Called g t (c.0, tt) (Ok y) (map_callee m.0)) e c.2) in
      ap₂ ◌∷◌ (k.1 ∙ ap h n.0) (drained ys bs m.0 n.1 k.0 (d.0, (d.1.0, m.2, d.1.2)))

-- the rows made of a list, each by h of its item
module _ {S A B F E Z : Type 0} {steps : S → Option A → S → Type 0} {v : A → B} {bs : List B} {s : Map S F} where
  pub rows_from_try_collect : (g : Mut F (A × Unit {0}) (Result (Vec ℕ Z) E)) (h : B → Row) {f : F} (r : Result (Vec (Vec ℕ Z) Z) E) →
      IfOk r (TryCollects (maps steps g) (λ x y. y ≡ x) Made Extended s) → YieldsList steps v (map_source s) bs → map_callee s ≡ f →
      ((x : A) (y : Result (Vec ℕ Z) E) (q : F) → Called g f (x, tt) y q → (q ≡ f) × IfOk y (λ w. vec_items w ≡ h (v x))) → IfOk r (λ w. rows_of w ≡ map h bs)
  rows_from_try_collect g h {f} (Ok w) ran road e each =
      let a = added ran.0 ran.1 w ran.4 in
      ap (map vec_items) (a.2 ∙ ap (λ xs. xs ++ a.0) ran.3.0) ∙ drained steps v g vec_items h f each a.0 bs s road.runs e (subst (Drains (maps steps g) s) a.1 ran.2)
  rows_from_try_collect g h (Err x) ran road e each = tt
