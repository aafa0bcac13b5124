-- Visits of the same modules under other numbers add the same modules in the same order.
use Rattle.std.proofs.Common.{◌≡◌, ℕ, ◌||◌, List, [], ◌∷◌, ◌++◌, nat_eq, refl, sym, ap₂, ◌∙◌}
use Rattle.std.specs.List.{AllZip}
use Rattle.meaning.specs.Order.{Imports, imported, is_marked, Visits, no_more, skipped, visited, IsOrder}

zip_append : {A B : Type 0} (R : A → B → Type 0) (xs : List A) (ys : List B) (us : List A) (vs : List B) → AllZip R xs ys → AllZip R us vs → AllZip R (xs ++ us) (ys ++ vs)
zip_append R [] [] us vs h k = k
zip_append R [] (y ∷ ys) us vs h k = absurd h
zip_append R (x ∷ xs) [] us vs h k = absurd h
zip_append R (x ∷ xs) (y ∷ ys) us vs h k = (h.0, zip_append R xs ys us vs h.1 k)

-- visits that mark and add the same under other numbers
pub record RenumberedVisits (R : ℕ → ℕ → Type 0) (g : Imports) (later added marked ns : List ℕ) : Type 0 where
  pub later_too : List ℕ
  pub added_too : List ℕ
  pub visits : Visits g marked ns later_too added_too
  pub marks_are : AllZip R later later_too
  pub added_are : AllZip R added added_too

pub record RenumberedOrder (R : ℕ → ℕ → Type 0) (g : Imports) (root : ℕ) (order : List ℕ) : Type 0 where
  pub order_too : List ℕ
  pub is_order : IsOrder g root order_too
  pub are : AllZip R order order_too

-- numbers that are related are one to one, and so are what they import
module _ (g h : Imports) (R : ℕ → ℕ → Type 0) (one_to_one : (k j l i : ℕ) → R k j → R l i → nat_eq k l ≡ nat_eq j i) (imports : (k j : ℕ) → R k j → AllZip R (imported g k) (imported h j)) where
  same_mark : (ks js : List ℕ) → AllZip R ks js → (k j : ℕ) → R k j → is_marked ks k ≡ is_marked js j
  same_mark [] [] z k j r = refl
  same_mark [] (i ∷ is) z k j r = absurd z
  same_mark (l ∷ ls) [] z k j r = absurd z
  same_mark (l ∷ ls) (i ∷ is) z k j r = ap₂ (λ a b. a || b) (one_to_one k j l i r z.0) (same_mark ls is z.1 k j r)

  renumbered_visits : {marked ns later added : List ℕ} → Visits g marked ns later added → (ms is : List ℕ) → AllZip R marked ms → AllZip R ns is → RenumberedVisits R h later added ms is
  renumbered_visits (no_more marked) ms [] y z = record { later_too = ms; added_too = []; visits = no_more ms; marks_are = y; added_are = tt }
  renumbered_visits (no_more marked) ms (i ∷ is) y z = absurd z
  renumbered_visits (skipped marked n ns later added e v) ms [] y z = absurd z
  renumbered_visits (skipped marked n ns later added e v) ms (i ∷ is) y z =
      let rest = renumbered_visits v ms is y z.1 in
      record {
        later_too = rest.later_too;
        added_too = rest.added_too;
        visits = skipped ms i is rest.later_too rest.added_too (sym (same_mark marked ms y n i z.0) ∙ e) rest.visits;
        marks_are = rest.marks_are;
        added_are = rest.added_are;
      }
  renumbered_visits (visited marked n ns between later before after e v w) ms [] y z = absurd z
  renumbered_visits (visited marked n ns between later before after e v w) ms (i ∷ is) y z =
      let first = renumbered_visits v (i ∷ ms) (imported h i) (z.0, y) (imports n i z.0) in
      let rest = renumbered_visits w first.later_too is first.marks_are z.1 in
      record {
        later_too = rest.later_too;
        added_too = first.added_too ++ i ∷ rest.added_too;
        visits = visited ms i is first.later_too rest.later_too first.added_too rest.added_too (sym (same_mark marked ms y n i z.0) ∙ e) first.visits rest.visits;
        marks_are = rest.marks_are;
        added_are = zip_append R before first.added_too (n ∷ after) (i ∷ rest.added_too) first.added_are (z.0, rest.added_are);
      }

  pub renumbered_order : (root root_too : ℕ) → R root root_too → (order : List ℕ) → IsOrder g root order → RenumberedOrder R h root_too order
  renumbered_order root root_too r order is =
      let all = renumbered_visits is.visits [] (root_too ∷ []) tt (r, tt) in
      record { order_too = all.added_too; is_order = record { marked = all.later_too; visits = all.visits }; are = all.added_are }
