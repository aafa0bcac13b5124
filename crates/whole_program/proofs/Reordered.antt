-- Modules that can be linked can be linked in any order.
use Rattle.std.proofs.Common.{◌≡◌, ℕ, true, false, not, List, [], ◌∷◌, map, Option, Some, None, nat_eq, refl, sym, ap, ◌∙◌}
use Rattle.std.specs.List.{list_any, IsDistinct, AllByRecursion as Each}
use Rattle.std.specs.List.Sorted.{IsPermutation}
use Rattle.std.specs.Cmp.Lexicographic.{pointwise}
use Rattle.std.proofs.lemmas.Bool.{and_from, not_from_false}
use Rattle.std.proofs.lemmas.Cmp.{nat_list_eq_equiv}
use Rattle.std.proofs.lemmas.List.Elements.{All-from_recursion, recursion_from_All}
use Rattle.std.proofs.lemmas.List.Folds.{list_any_none}
use Rattle.std.proofs.lemmas.List.Sorted.{All-permutation, IsPermutation-map, IsPermutation-sym, list_any-IsPermutation}
use Rattle.std.proofs.lemmas.Map.Keys.{IsDistinct-IsPermutation}
use Rattle.scheme_data.specs.Names.{are_distinct, is_same}
use Rattle.name_table.specs.Names.{has_name}
use Rattle.iface_text.specs.Format.{IfaceTree}
use Rattle.core_tree.specs.declared.tree.ImportItem.{ImportItem}
use Rattle.core_tree.specs.declared.tree.Use.{Use}
use Rattle.core_tree.specs.Tree.{ModuleTree}
use Rattle.core_tree.specs.WellFormed.{module_of, row_of, IsWellFormed}
use Rattle.resolver.specs.Elaboration.{interface_named, row_in}
use Rattle.whole_program.proofs.Members.{Among, each_at, each_from, each_to, found_among, behind, distinct_rest, found, same_name}
use Rattle.whole_program.proofs.Rows.{HasRow, interface_in}
use Rattle.whole_program.proofs.Programs.{AreLinkable, interface_names}

-- Items -------------------------------------------------------------------------------------

each_too : {A : Type 0} (P : A → Type 0) (xs ys : List A) → IsPermutation xs ys → Each P xs → Each P ys
each_too P xs ys p h = recursion_from_All P ys (All-permutation P xs ys p (All-from_recursion P xs h))

pub among_too : {A : Type 0} (xs ys : List A) → IsPermutation xs ys → (x : A) → Among x xs → Among x ys
among_too xs ys p x i = each_at (λ y. Among y ys) x xs (each_too (λ y. Among y ys) ys xs (IsPermutation-sym xs ys p) (each_from (λ y. Among y ys) ys (λ y j. j))) i

-- Distinct names ----------------------------------------------------------------------------

all_apart : (names : List (List ℕ)) → are_distinct names ≡ true → IsDistinct is_same names
unfolding IsDistinct
all_apart [] d = tt
all_apart (x ∷ xs) d = (each_from (λ y. is_same x y ≡ false) xs (behind x xs d), all_apart xs (distinct_rest x xs d))

distinct_of : (names : List (List ℕ)) → IsDistinct is_same names → are_distinct names ≡ true
unfolding IsDistinct
distinct_of [] h = refl
distinct_of (x ∷ xs) h =
    and_from (not (list_any (is_same x) xs)) (are_distinct xs)
    (not_from_false (list_any (is_same x) xs) (list_any_none (is_same x) xs (All-from_recursion (λ y. is_same x y ≡ false) xs h.0)))
    (distinct_of xs h.1)

distinct_too : (xs ys : List (List ℕ)) → IsPermutation xs ys → are_distinct xs ≡ true → are_distinct ys ≡ true
distinct_too xs ys p d = distinct_of ys (IsDistinct-IsPermutation is_same nat_list_eq_equiv.symm xs ys p (all_apart xs d))

-- Modules -----------------------------------------------------------------------------------

module _ (ms ns : List ModuleTree) (p : IsPermutation ms ns) (link : AreLinkable ms) where
  names_moved : IsPermutation (map (λ m. m.name) ms) (map (λ n. n.name) ns)
  names_moved = IsPermutation-map (λ (m : ModuleTree). m.name) ms ns p

  distinct : are_distinct (map (λ n. n.name) ns) ≡ true
  distinct = distinct_too (map (λ m. m.name) ms) (map (λ n. n.name) ns) names_moved link.distinct

  -- what is imported is there
  imports_too : (is : List ImportItem) → Each (λ i. has_name (map (λ m. m.name) ms) i.module_name ≡ true) is → Each (λ i. has_name (map (λ n. n.name) ns) i.module_name ≡ true) is
  imports_too =
      each_to (λ i. has_name (map (λ m. m.name) ms) i.module_name ≡ true) (λ i. has_name (map (λ n. n.name) ns) i.module_name ≡ true)
      (λ i h. sym (list_any-IsPermutation (pointwise nat_eq i.module_name) (map (λ m. m.name) ms) (map (λ n. n.name) ns) names_moved) ∙ h)

  -- an interface that is found by a name is found by it
  interface_too : (x : List ℕ) (j : IfaceTree) → interface_named (map interface_in ms) x ≡ Some j → interface_named (map interface_in ns) x ≡ Some j
  interface_too x j e =
      let there = found_among (λ (k : IfaceTree). is_same k.module_name x) (map interface_in ms) j e in
      let among = among_too (map interface_in ms) (map interface_in ns) (IsPermutation-map interface_in ms ns p) j there.0 in
      ap (interface_named (map interface_in ns)) (sym (same_name j.module_name x there.1))
      ∙ found (λ (k : IfaceTree). k.module_name) (map interface_in ns) (ap are_distinct (interface_names ns) ∙ distinct) j among

  row_too : (u : Use) → HasRow (map interface_in ms) u → HasRow (map interface_in ns) u
  row_too u h = go (interface_named (map interface_in ms) (module_of u)) refl h
    where
      go : (q : Option IfaceTree) → interface_named (map interface_in ms) (module_of u) ≡ q → row_in q (row_of u).name ≡ Some (row_of u) → HasRow (map interface_in ns) u
      go None e r = absurd (cc)
      go (Some j) e r = ap (λ q. row_in q (row_of u).name) (interface_too (module_of u) j e) ∙ r

  pub linkable_too : AreLinkable ns
  linkable_too = record {
    formed = each_too IsWellFormed ms ns p link.formed;
    distinct = distinct;
    present =
        each_too (λ (m : ModuleTree). Each (λ i. has_name (map (λ n. n.name) ns) i.module_name ≡ true) m.imports) ms ns p
        (each_to (λ (m : ModuleTree). Each (λ i. has_name (map (λ n. n.name) ms) i.module_name ≡ true) m.imports) (λ (m : ModuleTree). Each (λ i. has_name (map (λ n. n.name) ns) i.module_name ≡ true) m.imports)
        (λ m h. imports_too m.imports h) ms link.present);
    current =
        each_too (λ (m : ModuleTree). Each (HasRow (map interface_in ns)) m.uses) ms ns p
        (each_to (λ (m : ModuleTree). Each (HasRow (map interface_in ms)) m.uses) (λ (m : ModuleTree). Each (HasRow (map interface_in ns)) m.uses)
        (λ m h. each_to (HasRow (map interface_in ms)) (HasRow (map interface_in ns)) row_too m.uses h) ms link.current);
    one_main = λ m n i j. link.one_main m n (among_too ns ms (IsPermutation-sym ms ns p) m i) (among_too ns ms (IsPermutation-sym ms ns p) n j);
  }
