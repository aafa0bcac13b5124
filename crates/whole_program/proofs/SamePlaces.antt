-- The places of the same modules in two orders: what is imported there, which has the main function, and what is chosen.
use Rattle.std.proofs.Common.{◌≡◌, ℕ, ◌<◌, Bool, true, false, List, [], ◌∷◌, map, length, get_or, Option, Some, None, slice_get, nat_eq, refl, sym, ap, ap₂, ◌∙◌, subst}
use Rattle.std.specs.List.{position_or_len, AllByRecursion as Each, AllZip}
use Rattle.std.specs.List.Sorted.{IsPermutation}
use Rattle.std.specs.Option.{option_map}
use Rattle.std.proofs.lemmas.Bool.{eq-eqb, eqb-true, true≢false}
use Rattle.std.proofs.lemmas.List.Quantifiers.{position-Some}
use Rattle.std.proofs.lemmas.Option.{same_Some, slice_get-map, slice_get-get_or}
use Rattle.scheme_data.specs.Names.{are_distinct}
use Rattle.name_table.specs.Names.{has_name}
use Rattle.core_tree.specs.declared.tree.ImportItem.{ImportItem}
use Rattle.core_tree.specs.Tree.{ModuleTree}
use Rattle.std.specs.List.{cons_option}
use Rattle.std.specs.Option.{is_some}
use Rattle.meaning.specs.Order.{imported, numbers_of, root_of, chosen, IsOrder}
use Rattle.whole_program.specs.Sources.{imports_in}
use Rattle.whole_program.proofs.Members.{Among, any_of, among_at, among_map, each_at, one_named, one_place}
use Rattle.whole_program.proofs.Places.{is_found, placed, imports_at, module_at}
use Rattle.whole_program.proofs.Programs.{AreLinkable}
use Rattle.whole_program.proofs.Renumbered.{renumbered_order}
use Rattle.whole_program.proofs.Reordered.{among_too, linkable_too}

-- the same module stands there
record SamePlace (ms ns : List ModuleTree) (k j : ℕ) : Type 0 where
  module_tree : ModuleTree
  stands : slice_get ms k ≡ Some module_tree
  stands_too : slice_get ns j ≡ Some module_tree

-- Main functions ----------------------------------------------------------------------------

-- the module there has a main function
record MainAt (ms : List ModuleTree) (root : ℕ) : Type 0 where
  module_tree : ModuleTree
  stands : slice_get ms root ≡ Some module_tree
  has : is_some module_tree.main ≡ true

main_at : (ms : List ModuleTree) (root : ℕ) → root_of (map (λ m. m.main) ms) ≡ Some root → MainAt ms root
main_at ms root e = go (slice_get ms root) refl (sym (slice_get-map (λ (m : ModuleTree). m.main) ms root) ∙ slice_get-get_or (map (λ m. m.main) ms) root None at.0)
  where
    at : (root < length (map (λ m. m.main) ms)) × (is_some (get_or (map (λ m. m.main) ms) root None) ≡ true)
    at = let all = position-Some is_some (map (λ m. m.main) ms) root None e in (all.0, all.1)

    go : (q : Option ModuleTree) → slice_get ms root ≡ q → option_map (λ (m : ModuleTree). m.main) q ≡ Some (get_or (map (λ m. m.main) ms) root None) → MainAt ms root
    go None is f = absurd (cc)
    go (Some m) is f = record { module_tree = m; stands = is; has = ap is_some (same_Some m.main (get_or (map (λ n. n.main) ms) root None) f) ∙ at.1 }

-- Two orders --------------------------------------------------------------------------------

-- modules at one place of the first stand at one place of the second
one_place_too : (ms ns : List ModuleTree) → are_distinct (map (λ n. n.name) ns) ≡ true → (k j l i : ℕ) (m n : ModuleTree) → slice_get ms k ≡ Some m → slice_get ns j ≡ Some m → slice_get ms l ≡ Some n → slice_get ns i ≡ Some n → k ≡ l → j ≡ i
one_place_too ms ns d k j l i m n a b e f same =
    let module_same : n ≡ m = same_Some n m (sym e ∙ ap (slice_get ms) (sym same) ∙ a) in
    one_place (map (λ n. n.name) ns) d j i m.name
    (slice_get-map (λ (n : ModuleTree). n.name) ns j ∙ ap (option_map (λ (n : ModuleTree). n.name)) b)
    (slice_get-map (λ (n : ModuleTree). n.name) ns i ∙ ap (option_map (λ (n : ModuleTree). n.name)) (f ∙ ap Some module_same))

same_test : (k l j i : ℕ) → (k ≡ l → j ≡ i) → (j ≡ i → k ≡ l) → nat_eq k l ≡ nat_eq j i
same_test k l j i on back = go (nat_eq k l) (nat_eq j i) refl refl
  where
    go : (a b : Bool) → nat_eq k l ≡ a → nat_eq j i ≡ b → a ≡ b
    go true true e f = refl
    go true false e f = absurd (true≢false (sym (eq-eqb j i (on (eqb-true k l e))) ∙ f))
    go false true e f = absurd (true≢false (sym (eq-eqb k l (back (eqb-true j i f))) ∙ e))
    go false false e f = refl

module _ (ms ns : List ModuleTree) (p : IsPermutation ms ns) (link : AreLinkable ms) where
  link_too : AreLinkable ns
  link_too = linkable_too ms ns p link

  one_to_one : (k j l i : ℕ) → SamePlace ms ns k j → SamePlace ms ns l i → nat_eq k l ≡ nat_eq j i
  one_to_one k j l i a b =
      same_test k l j i
      (one_place_too ms ns link_too.distinct k j l i a.module_tree b.module_tree a.stands a.stands_too b.stands b.stands_too)
      (one_place_too ns ms link.distinct j k i l a.module_tree b.module_tree a.stands_too a.stands b.stands_too b.stands)

  -- what has one name is the same
  same_named : (k j : ℕ) (x : List ℕ) → slice_get (map (λ m. m.name) ms) k ≡ Some x → slice_get (map (λ n. n.name) ns) j ≡ Some x → SamePlace ms ns k j
  same_named k j x e f =
      let at = module_at ms k x e in
      let at_too = module_at ns j x f in
      let same : at_too.module_tree ≡ at.module_tree =
      one_named (λ (n : ModuleTree). n.name) ns link_too.distinct at_too.module_tree at.module_tree
      (among_at ns j at_too.module_tree at_too.stands) (among_too ms ns p at.module_tree (among_at ms k at.module_tree at.stands)) (at_too.name ∙ sym at.name) in
      record { module_tree = at.module_tree; stands = at.stands; stands_too = at_too.stands ∙ ap Some same }

  same_numbers : (is : List ImportItem) → Each (λ i. has_name (map (λ m. m.name) ms) i.module_name ≡ true) is → Each (λ i. has_name (map (λ n. n.name) ns) i.module_name ≡ true) is
      → AllZip (SamePlace ms ns) (numbers_of (map (λ m. m.name) ms) is) (numbers_of (map (λ n. n.name) ns) is)
  same_numbers [] h k = tt
  same_numbers (i ∷ is) h k =
      let a = placed (map (λ (m : ModuleTree). m.name) ms) i.module_name h.0 in
      let b = placed (map (λ (n : ModuleTree). n.name) ns) i.module_name k.0 in
      subst (λ q. AllZip (SamePlace ms ns) (cons_option q (numbers_of (map (λ m. m.name) ms) is)) (numbers_of (map (λ n. n.name) ns) (i ∷ is))) (sym a.is)
      (subst (λ q. AllZip (SamePlace ms ns) (a.place ∷ numbers_of (map (λ m. m.name) ms) is) (cons_option q (numbers_of (map (λ n. n.name) ns) is))) (sym b.is)
      (same_named a.place b.place i.module_name a.stands b.stands, same_numbers is h.1 k.1))

  same_imports : (k j : ℕ) → SamePlace ms ns k j → AllZip (SamePlace ms ns) (imported (imports_in ms) k) (imported (imports_in ns) j)
  same_imports k j s =
      subst (λ ks. AllZip (SamePlace ms ns) ks (imported (imports_in ns) j)) (sym (imports_at (map (λ m. m.name) ms) ms k s.module_tree s.stands))
      (subst (AllZip (SamePlace ms ns) (numbers_of (map (λ m. m.name) ms) s.module_tree.imports)) (sym (imports_at (map (λ n. n.name) ns) ns j s.module_tree s.stands_too))
      (same_numbers s.module_tree.imports
      (each_at (λ (m : ModuleTree). Each (λ i. has_name (map (λ n. n.name) ms) i.module_name ≡ true) m.imports) s.module_tree ms link.present (among_at ms k s.module_tree s.stands))
      (each_at (λ (m : ModuleTree). Each (λ i. has_name (map (λ n. n.name) ns) i.module_name ≡ true) m.imports) s.module_tree ns link_too.present (among_at ns j s.module_tree s.stands_too))))

  -- the same module has the main function
  record SameRoot (root : ℕ) : Type 0 where
    pub root_too : ℕ
    pub is_root : root_of (map (λ n. n.main) ns) ≡ Some root_too
    pub same : SamePlace ms ns root root_too

  same_root : (root : ℕ) → root_of (map (λ m. m.main) ms) ≡ Some root → SameRoot root
  same_root root e = record { root_too = root_too; is_root = is_root; same = record { module_tree = at.module_tree; stands = at.stands; stands_too = at_too.stands ∙ ap Some same } }
    where
      at : MainAt ms root
      at = main_at ms root e

      among : Among at.module_tree ns
      among = among_too ms ns p at.module_tree (among_at ms root at.module_tree at.stands)

      root_too : ℕ
      root_too = position_or_len is_some (map (λ n. n.main) ns)

      is_root : root_of (map (λ n. n.main) ns) ≡ Some root_too
      is_root = is_found is_some (map (λ n. n.main) ns) (any_of is_some (map (λ n. n.main) ns) at.module_tree.main (among_map (λ (n : ModuleTree). n.main) ns at.module_tree among) at.has)

      at_too : MainAt ns root_too
      at_too = main_at ns root_too is_root

      same : at_too.module_tree ≡ at.module_tree
      same = link_too.one_main at_too.module_tree at.module_tree (among_at ns root_too at_too.module_tree at_too.stands) among at_too.has at.has

  same_chosen : (ks js : List ℕ) → AllZip (SamePlace ms ns) ks js → chosen ms ks ≡ chosen ns js
  same_chosen [] [] z = refl
  same_chosen [] (j ∷ js) z = absurd z
  same_chosen (k ∷ ks) [] z = absurd z
  same_chosen (k ∷ ks) (j ∷ js) z = ap₂ (λ (q : Option ModuleTree) (os : List ModuleTree). cons_option q os) (z.0.stands ∙ sym z.0.stands_too) (same_chosen ks js z.1)

-- the modules that are reached from the one with a main function, in another order of all modules
pub record SameProgram (ns program : List ModuleTree) : Type 0 where
  pub root : ℕ
  pub is_root : root_of (map (λ n. n.main) ns) ≡ Some root
  pub order : List ℕ
  pub is_order : IsOrder (imports_in ns) root order
  pub is : program ≡ chosen ns order

pub same_program : (ms ns : List ModuleTree) → IsPermutation ms ns → AreLinkable ms → (root : ℕ) → root_of (map (λ m. m.main) ms) ≡ Some root → (order : List ℕ) → IsOrder (imports_in ms) root order → SameProgram ns (chosen ms order)
same_program ms ns p link root is_root order is_order =
    let to = same_root ms ns p link root is_root in
    let walk =
    renumbered_order (imports_in ms) (imports_in ns) (SamePlace ms ns) (one_to_one ms ns p link) (same_imports ms ns p link) root to.root_too to.same order is_order in
    record { root = to.root_too; is_root = to.is_root; order = walk.order_too; is_order = walk.is_order; is = same_chosen ms ns p link order walk.order_too walk.are }
