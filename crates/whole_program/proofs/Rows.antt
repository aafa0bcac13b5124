-- A module is the same with other interfaces that have the rows of its uses.
use Rattle.std.proofs.Common.{◌≡◌, ℕ, true, List, [], ◌∷◌, ◌++◌, map, find, Option, Some, None, refl, sym, ap, ap₂, ◌∙◌, subst}
use Rattle.std.specs.List.{AllByRecursion as Each}
use Rattle.std.proofs.lemmas.Bool.{and_parts}
use Rattle.std.proofs.lemmas.Option.{same_Some}
use Rattle.scheme_data.specs.Names.{is_same}
use Rattle.scheme_data.specs.Data.{Plains}
use Rattle.name_table.specs.Names.{has_name}
use Rattle.iface_text.specs.declared.interface.Row.{Row}
use Rattle.iface_text.specs.Format.{IfaceTree}
use Rattle.resolver.specs.BuiltHeads.{ImportTree, is_word}
use Rattle.core_tree.specs.declared.tree.Use.{Use}
use Rattle.core_tree.specs.declared.tree.Use.TheVariants.{From, Need}
use Rattle.core_tree.specs.Tree.{ModuleTree}
use Rattle.core_tree.specs.WellFormed.{module_of, row_of, same_use}
use Rattle.resolver.specs.Drafts.{Draft, draft, exported_rows, interface_of, exported}
use Rattle.resolver.specs.Firsts.{firsts}
use Rattle.resolver.specs.Elaboration.{interface_named, row_in, row_for, onto, both, from, need, from_item, offered, calls, item_needs, needs, each_use_once, uses, import_item, module_with, completed, elaborated}
use Rattle.resolver.proofs.Firsts.{each_by_firsts}
use Rattle.whole_program.proofs.Members.{found_among, same_name}

-- the row of the used name is the one with which it is used
abbrev pub HasRow : List IfaceTree → Use → Type 0
HasRow ifaces u = row_for ifaces (module_of u) (row_of u).name ≡ Some (row_of u)

row_named : (q : Option IfaceTree) (name : List ℕ) (r : Row) → row_in q name ≡ Some r → r.name ≡ name
row_named None name r e = absurd (cc)
row_named (Some i) name r e = same_name r.name name (found_among (λ s. is_word s.name name) i.rows r e).1

-- a row that is found has the name by which it was looked for
pub named : (ifaces : List IfaceTree) (m name : List ℕ) (r : Row) → row_for ifaces m name ≡ Some r → r.name ≡ name
named ifaces m name r e = row_named (interface_named ifaces m) name r e

-- Uses once ---------------------------------------------------------------------------------

each_front : {A : Type 0} (P : A → Type 0) (xs ys : List A) → Each P (xs ++ ys) → Each P xs
each_front P [] ys h = tt
each_front P (x ∷ xs) ys h = (h.0, each_front P xs ys h.1)

each_back : {A : Type 0} (P : A → Type 0) (xs ys : List A) → Each P (xs ++ ys) → Each P ys
each_back P [] ys h = h
each_back P (x ∷ xs) ys h = each_back P xs ys h.1

each_both : {A : Type 0} (P : A → Type 0) (xs ys : List A) → Each P xs → Each P ys → Each P (xs ++ ys)
each_both P [] ys h i = i
each_both P (x ∷ xs) ys h i = (h.0, each_both P xs ys h.1 i)

-- Modules with uses -------------------------------------------------------------------------

abbrev made : Draft → List Use → ModuleTree
made d us = record { name = d.head.name; imports = map import_item d.head.imports; functions = d.functions; forms = d.forms; uses = us; exports = exported_rows d.head; main = d.head.main }

uses_are : (d : Draft) (us : Option (List Use)) (m : ModuleTree) → module_with d us ≡ Some m → us ≡ Some m.uses
uses_are d None m e = absurd (cc)
uses_are d (Some us) m e = ap (λ (n : ModuleTree). Some n.uses) (same_Some (made d us) m e)

module _ (given own : List IfaceTree) where
  -- uses of one name of one module have one row
  same_row : (u v : Use) → HasRow given u → HasRow given v → same_use u v ≡ true → HasRow own v → HasRow own u
  same_row u v h i e k =
      let parts = and_parts (is_same (module_of u) (module_of v)) (is_same (row_of u).name (row_of v).name) e in
      let m : module_of u ≡ module_of v = same_name (module_of u) (module_of v) parts.0 in
      let n : (row_of u).name ≡ (row_of v).name = same_name (row_of u).name (row_of v).name parts.1 in
      let rows : Some (row_of u) ≡ Some (row_of v) = sym h ∙ ap₂ (row_for given) m n ∙ i in
      ap₂ (row_for own) m n ∙ k ∙ sym rows

  -- what holds of each use once holds of all uses
  all_have : (us : List Use) → Each (HasRow given) us → Each (HasRow own) (firsts same_use us) → Each (HasRow own) us
  all_have us h k = each_by_firsts same_use (HasRow given) (HasRow own) same_row us h k

  -- Look-ups --------------------------------------------------------------------------------

  -- a use that is found has its row, and is found where its row is
  abbrev Move : Option Use → Option Use → Type 0
  Move a b = (u : Use) → a ≡ Some u → HasRow given u × (HasRow own u → b ≡ Some u)

  abbrev Moves : Option (List Use) → Option (List Use) → Type 0
  Moves a b = (us : List Use) → a ≡ Some us → Each (HasRow given) us × (Each (HasRow own) us → b ≡ Some us)

  moves_none : Moves (Some []) (Some [])
  moves_none us e = let same : us ≡ [] = cc in (subst (Each (HasRow given)) (sym same) tt, λ k. e)

  moves_onto : (a b : Option Use) (c d : Option (List Use)) → Move a b → Moves c d → Moves (onto a c) (onto b d)
  moves_onto None b c d h k us e = absurd (cc)
  moves_onto (Some u) b None d h k us e = absurd (cc)
  moves_onto (Some u) b (Some vs) d h k us e =
      let same : us ≡ u ∷ vs = cc in
      let first = h u refl in
      let rest = k vs refl in (
        subst (Each (HasRow given)) (sym same) (first.0, rest.0),
        λ l. let each = subst (Each (HasRow own)) same l in ap₂ onto (first.1 each.0) (rest.1 each.1) ∙ e,
      )

  moves_both : (a b c d : Option (List Use)) → Moves a b → Moves c d → Moves (both a c) (both b d)
  moves_both None b c d h k us e = absurd (cc)
  moves_both (Some vs) b None d h k us e = absurd (cc)
  moves_both (Some vs) b (Some ws) d h k us e =
      let same : us ≡ vs ++ ws = cc in
      let first = h vs refl in
      let rest = k ws refl in (
        subst (Each (HasRow given)) (sym same) (each_both (HasRow given) vs ws first.0 rest.0),
        λ l.
            let each = subst (Each (HasRow own)) same l in
            ap₂ both (first.1 (each_front (HasRow own) vs ws each)) (rest.1 (each_back (HasRow own) vs ws each)) ∙ e,
      )

  -- a use with the row that was looked up
  move_of : (m name : List ℕ) (u : Use) (r : Row) → module_of u ≡ m → row_of u ≡ r → row_for given m name ≡ Some r → HasRow given u × (HasRow own u → row_for own m name ≡ Some r)
  move_of m name u r same_module same is =
      let n : (row_of u).name ≡ name = ap (λ (s : Row). s.name) same ∙ named given m name r is in (
        ap₂ (row_for given) same_module n ∙ is ∙ ap Some (sym same),
        λ k. sym (ap₂ (row_for own) same_module n) ∙ k ∙ ap Some same,
      )

  move_from : (m name : List ℕ) (q : Option Row) → row_for given m name ≡ q → Move (from m q) (from m (row_for own m name))
  move_from m name None is u e = absurd (cc)
  move_from m name (Some r) is u e =
      let same : u ≡ From m r = cc in
      let moved = move_of m name u r (ap module_of same) (ap row_of same) is in
      (moved.0, λ k. ap (from m) (moved.1 k) ∙ e)

  move_need : (m name : List ℕ) (q : Option Row) → row_for given m name ≡ q → Move (need m q) (need m (row_for own m name))
  move_need m name None is u e = absurd (cc)
  move_need m name (Some r) is u e =
      let same : u ≡ Need m r = cc in
      let moved = move_of m name u r (ap module_of same) (ap row_of same) is in
      (moved.0, λ k. ap (need m) (moved.1 k) ∙ e)

  move_item : (name : List ℕ) (q : Option ImportTree) → Move (from_item given name q) (from_item own name q)
  move_item name None u e = absurd (cc)
  move_item name (Some i) u e = move_from i.module_name name (row_for given i.module_name name) refl u e

  moves_calls : (is : List ImportTree) (xs : List (List ℕ)) → Moves (calls given is xs) (calls own is xs)
  moves_calls is [] = moves_none
  moves_calls is (x ∷ xs) = moves_onto (offered given is x) (offered own is x) (calls given is xs) (calls own is xs) (move_item x (find (λ i. has_name i.names x) is)) (moves_calls is xs)

  moves_item_needs : (m : List ℕ) (xs : List (List ℕ)) → Moves (item_needs given m xs) (item_needs own m xs)
  moves_item_needs m [] = moves_none
  moves_item_needs m (x ∷ xs) = moves_onto (need m (row_for given m x)) (need m (row_for own m x)) (item_needs given m xs) (item_needs own m xs) (move_need m x (row_for given m x) refl) (moves_item_needs m xs)

  moves_needs : (is : List ImportTree) → Moves (needs given is) (needs own is)
  moves_needs [] = moves_none
  moves_needs (i ∷ is) = moves_both (item_needs given i.module_name i.names) (item_needs own i.module_name i.names) (needs given is) (needs own is) (moves_item_needs i.module_name i.names) (moves_needs is)

  -- Modules ---------------------------------------------------------------------------------

  once_own : (a b : Option (List Use)) → Moves a b → (us : List Use) → each_use_once a ≡ Some us → Each (HasRow own) us → each_use_once b ≡ Some us
  once_own None b h us e k = absurd (cc)
  once_own (Some vs) b h us e k =
      let same : us ≡ firsts same_use vs = cc in
      let moved = h vs refl in
      ap each_use_once (moved.1 (all_have vs moved.0 (subst (Each (HasRow own)) same k))) ∙ e

  uses_own : (d : Draft) (us : List Use) → uses given d ≡ Some us → Each (HasRow own) us → uses own d ≡ Some us
  uses_own d us e k =
      once_own (both (calls given d.head.imports d.outside) (needs given d.head.imports)) (both (calls own d.head.imports d.outside) (needs own d.head.imports))
      (moves_both (calls given d.head.imports d.outside) (calls own d.head.imports d.outside) (needs given d.head.imports) (needs own d.head.imports) (moves_calls d.head.imports d.outside) (moves_needs d.head.imports))
      us e k

  completed_own : (q : Option Draft) (m : ModuleTree) → completed given q ≡ Some m → Each (HasRow own) m.uses → completed own q ≡ Some m
  completed_own None m e k = absurd (cc)
  completed_own (Some d) m e k =
      let before : uses given d ≡ Some m.uses = uses_are d (uses given d) m e in
      ap (module_with d) (uses_own d m.uses before k ∙ sym before) ∙ e

  -- with rows for its uses, a module is the same
  pub elaborated_own : (forms : Plains) (m : ModuleTree) → elaborated given forms ≡ Some m → Each (HasRow own) m.uses → elaborated own forms ≡ Some m
  elaborated_own forms m e k = completed_own (draft forms) m e k

-- Interfaces --------------------------------------------------------------------------------

-- what the module exports
abbrev pub interface_in : ModuleTree → IfaceTree
interface_in m = record { module_name = m.name; rows = m.exports }

exported_by : (d : Draft) (us : Option (List Use)) (m : ModuleTree) → module_with d us ≡ Some m → interface_of (Some d) ≡ Some (interface_in m)
exported_by d None m e = absurd (cc)
exported_by d (Some us) m e = ap (λ (n : ModuleTree). Some (interface_in n)) (same_Some (made d us) m e)

completed_exports : (ifaces : List IfaceTree) (q : Option Draft) (m : ModuleTree) → completed ifaces q ≡ Some m → interface_of q ≡ Some (interface_in m)
completed_exports ifaces None m e = absurd (cc)
completed_exports ifaces (Some d) m e = exported_by d (uses ifaces d) m e

-- the interface of a module's source is that of the module
pub exports : (ifaces : List IfaceTree) (forms : Plains) (m : ModuleTree) → elaborated ifaces forms ≡ Some m → exported forms ≡ Some (interface_in m)
exports ifaces forms m e = completed_exports ifaces (draft forms) m e
