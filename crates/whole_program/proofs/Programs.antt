-- The modules of an order are a program.
use Rattle.std.proofs.Common.{◌≡◌, ℕ, true, ◌&&◌, List, [], ◌∷◌, map, length, Option, Some, None, nat_eq, inl, inr, refl, sym, ap, ◌∙◌, subst, arith}
use Rattle.std.specs.List.{list_all, AllByRecursion as Each}
use Rattle.std.proofs.lemmas.Bool.{and_parts, eqb-true}
use Rattle.std.proofs.lemmas.Option.{same_Some}
use Rattle.scheme_data.specs.Names.{are_distinct, is_same}
use Rattle.name_table.specs.Names.{has_name}
use Rattle.iface_text.specs.declared.interface.Row.{Row}
use Rattle.iface_text.specs.Format.{IfaceTree}
use Rattle.core_tree.specs.declared.tree.ImportItem.{ImportItem}
use Rattle.core_tree.specs.declared.tree.VarId.{VarId}
use Rattle.core_tree.specs.declared.tree.Use.{Use}
use Rattle.core_tree.specs.declared.tree.Use.TheVariants.{From, Need}
use Rattle.core_tree.specs.Tree.{FunctionTree, ModuleTree, Callee, function_named, params_in, row_callee, used_callees}
use Rattle.core_tree.specs.WellFormed.{takes as takes_name, IsUse, AreUses, IsMain, IsWellFormed, is_exported, takes_as_many}
use Rattle.std.specs.Option.{is_some}
use Rattle.meaning.specs.Order.{imports_of, is_marked, IsOrder, chosen}
use Rattle.meaning.specs.Procedures.{module_named, found_in, procedure_in, procedure_of, takes, is_there}
use Rattle.meaning.specs.Program.{main_in, main_of, AreWellFormed, are_linked, IsProgram}
use Rattle.resolver.specs.Elaboration.{interface_named, row_in, row_for}
use Rattle.whole_program.proofs.Members.{Among, each_at, each_of, each_from, all_of, among_at, passing, found_among, found, same_name}
use Rattle.whole_program.proofs.Visits.{IsWhole, whole}
use Rattle.whole_program.proofs.Chosen.{Standing, standing, is_chosen, distinct_chosen}
use Rattle.whole_program.proofs.Places.{Placed, placed, numbered, imports_at, module_at}
use Rattle.whole_program.proofs.Rows.{HasRow, interface_in}

-- modules that can be linked: each has a name of its own, what they import is there, what they use has the row with which it is used, and no two have a main function
pub record AreLinkable (ms : List ModuleTree) : Type 0 where
  pub formed : Each IsWellFormed ms
  pub distinct : are_distinct (map (λ m. m.name) ms) ≡ true
  pub present : Each (λ m. Each (λ i. has_name (map (λ n. n.name) ms) i.module_name ≡ true) m.imports) ms
  pub current : Each (λ m. Each (HasRow (map interface_in ms)) m.uses) ms
  pub one_main : (m n : ModuleTree) → Among m ms → Among n ms → is_some m.main ≡ true → is_some n.main ≡ true → m ≡ n

formed_each : (ms : List ModuleTree) → Each IsWellFormed ms → AreWellFormed ms
formed_each [] h = tt
formed_each (m ∷ ms) h = (h.0, formed_each ms h.1)

-- Rows --------------------------------------------------------------------------------------

pub interface_names : (ms : List ModuleTree) → map (λ i. i.module_name) (map interface_in ms) ≡ map (λ m. m.name) ms
interface_names [] = refl
interface_names (m ∷ ms) = ap (λ ns. m.name ∷ ns) (interface_names ms)

among_interfaces : (ms : List ModuleTree) (m : ModuleTree) → Among m ms → Among (interface_in m) (map interface_in ms)
among_interfaces [] m i = absurd i
among_interfaces (n ∷ ns) m (inl e) = inl (ap interface_in e)
among_interfaces (n ∷ ns) m (inr i) = inr (among_interfaces ns m i)

-- a row that is found is exported by the module of that name
exported_row : (ms : List ModuleTree) → are_distinct (map (λ m. m.name) ms) ≡ true → (m : ModuleTree) → Among m ms → (x : List ℕ) → m.name ≡ x → (name : List ℕ) (r : Row) → row_for (map interface_in ms) x name ≡ Some r → Among r m.exports
exported_row ms d m i x same name r e =
    let interface : interface_named (map interface_in ms) m.name ≡ Some (interface_in m) =
    found (λ (j : IfaceTree). j.module_name) (map interface_in ms) (ap are_distinct (interface_names ms) ∙ d) (interface_in m) (among_interfaces ms m i) in
    let row : row_in (Some (interface_in m)) name ≡ Some r =
    ap (λ q. row_in q name) (sym interface) ∙ ap (λ y. row_for (map interface_in ms) y name) same ∙ e in
    (found_among (λ (s : Row). is_same s.name name) m.exports r row).0

-- Calls -------------------------------------------------------------------------------------

use_at : (m : ModuleTree) (us : List Use) → AreUses m us → (u : Use) → Among u us → IsUse m u
use_at m [] h u i = absurd i
use_at m (v ∷ vs) h u (inl e) = subst (IsUse m) (sym e) h.0
use_at m (v ∷ vs) h u (inr i) = use_at m vs h.1 u i

all_there : (program : List ModuleTree) (us : List Use) → ((x : List ℕ) (r : Row) → Among (From x r) us → is_there program (row_callee x r) ≡ true) → list_all (is_there program) (used_callees us) ≡ true
all_there program [] h = refl
all_there program (From x r ∷ us) h = ap (λ b. b && list_all (is_there program) (used_callees us)) (h x r (inl refl)) ∙ all_there program us (λ y s i. h y s (inr i))
all_there program (Need x r ∷ us) h = all_there program us (λ y s i. h y s (inr i))

taken : (m : ModuleTree) (n : ℕ) (q : Option FunctionTree) → takes n (found_in m q) ≡ takes_as_many n q
taken m n None = refl
taken m n (Some f) = refl

-- the item that names the module of a use
record Item (m : ModuleTree) (x : List ℕ) : Type 0 where
  item : ImportItem
  there : Among item m.imports
  names_it : item.module_name ≡ x

item_of : (m : ModuleTree) (x : List ℕ) (r : Row) → IsUse m (From x r) → Item m x
item_of m x r used =
    let first = passing (takes_name x r.name) m.imports used.imported in
    record { item = first.item; there = first.there; names_it = same_name first.item.module_name x (and_parts (is_same first.item.module_name x) (has_name first.item.names r.name) first.passes).0 }

-- the module of this name stands at one of these places
record Reached (ms : List ModuleTree) (order : List ℕ) (x : List ℕ) : Type 0 where
  home : ModuleTree
  there : Among home ms
  chosen_home : Among home (chosen ms order)
  name : home.name ≡ x

-- the modules that are reached from one
module _ (ms : List ModuleTree) (h : AreLinkable ms) (root : ℕ) (order : List ℕ) (w : IsWhole (imports_of (map (λ m. m.name) ms) (map (λ m. m.imports) ms)) root order) where
  distinct_names : are_distinct (map (λ m. m.name) (chosen ms order)) ≡ true
  distinct_names = distinct_chosen (λ (m : ModuleTree). m.name) ms h.distinct order w.once_each

  formed_at : (m : ModuleTree) → Among m (chosen ms order) → IsWellFormed m
  formed_at m i = let s = standing ms order m i in each_at IsWellFormed m ms h.formed (among_at ms s.place m s.stands)

  module_found : (m : ModuleTree) → Among m (chosen ms order) → module_named (chosen ms order) m.name ≡ Some m
  module_found m i = found (λ (n : ModuleTree). n.name) (chosen ms order) distinct_names m i

  -- what a reached module imports is reached
  imported_reached : (m : ModuleTree) → Standing ms order m → (i : ImportItem) → Among i m.imports → Placed (map (λ n. n.name) ms) i.module_name → Reached ms order i.module_name
  imported_reached m s i among p =
      let at = module_at ms p.place i.module_name p.stands in
      let marked : is_marked order p.place ≡ true =
      w.closed_under p.place s.place s.chosen_place
      (ap (λ ns. is_marked ns p.place) (imports_at (map (λ (n : ModuleTree). n.name) ms) ms s.place m s.stands) ∙ numbered (map (λ (n : ModuleTree). n.name) ms) m.imports i among p.place p.is) in
      record { home = at.module_tree; there = among_at ms p.place at.module_tree at.stands; chosen_home = is_chosen ms order p.place at.module_tree at.stands marked; name = at.name }

  home_of : (m : ModuleTree) → Standing ms order m → (x : List ℕ) → Item m x → Reached ms order x
  home_of m s x i =
      let present =
      each_at (λ (j : ImportItem). has_name (map (λ (n : ModuleTree). n.name) ms) j.module_name ≡ true) i.item m.imports
      (each_at (λ (n : ModuleTree). Each (λ (j : ImportItem). has_name (map (λ (o : ModuleTree). o.name) ms) j.module_name ≡ true) n.imports) m ms h.present (among_at ms s.place m s.stands)) i.there in
      subst (Reached ms order) i.names_it (imported_reached m s i.item i.there (placed (map (λ (n : ModuleTree). n.name) ms) i.item.module_name present))

  -- what a reached module exports can be called
  exported_there : (m : ModuleTree) → Among m (chosen ms order) → (r : Row) → Among r m.exports → is_there (chosen ms order) (row_callee m.name r) ≡ true
  exported_there m i r e =
      ap (λ q. takes (length (params_in r.kind)) (procedure_in q r.name)) (module_found m i)
      ∙ taken m (length (params_in r.kind)) (function_named m.functions r.name)
      ∙ each_at (λ (s : Row). is_exported m s ≡ true) r m.exports (each_of (is_exported m) m.exports (formed_at m i).exported) e

  used_there : (m : ModuleTree) → Among m (chosen ms order) → (x : List ℕ) (r : Row) → Among (From x r) m.uses → is_there (chosen ms order) (row_callee x r) ≡ true
  used_there m i x r u =
      let s = standing ms order m i in
      let used : IsUse m (From x r) = use_at m m.uses (formed_at m i).uses (From x r) u in
      let to = home_of m s x (item_of m x r used) in
      let row : row_for (map interface_in ms) x r.name ≡ Some r =
      each_at (HasRow (map interface_in ms)) (From x r) m.uses (each_at (λ (n : ModuleTree). Each (HasRow (map interface_in ms)) n.uses) m ms h.current (among_at ms s.place m s.stands)) u in
      subst (λ y. is_there (chosen ms order) (row_callee y r) ≡ true) to.name
      (exported_there to.home to.chosen_home r (exported_row ms h.distinct to.home to.there x to.name r.name r row))

  linked : are_linked (chosen ms order) (chosen ms order) ≡ true
  linked =
      all_of (λ (m : ModuleTree). list_all (is_there (chosen ms order)) (used_callees m.uses)) (chosen ms order)
      (each_from (λ (m : ModuleTree). list_all (is_there (chosen ms order)) (used_callees m.uses) ≡ true) (chosen ms order) (λ m i. all_there (chosen ms order) m.uses (λ x r u. used_there m i x r u)))

-- The main function -------------------------------------------------------------------------

-- the module of the main function
pub record HasMain (program : List ModuleTree) (main : Callee) : Type 0 where
  pub module_tree : ModuleTree
  pub there : Among module_tree program
  pub name : List ℕ
  pub has : module_tree.main ≡ Some name
  pub is : main ≡ record { module_name = module_tree.name; name = name; params = 1 }

has_main : (program : List ModuleTree) (main : Callee) → main_of program ≡ Some main → HasMain program main
has_main [] main e = absurd (cc)
has_main (m ∷ ms) main e = go m.main refl e (λ f. has_main ms main f)
  where
    go : (q : Option (List ℕ)) → m.main ≡ q → main_in m.name q (main_of ms) ≡ Some main → (main_of ms ≡ Some main → HasMain ms main) → HasMain (m ∷ ms) main
    go None is f later = let rest = later f in record { module_tree = rest.module_tree; there = inr rest.there; name = rest.name; has = rest.has; is = rest.is }
    go (Some name) is f later = record { module_tree = m; there = inl refl; name = name; has = is; is = sym (same_Some (record { module_name = m.name; name = name; params = 1 }) main f) }

-- a function with one parameter
record TakesOne (q : Option FunctionTree) : Type 0 where
  function : FunctionTree
  is : q ≡ Some function
  one : (x : VarId) × (function.params ≡ x ∷ [])

one_param : (xs : List VarId) → nat_eq (length xs) 1 ≡ true → (x : VarId) × (xs ≡ x ∷ [])
one_param [] e = absurd (omega (arith, eqb-true 0 1 e))
one_param (x ∷ []) e = (x, refl)
one_param (x ∷ y ∷ ys) e = absurd (omega (arith, eqb-true (length (x ∷ y ∷ ys)) 1 e))

takes_one : (q : Option FunctionTree) → takes_as_many 1 q ≡ true → TakesOne q
takes_one None e = absurd (cc)
takes_one (Some f) e = record { function = f; is = refl; one = one_param f.params e }

-- modules that are reached from one and have a main function are a program
pub is_program : (ms : List ModuleTree) → AreLinkable ms → (root : ℕ) (order : List ℕ) → IsOrder (imports_of (map (λ m. m.name) ms) (map (λ m. m.imports) ms)) root order → (main : Callee) → main_of (chosen ms order) ≡ Some main → IsProgram (chosen ms order)
is_program ms h root order is main e = record {
  formed = formed_each (chosen ms order) (each_from IsWellFormed (chosen ms order) (formed_at ms h root order w));
  distinct = distinct_names ms h root order w;
  linked = linked ms h root order w;
  main = main;
  is_main = e;
  function = record { home = home.module_tree; function = takes_main.function };
  is =
      ap (λ (c : Callee). procedure_of (chosen ms order) (Some c)) home.is ∙ ap (λ q. procedure_in q home.name) (module_found ms h root order w home.module_tree home.there)
      ∙ ap (found_in home.module_tree) takes_main.is;
  one = takes_main.one;
}
  where
    w : IsWhole (imports_of (map (λ m. m.name) ms) (map (λ m. m.imports) ms)) root order
    w = whole (imports_of (map (λ m. m.name) ms) (map (λ m. m.imports) ms)) root order is

    home : HasMain (chosen ms order) main
    home = has_main (chosen ms order) main e

    takes_main : TakesOne (function_named home.module_tree.functions home.name)
    takes_main =
        takes_one (function_named home.module_tree.functions home.name)
        (subst (IsMain home.module_tree) home.has (formed_at ms h root order w home.module_tree home.there).main)
