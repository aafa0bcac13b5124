-- What the objects of modules tell of the modules, where they are linked.
use Rattle.std.proofs.Common.{◌≡◌, ℕ, zero, suc, Bool, true, false, cond, not, nat_lt, length, List, [], ◌∷◌, map, find, filter, Option, Some, None, slice_get, refl, sym, ap, ap₂, ◌∙◌, subst, if◌then◌else◌}
use Rattle.std.specs.List.{list_all, AllByRecursion as Each}
use Rattle.std.proofs.lemmas.Bool.{and_parts, eqb-true}
use Rattle.scheme_data.specs.Names.{are_distinct, is_same}
use Rattle.built_table.specs.declared.primitives.Ty.{Ty}
use Rattle.built_table.specs.declared.primitives.Ty.TheVariants.{Obj, Long, Bool as Truth}
use Rattle.name_table.specs.Names.{has_name}
use Rattle.iface_text.specs.declared.interface.Row.{Row}
use Rattle.iface_text.specs.declared.interface.RowKind.{RowKind}
use Rattle.iface_text.specs.declared.interface.RowKind.TheVariants.{Fun}
use Rattle.iface_text.specs.Format.{IfaceTree}
use Rattle.core_tree.specs.declared.tree.ImportItem.{ImportItem}
use Rattle.core_tree.specs.declared.tree.Use.{Use}
use Rattle.core_tree.specs.Tree.{ModuleTree}
use Rattle.core_tree.specs.WellFormed.{module_of, row_of, IsWellFormed}
use Rattle.std.specs.List.{cons_option}
use Rattle.std.specs.Option.{is_some}
use Rattle.meaning.specs.Order.{chosen}
use Rattle.meaning.specs.Program.{main_in, main_of}
use Rattle.simulation.specs.Law.{AreTranslated}
use Rattle.object_text.specs.Format.{ObjectTree}
use Rattle.resolver.specs.Elaboration.{interface_named, row_in, row_for}
use Rattle.unit_compile.specs.Compilation.{IsObjectOf}
use Rattle.linker.specs.declared.linking.LinkErr.{LinkErr}
use Rattle.linker.specs.declared.linking.LinkErr.TheVariants.{MissingModule}
use Rattle.linker.specs.Links as links
use Rattle.std.specs.Option.{option_or}
use Rattle.linker.specs.Links.{names_of, object_named, exported_row, current_row, same_type, same_types, same_kind, agrees, are_current, first_refused, missing_module, missing_modules, missing_names, are_modules, has_one_main, most_modules, unless, link_refusal, part_of}
use Rattle.linker.proofs.Refused.{one_main}
use Rattle.whole_program.proofs.Members.{each_of, each_to, only_passing}
use Rattle.whole_program.proofs.Rows.{HasRow, named, interface_in}
use Rattle.whole_program.proofs.Programs.{AreLinkable}

-- each module's object
abbrev pub AreObjectsOf : List ModuleTree → List ObjectTree → Type 0
AreObjectsOf [] [] = Unit {0}
AreObjectsOf (m ∷ ms) (o ∷ os) = IsObjectOf m o × AreObjectsOf ms os
AreObjectsOf _ _ = ⊥

-- Lists of parts ----------------------------------------------------------------------------

pub same_parts : {A : Type 0} (of_object : ObjectTree → A) (of_module : ModuleTree → A) → ((m : ModuleTree) (o : ObjectTree) → IsObjectOf m o → of_object o ≡ of_module m)
    → (ms : List ModuleTree) (os : List ObjectTree) → AreObjectsOf ms os → map of_object os ≡ map of_module ms
same_parts f g same [] [] h = refl
same_parts f g same [] (o ∷ os) h = absurd h
same_parts f g same (m ∷ ms) [] h = absurd h
same_parts f g same (m ∷ ms) (o ∷ os) h = ap₂ (λ x xs. x ∷ xs) (same m o h.0) (same_parts f g same ms os h.1)

-- what holds of a part of each object holds of that of each module
each_module : {A : Type 0} (P : A → Type 0) (of_object : ObjectTree → A) (of_module : ModuleTree → A) → ((m : ModuleTree) (o : ObjectTree) → IsObjectOf m o → of_object o ≡ of_module m)
    → (ms : List ModuleTree) (os : List ObjectTree) → AreObjectsOf ms os → Each (λ o. P (of_object o)) os → Each (λ m. P (of_module m)) ms
each_module P f g same [] [] h each = tt
each_module P f g same [] (o ∷ os) h each = absurd h
each_module P f g same (m ∷ ms) [] h each = absurd h
each_module P f g same (m ∷ ms) (o ∷ os) h each = (subst P (same m o h.0) each.0, each_module P f g same ms os h.1 each.1)

pub same_names : (ms : List ModuleTree) (os : List ObjectTree) → AreObjectsOf ms os → names_of os ≡ map (λ m. m.name) ms
same_names ms os h = same_parts (λ (o : ObjectTree). o.module_name) (λ (m : ModuleTree). m.name) (λ m o i. i.name) ms os h

-- Chosen objects ----------------------------------------------------------------------------

abbrev Parallel : Option ModuleTree → Option ObjectTree → Type 0
Parallel None None = Unit {0}
Parallel (Some m) (Some o) = IsObjectOf m o
Parallel _ _ = ⊥

parallel_at : (ms : List ModuleTree) (os : List ObjectTree) → AreObjectsOf ms os → (k : ℕ) → Parallel (slice_get ms k) (slice_get os k)
parallel_at [] [] h k = tt
parallel_at [] (o ∷ os) h k = absurd h
parallel_at (m ∷ ms) [] h k = absurd h
parallel_at (m ∷ ms) (o ∷ os) h zero = h.0
parallel_at (m ∷ ms) (o ∷ os) h (suc k) = parallel_at ms os h.1 k

parallel_onto : (q : Option ModuleTree) (r : Option ObjectTree) (ms : List ModuleTree) (os : List ObjectTree) → Parallel q r → AreObjectsOf ms os → AreObjectsOf (cons_option q ms) (cons_option r os)
parallel_onto None None ms os p h = h
parallel_onto None (Some o) ms os p h = absurd p
parallel_onto (Some m) None ms os p h = absurd p
parallel_onto (Some m) (Some o) ms os p h = (p, h)

pub chosen_objects : (ms : List ModuleTree) (os : List ObjectTree) → AreObjectsOf ms os → (ks : List ℕ) → AreObjectsOf (chosen ms ks) (chosen os ks)
chosen_objects ms os h [] = tt
chosen_objects ms os h (k ∷ ks) = parallel_onto (slice_get ms k) (slice_get os k) (chosen ms ks) (chosen os ks) (parallel_at ms os h k) (chosen_objects ms os h ks)

pub translated : (ms : List ModuleTree) (os : List ObjectTree) → AreObjectsOf ms os → AreTranslated ms (map part_of os)
translated [] [] h = tt
translated [] (o ∷ os) h = absurd h
translated (m ∷ ms) [] h = absurd h
translated (m ∷ ms) (o ∷ os) h = (record { named = h.0.name; translated = h.0.translated }, translated ms os h.1)

pub same_main : (ms : List ModuleTree) (os : List ObjectTree) → AreObjectsOf ms os → links.main_of os ≡ main_of ms
same_main [] [] h = refl
same_main [] (o ∷ os) h = absurd h
same_main (m ∷ ms) [] h = absurd h
same_main (m ∷ ms) (o ∷ os) h = ap₂ (λ x y. main_in x y (links.main_of os)) h.0.name h.0.main ∙ ap (main_in m.name m.main) (same_main ms os h.1)

-- Rows --------------------------------------------------------------------------------------

rows_on : (b : Bool) (m : ModuleTree) (o : ObjectTree) → IsObjectOf m o → (found_object : Option ObjectTree) (found_interface : Option IfaceTree) (name : List ℕ)
    → exported_row found_object name ≡ row_in found_interface name → exported_row (cond b (Some o) found_object) name ≡ row_in (cond b (Some (interface_in m)) found_interface) name
rows_on true m o h q i name e = ap (find (λ (r : Row). is_same r.name name)) h.exports
rows_on false m o h q i name e = e

-- a name has in an object the row that it has in the module's interface
same_rows : (ms : List ModuleTree) (os : List ObjectTree) → AreObjectsOf ms os → (x name : List ℕ) → exported_row (object_named os x) name ≡ row_for (map interface_in ms) x name
same_rows [] [] h x name = refl
same_rows [] (o ∷ os) h x name = absurd h
same_rows (m ∷ ms) [] h x name = absurd h
same_rows (m ∷ ms) (o ∷ os) h x name =
    ap (λ n. exported_row (cond (is_same n x) (Some o) (object_named os x)) name) h.0.name
    ∙ rows_on (is_same m.name x) m o h.0 (object_named os x) (interface_named (map interface_in ms) x) name (same_rows ms os h.1 x name)

same_type_is : (t u : Ty) → same_type t u ≡ true → t ≡ u
same_type_is Obj Obj e = refl
same_type_is Obj Long e = absurd (cc)
same_type_is Obj Truth e = absurd (cc)
same_type_is Long Obj e = absurd (cc)
same_type_is Long Long e = refl
same_type_is Long Truth e = absurd (cc)
same_type_is Truth Obj e = absurd (cc)
same_type_is Truth Long e = absurd (cc)
same_type_is Truth Truth e = refl

same_types_are : (ts us : List Ty) → same_types ts us ≡ true → ts ≡ us
same_types_are [] [] e = refl
same_types_are [] (u ∷ us) e = absurd (cc)
same_types_are (t ∷ ts) [] e = absurd (cc)
same_types_are (t ∷ ts) (u ∷ us) e =
    let parts = and_parts (same_type t u) (same_types ts us) e in ap₂ (λ x xs. x ∷ xs) (same_type_is t u parts.0) (same_types_are ts us parts.1)

same_kind_is : (k l : RowKind) → same_kind k l ≡ true → k ≡ l
same_kind_is (Fun ts t) (Fun us u) e =
    let parts = and_parts (same_types ts us) (same_type t u) e in ap₂ Fun (same_types_are ts us parts.0) (same_type_is t u parts.1)

-- a row of the used name and of one signature with the use's is the use's
current : (ifaces : List IfaceTree) (u : Use) → agrees (row_of u) (row_for ifaces (module_of u) (row_of u).name) ≡ true → HasRow ifaces u
current ifaces u e = go (row_for ifaces (module_of u) (row_of u).name) refl e
  where
    go : (q : Option Row) → row_for ifaces (module_of u) (row_of u).name ≡ q → agrees (row_of u) q ≡ true → HasRow ifaces u
    go None is f = absurd (cc)
    go (Some r) is f =
        let row : r ≡ row_of u = ap₂ (λ (n : List ℕ) (k : RowKind). record { name = n; kind = k }) (named ifaces (module_of u) (row_of u).name r is) (sym (same_kind_is (row_of u).kind r.kind f)) in
        is ∙ ap Some row

-- Links -------------------------------------------------------------------------------------

both_none : (a b : Option LinkErr) → option_or a b ≡ None → (a ≡ None) × (b ≡ None)
both_none None b e = (refl, e)
both_none (Some x) b e = absurd (cc)

unless_none : (b : Bool) → unless b ≡ None → b ≡ true
unless_none true e = refl
unless_none false e = absurd (cc)

-- what is told of linked objects
record AreAccepted (os : List ObjectTree) : Type 0 where
  distinct : are_distinct (names_of os) ≡ true
  present : missing_modules os ≡ None
  are_current_all : are_current os ≡ true

accepted : (os : List ObjectTree) → link_refusal os ≡ None → AreAccepted os
accepted os e =
    let first = both_none (unless (are_modules os)) (option_or (missing_modules os) (option_or (missing_names os) (option_or (unless (are_current os)) (unless (has_one_main os))))) e in
    let second = both_none (missing_modules os) (option_or (missing_names os) (option_or (unless (are_current os)) (unless (has_one_main os)))) first.1 in
    let third = both_none (missing_names os) (option_or (unless (are_current os)) (unless (has_one_main os))) second.1 in
    let fourth = both_none (unless (are_current os)) (unless (has_one_main os)) third.1 in
    record {
      distinct = (and_parts (not (nat_lt most_modules (length os))) (are_distinct (names_of os)) (unless_none (are_modules os) first.0)).1;
      present = second.0;
      are_current_all = unless_none (are_current os) fourth.0;
    }

imports_present : (names : List (List ℕ)) (n : ℕ) (is : List ImportItem) → missing_module names n is ≡ None → Each (λ i. has_name names i.module_name ≡ true) is
imports_present names n [] e = tt
imports_present names n (i ∷ is) e = go (has_name names i.module_name) refl e (λ f. imports_present names n is f)
  where
    go : (b : Bool) → has_name names i.module_name ≡ b → (if b then missing_module names n is else Some (MissingModule n i.module_name)) ≡ None → (missing_module names n is ≡ None → Each (λ j. has_name names j.module_name ≡ true) is) → (has_name names i.module_name ≡ true) × Each (λ j. has_name names j.module_name ≡ true) is
    go true t f later = (t, later f)
    go false t f later = absurd (cc)

all_present : (names : List (List ℕ)) (n : ℕ) (os : List ObjectTree) → first_refused (λ k o. missing_module names k o.imports) n os ≡ None → Each (λ o. Each (λ i. has_name names i.module_name ≡ true) o.imports) os
all_present names n [] e = tt
all_present names n (o ∷ os) e =
    let parts = both_none (missing_module names n o.imports) (first_refused (λ k o. missing_module names k o.imports) (suc n) os) e in
    (imports_present names n o.imports parts.0, all_present names (suc n) os parts.1)

-- as many modules as objects have a main function
same_count : (ms : List ModuleTree) (os : List ObjectTree) → AreObjectsOf ms os → length (filter (λ (o : ObjectTree). is_some o.main) os) ≡ length (filter (λ (m : ModuleTree). is_some m.main) ms)
same_count [] [] h = refl
same_count [] (o ∷ os) h = absurd h
same_count (m ∷ ms) [] h = absurd h
same_count (m ∷ ms) (o ∷ os) h =
    ap (λ q. length (cond (is_some q) (o ∷ filter (λ (p : ObjectTree). is_some p.main) os) (filter (λ (p : ObjectTree). is_some p.main) os))) h.0.main ∙ go (is_some m.main) (same_count ms os h.1)
  where
    go : (b : Bool) → length (filter (λ (p : ObjectTree). is_some p.main) os) ≡ length (filter (λ (n : ModuleTree). is_some n.main) ms)
        → length (cond b (o ∷ filter (λ (p : ObjectTree). is_some p.main) os) (filter (λ (p : ObjectTree). is_some p.main) os)) ≡ length (cond b (m ∷ filter (λ (n : ModuleTree). is_some n.main) ms) (filter (λ (n : ModuleTree). is_some n.main) ms))
    go true later = ap suc later
    go false later = later

-- modules whose objects are linked can be linked
pub linkable : (ms : List ModuleTree) (os : List ObjectTree) → AreObjectsOf ms os → Each IsWellFormed ms → link_refusal os ≡ None → AreLinkable ms
linkable ms os h formed e = record {
  formed = formed;
  distinct = ap are_distinct (sym names) ∙ all.distinct;
  present =
      each_module (Each (λ (i : ImportItem). has_name (map (λ (n : ModuleTree). n.name) ms) i.module_name ≡ true)) (λ (o : ObjectTree). o.imports) (λ (m : ModuleTree). m.imports) (λ m o i. i.imports) ms os h
      (all_present (map (λ (n : ModuleTree). n.name) ms) 1 os (ap (λ ns. first_refused (λ k (o : ObjectTree). missing_module ns k o.imports) 1 os) (sym names) ∙ all.present));
  current =
      each_module (Each (HasRow (map interface_in ms))) (λ (o : ObjectTree). o.uses) (λ (m : ModuleTree). m.uses) (λ m o i. i.uses) ms os h
      (each_to (λ (o : ObjectTree). list_all (λ u. agrees (row_of u) (current_row os u)) o.uses ≡ true) (λ (o : ObjectTree). Each (HasRow (map interface_in ms)) o.uses)
      (λ o q. each_to (λ u. agrees (row_of u) (current_row os u) ≡ true) (HasRow (map interface_in ms)) (λ u r. current (map interface_in ms) u (ap (agrees (row_of u)) (sym (same_rows ms os h (module_of u) (row_of u).name)) ∙ r)) o.uses (each_of (λ u. agrees (row_of u) (current_row os u)) o.uses q))
      os (each_of (λ (o : ObjectTree). list_all (λ u. agrees (row_of u) (current_row os u)) o.uses) os all.are_current_all));
  one_main = only_passing (λ (m : ModuleTree). is_some m.main) ms (sym (same_count ms os h) ∙ eqb-true (length (filter (λ (o : ObjectTree). is_some o.main) os)) 1 (one_main os e));
}
  where
    all : AreAccepted os
    all = accepted os e

    names : names_of os ≡ map (λ m. m.name) ms
    names = same_names ms os h
