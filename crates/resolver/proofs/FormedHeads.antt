-- The head of proper data has names of its own, imports nothing from its own module and exports each name once.
use Rattle.std.proofs.Common.{◌≡◌, ℕ, Bool, true, false, not, if◌then◌else◌, codes, List, [], ◌∷◌, ◌++◌, length, Option, Some, None, refl}
use Rattle.std.proofs.lemmas.Bool.{not-true, and_parts}
use Rattle.scheme_data.specs.Names.{are_distinct}
use Rattle.scheme_data.specs.Data.{Plain, Number, Character, Truth, Unspecified, String, Symbol, Listed, Dotted, Vector, Plains, none, more, IsProper, AreProper}
use Rattle.scheme_data.specs.Symbols.{IsSymbol}
use Rattle.resolver.specs.BuiltHeads.{is_word, symbol_of, says, has_type, ImportTree, ExportTree, HeadTree, untyped, name_of, onto, names_of, with_name, item_of, some_item, import_item, import_items, prototype, export_item, export_items, main_name, first_main, with_main, with_imports, with_exports, with_clause, then_clause, clauses, imports_itself, exported_names, is_right, righted, headed, head_of}
use Rattle.core_tree.specs.WellFormed.{AreNames, has_some}
use Rattle.resolver.proofs.FormedParts.{Holds, where_true}

-- at least one name of a module
pub record IsItem (i : ImportTree) : Type 0 where
  pub module_name : IsSymbol i.module_name
  pub names : AreNames i.names
  pub some : has_some i.names ≡ true

abbrev pub AreItems : List ImportTree → Type 0
AreItems [] = Unit {0}
AreItems (i ∷ is) = IsItem i × AreItems is

abbrev pub AreExports : List ExportTree → Type 0
AreExports [] = Unit {0}
AreExports (e ∷ es) = IsSymbol e.name × AreExports es

pub record IsHead (h : HeadTree) : Type 0 where
  pub name : IsSymbol h.name
  pub items : AreItems h.imports
  pub exports : AreExports h.exports

-- and none of its modules is its own, and no export stands twice
pub record IsRight (h : HeadTree) : Type 0 where
  pub head : IsHead h
  pub foreign : imports_itself h ≡ false
  pub distinct : are_distinct (exported_names h.exports) ≡ true

-- Names -------------------------------------------------------------------------------------

pub symbol_named : (d : Plain) → IsProper d → Holds IsSymbol (symbol_of d)
symbol_named (Symbol name mark) h = h
symbol_named (Number n) h = tt
symbol_named (Character b) h = tt
symbol_named (Truth t) h = tt
symbol_named Unspecified h = tt
symbol_named (String text) h = tt
symbol_named (Listed ds) h = tt
symbol_named (Dotted es tail) h = tt
symbol_named (Vector es) h = tt

untyped_named : (o : Option (List ℕ)) → Holds IsSymbol o → Holds IsSymbol (untyped o)
untyped_named None h = tt
untyped_named (Some name) h = go (has_type name)
  where
    go : (b : Bool) → Holds IsSymbol (if b then None else Some name)
    go true = tt
    go false = h

name_named : (d : Plain) → IsProper d → Holds IsSymbol (name_of d)
name_named d h = untyped_named (symbol_of d) (symbol_named d h)

onto_named : (o : Option (List ℕ)) (xs : Option (List (List ℕ))) → Holds IsSymbol o → Holds AreNames xs → Holds AreNames (onto o xs)
onto_named None xs h k = tt
onto_named (Some x) None h k = tt
onto_named (Some x) (Some xs) h k = (h, k)

names_named : (ds : Plains) → AreProper ds → Holds AreNames (names_of ds)
names_named none h = tt
names_named (more d ds) h = onto_named (name_of d) (names_of ds) (name_named d h.0) (names_named ds h.1)

-- Imports -----------------------------------------------------------------------------------

one_name_more : (x : List ℕ) (o : Option ImportTree) → IsSymbol x → Holds IsItem o → Holds IsItem (with_name x o)
one_name_more x None h k = tt
one_name_more x (Some i) h k = record { module_name = k.module_name; names = (h, k.names); some = refl }

item_formed : (xs : List (List ℕ)) → AreNames xs → Holds IsItem (item_of xs)
item_formed [] h = tt
item_formed (x ∷ []) h = tt
item_formed (x ∷ m ∷ []) h = record { module_name = h.1.0; names = (h.0, tt); some = refl }
item_formed (x ∷ y ∷ z ∷ xs) h = one_name_more x (item_of (y ∷ z ∷ xs)) h.0 (item_formed (y ∷ z ∷ xs) h.1)

some_item_formed : (o : Option (List (List ℕ))) → Holds AreNames o → Holds IsItem (some_item o)
some_item_formed None h = tt
some_item_formed (Some xs) h = item_formed xs h

import_formed : (d : Plain) → IsProper d → Holds IsItem (import_item d)
import_formed (Listed ds) h = some_item_formed (names_of ds) (names_named ds h)
import_formed (Symbol name mark) h = tt
import_formed (Number n) h = tt
import_formed (Character b) h = tt
import_formed (Truth t) h = tt
import_formed Unspecified h = tt
import_formed (String text) h = tt
import_formed (Dotted es tail) h = tt
import_formed (Vector es) h = tt

onto_items : (o : Option ImportTree) (is : Option (List ImportTree)) → Holds IsItem o → Holds AreItems is → Holds AreItems (onto o is)
onto_items None is h k = tt
onto_items (Some i) None h k = tt
onto_items (Some i) (Some is) h k = (h, k)

imports_formed : (ds : Plains) → AreProper ds → Holds AreItems (import_items ds)
imports_formed none h = tt
imports_formed (more d ds) h = onto_items (import_item d) (import_items ds) (import_formed d h.0) (imports_formed ds h.1)

-- Exports -----------------------------------------------------------------------------------

abbrev IsExport : ExportTree → Type 0
IsExport e = IsSymbol e.name

prototype_formed : (o : Option (List (List ℕ))) → Holds AreNames o → Holds IsExport (prototype o)
prototype_formed None h = tt
prototype_formed (Some []) h = tt
prototype_formed (Some (f ∷ xs)) h = go (is_word f (codes "inline"))
  where
    go : (b : Bool) → Holds IsExport (if b then None else Some (record { name = f; count = length xs }))
    go true = tt
    go false = h.0

export_formed : (d : Plain) → IsProper d → Holds IsExport (export_item d)
export_formed (Listed ds) h = prototype_formed (names_of ds) (names_named ds h)
export_formed (Symbol name mark) h = tt
export_formed (Number n) h = tt
export_formed (Character b) h = tt
export_formed (Truth t) h = tt
export_formed Unspecified h = tt
export_formed (String text) h = tt
export_formed (Dotted es tail) h = tt
export_formed (Vector es) h = tt

onto_exports : (o : Option ExportTree) (es : Option (List ExportTree)) → Holds IsExport o → Holds AreExports es → Holds AreExports (onto o es)
onto_exports None es h k = tt
onto_exports (Some e) None h k = tt
onto_exports (Some e) (Some es) h k = (h, k)

exports_formed : (ds : Plains) → AreProper ds → Holds AreExports (export_items ds)
exports_formed none h = tt
exports_formed (more d ds) h = onto_exports (export_item d) (export_items ds) (export_formed d h.0) (exports_formed ds h.1)

-- Clauses -----------------------------------------------------------------------------------

more_items : (is js : List ImportTree) → AreItems is → AreItems js → AreItems (is ++ js)
more_items [] js h k = k
more_items (i ∷ is) js h k = (h.0, more_items is js h.1 k)

more_exports : (es fs : List ExportTree) → AreExports es → AreExports fs → AreExports (es ++ fs)
more_exports [] fs h k = k
more_exports (e ∷ es) fs h k = (h.0, more_exports es fs h.1 k)

first_main_formed : (f : List ℕ) (h : HeadTree) (o : Option (List ℕ)) → IsHead h → Holds IsHead (first_main f h o)
first_main_formed f h None p = record { name = p.name; items = p.items; exports = p.exports }
first_main_formed f h (Some g) p = tt

main_formed : (o : Option (List ℕ)) (h : HeadTree) → IsHead h → Holds IsHead (with_main o h)
main_formed None h p = tt
main_formed (Some f) h p = first_main_formed f h h.main p

with_imports_formed : (o : Option (List ImportTree)) (h : HeadTree) → Holds AreItems o → IsHead h → Holds IsHead (with_imports o h)
with_imports_formed None h k p = tt
with_imports_formed (Some is) h k p = record { name = p.name; items = more_items is h.imports k p.items; exports = p.exports }

with_exports_formed : (o : Option (List ExportTree)) (h : HeadTree) → Holds AreExports o → IsHead h → Holds IsHead (with_exports o h)
with_exports_formed None h k p = tt
with_exports_formed (Some es) h k p = record { name = p.name; items = p.items; exports = more_exports es h.exports k p.exports }

clause_formed : (word : Option (List ℕ)) (ds : Plains) (h : HeadTree) → AreProper ds → IsHead h → Holds IsHead (with_clause word ds h)
clause_formed word ds h k p = go (says word (codes "main")) (says word (codes "import")) (says word (codes "export"))
  where
    go : (a b c : Bool)
        → Holds IsHead (if a then with_main (main_name ds) h else (if b then with_imports (import_items ds) h else (if c then with_exports (export_items ds) h else None)))
    go true b c = main_formed (main_name ds) h p
    go false true c = with_imports_formed (import_items ds) h (imports_formed ds k) p
    go false false true = with_exports_formed (export_items ds) h (exports_formed ds k) p
    go false false false = tt

then_formed : (d : Plain) (o : Option HeadTree) → IsProper d → Holds IsHead o → Holds IsHead (then_clause d o)
then_formed (Number n) o h p = tt
then_formed (Symbol name mark) o h p = tt
then_formed (Character b) o h p = tt
then_formed (Truth t) o h p = tt
then_formed Unspecified o h p = tt
then_formed (String text) o h p = tt
then_formed (Dotted es tail) o h p = tt
then_formed (Vector es) o h p = tt
then_formed (Listed none) o h p = tt
then_formed (Listed (more word ds)) None h p = tt
then_formed (Listed (more word ds)) (Some k) h p = clause_formed (symbol_of word) ds k h.1 p

clauses_formed : (name : List ℕ) (ds : Plains) → IsSymbol name → AreProper ds → Holds IsHead (clauses name ds)
clauses_formed name none n h = record { name = n; items = tt; exports = tt }
clauses_formed name (more d ds) n h = then_formed d (clauses name ds) h.0 (clauses_formed name ds n h.1)

-- Heads -------------------------------------------------------------------------------------

righted_formed : (o : Option HeadTree) → Holds IsHead o → Holds IsRight (righted o)
righted_formed None p = tt
righted_formed (Some h) p = go (is_right h) refl
  where
    go : (b : Bool) → is_right h ≡ b → Holds IsRight (if b then Some h else None)
    go true e =
        let parts = and_parts (not (imports_itself h)) (are_distinct (exported_names h.exports)) e in
        record { head = p; foreign = not-true (imports_itself h) parts.0; distinct = parts.1 }
    go false e = tt

headed_formed : (o : Option (List ℕ)) (ds : Plains) → Holds IsSymbol o → AreProper ds → Holds IsRight (headed o ds)
headed_formed None ds n h = tt
headed_formed (Some name) ds n h = righted_formed (clauses name ds) (clauses_formed name ds n h)

pub head_formed : (d : Plain) → IsProper d → Holds IsRight (head_of d)
head_formed (Number n) h = tt
head_formed (Symbol name mark) h = tt
head_formed (Character b) h = tt
head_formed (Truth t) h = tt
head_formed Unspecified h = tt
head_formed (String text) h = tt
head_formed (Dotted es tail) h = tt
head_formed (Vector es) h = tt
head_formed (Listed none) h = tt
head_formed (Listed (more w none)) h = tt
head_formed (Listed (more w (more n ds))) h =
    where_true IsRight (says (symbol_of w) (codes "module")) (headed (name_of n) ds) (headed_formed (name_of n) ds (name_named n h.1.0) h.1.1)
