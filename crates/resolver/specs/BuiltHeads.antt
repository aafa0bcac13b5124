-- The head of a module, `(module NAME clause ...)` (the Bigloo manual, "Modules"). A clause is `(main f)`, at most once, `(import (name ... MODULE) ...)` or `(export (f x ...) ...)`.
use Rattle.std.specs.Prelude.{ℕ, List, [], ◌∷◌, ◌++◌, map, codes, nat_eq, length, Bool, false, not, ◌&&◌, ◌||◌, if◌then◌else◌, Option, Some, None}
use Rattle.std.specs.List.{list_any}
use Rattle.scheme_data.specs.Names.{is_same, are_distinct}
use Rattle.scheme_data.specs.Data.{Plain, Symbol, Listed, Plains, none, more}

abbrev pub is_word : List ℕ → List ℕ → Bool
is_word name word = is_same name word

-- the name of a symbol
abbrev pub symbol_of : Plain → Option (List ℕ)
symbol_of (Symbol name mark) = Some name
symbol_of _ = None

-- whether it is the symbol of this word
abbrev pub says : Option (List ℕ) → List ℕ → Bool
says None word = false
says (Some name) word = is_word name word

-- a name with a type holds `::`
abbrev pub begins_type : List ℕ → Bool
begins_type [] = false
begins_type (b ∷ []) = false
begins_type (b ∷ c ∷ bs) = nat_eq b 58 && nat_eq c 58

abbrev pub has_type : List ℕ → Bool
has_type [] = false
has_type (b ∷ bs) = begins_type (b ∷ bs) || has_type bs

-- a module, and names that are imported from it, at least one
pub record ImportTree : Type 0 where
  pub module_name : List ℕ
  pub names : List (List ℕ)

-- a function that is exported, and how many parameters it has
pub record ExportTree : Type 0 where
  pub name : List ℕ
  pub count : ℕ

pub record HeadTree : Type 0 where
  pub name : List ℕ
  pub imports : List ImportTree
  pub exports : List ExportTree
  pub main : Option (List ℕ)

-- Parts -------------------------------------------------------------------------------------

-- the name of a symbol without a type
abbrev pub untyped : Option (List ℕ) → Option (List ℕ)
untyped None = None
untyped (Some name) = if has_type name then None else Some name

abbrev pub name_of : Plain → Option (List ℕ)
name_of d = untyped (symbol_of d)

abbrev pub onto : {A : Type 0} → Option A → Option (List A) → Option (List A)
onto None xs = None
onto (Some x) None = None
onto (Some x) (Some xs) = Some (x ∷ xs)

-- names without types
abbrev pub names_of : Plains → Option (List (List ℕ))
names_of none = Some []
names_of (more d ds) = onto (name_of d) (names_of ds)

abbrev pub with_name : List ℕ → Option ImportTree → Option ImportTree
with_name x None = None
with_name x (Some i) = Some (record { module_name = i.module_name; names = x ∷ i.names })

-- the last of the names is the module, and there are others before it
abbrev pub item_of : List (List ℕ) → Option ImportTree
item_of [] = None
item_of (x ∷ []) = None
item_of (x ∷ m ∷ []) = Some (record { module_name = m; names = x ∷ [] })
item_of (x ∷ y ∷ z ∷ xs) = with_name x (item_of (y ∷ z ∷ xs))

abbrev pub some_item : Option (List (List ℕ)) → Option ImportTree
some_item None = None
some_item (Some xs) = item_of xs

-- `(name ... MODULE)`; an item that is a module alone isn't built
abbrev pub import_item : Plain → Option ImportTree
import_item (Listed ds) = some_item (names_of ds)
import_item _ = None

abbrev pub import_items : Plains → Option (List ImportTree)
import_items none = Some []
import_items (more d ds) = onto (import_item d) (import_items ds)

-- `(inline f x ...)` isn't built
abbrev pub prototype : Option (List (List ℕ)) → Option ExportTree
prototype None = None
prototype (Some []) = None
prototype (Some (f ∷ xs)) = if is_word f (codes "inline") then None else Some (record { name = f; count = length xs })

-- `(f x ...)`; a variable isn't built
abbrev pub export_item : Plain → Option ExportTree
export_item (Listed ds) = prototype (names_of ds)
export_item _ = None

abbrev pub export_items : Plains → Option (List ExportTree)
export_items none = Some []
export_items (more d ds) = onto (export_item d) (export_items ds)

-- Clauses -----------------------------------------------------------------------------------

-- the name of `(main f)`, after the word
abbrev pub main_name : Plains → Option (List ℕ)
main_name (more f none) = name_of f
main_name _ = None

-- a head with a main function, where it has none yet
abbrev pub first_main : List ℕ → HeadTree → Option (List ℕ) → Option HeadTree
first_main f h None = Some (record h { main = Some f })
first_main f h (Some g) = None

-- a head to which a clause is added in front
abbrev pub with_main : Option (List ℕ) → HeadTree → Option HeadTree
with_main None h = None
with_main (Some f) h = first_main f h h.main

abbrev pub with_imports : Option (List ImportTree) → HeadTree → Option HeadTree
with_imports None h = None
with_imports (Some is) h = Some (record h { imports = is ++ h.imports })

abbrev pub with_exports : Option (List ExportTree) → HeadTree → Option HeadTree
with_exports None h = None
with_exports (Some es) h = Some (record h { exports = es ++ h.exports })

-- the clause with this word
abbrev pub with_clause : Option (List ℕ) → Plains → HeadTree → Option HeadTree
with_clause word ds h =
    if says word (codes "main") then with_main (main_name ds) h
    else (if says word (codes "import") then with_imports (import_items ds) h
    else (if says word (codes "export") then with_exports (export_items ds) h
    else None))

abbrev pub then_clause : Plain → Option HeadTree → Option HeadTree
then_clause (Listed (more word ds)) (Some h) = with_clause (symbol_of word) ds h
then_clause _ _ = None

abbrev pub bare : List ℕ → HeadTree
bare name = record { name = name; imports = []; exports = []; main = None }

abbrev pub clauses : List ℕ → Plains → Option HeadTree
clauses name none = Some (bare name)
clauses name (more d ds) = then_clause d (clauses name ds)

abbrev pub imports_itself : HeadTree → Bool
imports_itself h = list_any (λ i. is_word i.module_name h.name) h.imports

abbrev pub exported_names : List ExportTree → List (List ℕ)
exported_names es = map (λ e. e.name) es

-- a module doesn't import itself, and declares a name once
abbrev pub is_right : HeadTree → Bool
is_right h = not (imports_itself h) && are_distinct (exported_names h.exports)

abbrev pub righted : Option HeadTree → Option HeadTree
righted None = None
righted (Some h) = if is_right h then Some h else None

abbrev pub headed : Option (List ℕ) → Plains → Option HeadTree
headed None ds = None
headed (Some name) ds = righted (clauses name ds)

abbrev pub head_of : Plain → Option HeadTree
head_of (Listed (more word (more name ds))) = if says (symbol_of word) (codes "module") then headed (name_of name) ds else None
head_of _ = None
