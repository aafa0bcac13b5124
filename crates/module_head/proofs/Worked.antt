-- Worked rows: heads, and the first breaches of heads.
use Rattle.std.specs.Prelude.{◌≡◌, ℕ, List, [], ◌∷◌, codes, Option, Some, None, refl}
use Rattle.scheme_data.specs.Forms.{Form, atom, symbol, listed, dotted, forms, text}
use Rattle.scheme_data.specs.declared.datum.Place.{Place}
use Rattle.prim_table.specs.declared.types.Ty.{Ty}
use Rattle.prim_table.specs.declared.types.Ty.TheVariants.{Obj, Long, Char, Bool, Pair, Vector, Bstring, Symbol, Procedure}
use Rattle.module_head.specs.declared.head.Head.{Head}
use Rattle.module_head.specs.declared.head.Entry.{Entry}
use Rattle.module_head.specs.declared.head.EntryKind.TheVariants.{Var, Fun, Inline}
use Rattle.module_head.specs.declared.head.Param.{Param}
use Rattle.module_head.specs.Heads.{Outcome, right, wrong_at_first, header, duplicate, head_of}

-- Data on the first line ------------------------------------------------------------------------

abbrev place : ℕ → Place
place column = record { line = 1; column = column }

-- a symbol with a mark, which says nothing
abbrev sym_at : ℕ → List ℕ → Form
sym_at column x = symbol (place column) x 7

abbrev list_at : ℕ → List Form → Form
list_at column ds = listed (place column) (forms ds)

abbrev string_at : ℕ → List ℕ → Form
string_at column s = atom (place column) (text s)

-- `(module m clause ...)`
abbrev module_m : List Form → Form
module_m ds = list_at 1 (sym_at 2 (codes "module") ∷ sym_at 9 (codes "m") ∷ ds)

abbrev outcome : List Form → Outcome
outcome ds = head_of (Some (module_m ds))

abbrev clause_at : ℕ → List ℕ → List Form → Form
clause_at column word ds = list_at column (sym_at column word ∷ ds)

abbrev header_at : ℕ → Outcome
header_at column = wrong_at_first (header (place column))

abbrev twice : List ℕ → Outcome
twice x = wrong_at_first (duplicate x)

abbrev bare : Head
bare = record { name = codes "m"; imports = []; exports = []; statics = []; externs = []; main = None }

abbrev var_at : ℕ → List ℕ → Option Ty → Entry
var_at column x t = record { at = place column; kind = Var; name = x; ty = t; params = [] }

abbrev param_at : ℕ → List ℕ → Option Ty → Param
param_at column x t = record { at = place column; name = x; ty = t }

-- Right heads -----------------------------------------------------------------------------------

-- (module m)
no_clause : outcome [] ≡ right bare
no_clause = refl

-- clauses without items
empty_clauses : outcome (clause_at 11 (codes "import") [] ∷ clause_at 21 (codes "export") [] ∷ clause_at 31 (codes "static") [] ∷ clause_at 41 (codes "extern") [] ∷ []) ≡ right bare
empty_clauses = refl

-- (import a (x b::c d))
imports_are_read :
    outcome (clause_at 11 (codes "import") (sym_at 21 (codes "a") ∷ list_at 31 (sym_at 32 (codes "x") ∷ sym_at 34 (codes "b::c") ∷ sym_at 39 (codes "d") ∷ []) ∷ []) ∷ [])
    ≡ right (record bare {
      imports = record { at = place 21; module_name = codes "a"; names = None }
          ∷ record { at = place 31; module_name = codes "d"; names = Some (codes "x" ∷ codes "b::c" ∷ []) } ∷ [];
    })
imports_are_read = refl

-- (export x::long (f::obj y z::pair)) (static (inline g y y)) (export (h)): a parameter may stand twice
entries_are_read :
    outcome (clause_at 11 (codes "export") (sym_at 21 (codes "x::long") ∷ list_at 31 (sym_at 32 (codes "f::obj") ∷ sym_at 39 (codes "y") ∷ sym_at 41 (codes "z::pair") ∷ []) ∷ [])
    ∷ clause_at 51 (codes "static") (list_at 61 (sym_at 62 (codes "inline") ∷ sym_at 69 (codes "g") ∷ sym_at 71 (codes "y") ∷ sym_at 73 (codes "y") ∷ []) ∷ [])
    ∷ clause_at 81 (codes "export") (list_at 91 (sym_at 92 (codes "h") ∷ []) ∷ []) ∷ [])
    ≡ right (record bare {
      exports = var_at 21 (codes "x") (Some Long)
          ∷ record { at = place 31; kind = Fun; name = codes "f"; ty = Some Obj; params = param_at 39 (codes "y") None ∷ param_at 41 (codes "z") (Some Pair) ∷ [] }
          ∷ record { at = place 91; kind = Fun; name = codes "h"; ty = None; params = [] } ∷ [];
      statics = record { at = place 61; kind = Inline; name = codes "g"; ty = None; params = param_at 71 (codes "y") None ∷ param_at 73 (codes "y") None ∷ [] } ∷ [];
    })
entries_are_read = refl

-- (export (inline) (inline::long x)): a function of this name
functions_called_inline :
    outcome (clause_at 11 (codes "export") (list_at 21 (sym_at 22 (codes "inline") ∷ []) ∷ []) ∷ [])
    ≡ right (record bare { exports = record { at = place 21; kind = Fun; name = codes "inline"; ty = None; params = [] } ∷ [] })
functions_called_inline = refl

functions_called_inline_with_a_type :
    outcome (clause_at 11 (codes "export") (list_at 21 (sym_at 22 (codes "inline::long") ∷ sym_at 35 (codes "x") ∷ []) ∷ []) ∷ [])
    ≡ right (record bare { exports = record { at = place 21; kind = Fun; name = codes "inline"; ty = Some Long; params = param_at 35 (codes "x") None ∷ [] } ∷ [] })
functions_called_inline_with_a_type = refl

-- each type
each_type :
    outcome (clause_at 11 (codes "static") (sym_at 20 (codes "a::obj") ∷ sym_at 21 (codes "b::long") ∷ sym_at 22 (codes "c::char") ∷ sym_at 23 (codes "d::bool") ∷ sym_at 24 (codes "e::pair")
    ∷ sym_at 25 (codes "f::vector") ∷ sym_at 26 (codes "g::bstring") ∷ sym_at 27 (codes "h::symbol") ∷ sym_at 28 (codes "i::procedure") ∷ []) ∷ [])
    ≡ right (record bare {
      statics = var_at 20 (codes "a") (Some Obj) ∷ var_at 21 (codes "b") (Some Long) ∷ var_at 22 (codes "c") (Some Char) ∷ var_at 23 (codes "d") (Some Bool)
          ∷ var_at 24 (codes "e") (Some Pair) ∷ var_at 25 (codes "f") (Some Vector) ∷ var_at 26 (codes "g") (Some Bstring) ∷ var_at 27 (codes "h") (Some Symbol) ∷ var_at 28 (codes "i") (Some Procedure) ∷ [];
    })
each_type = refl

-- (extern (and::long (long obj) "bgl_bit_and") (z () "z"))
externs_are_read :
    outcome (clause_at 11 (codes "extern") (list_at 21 (sym_at 22 (codes "and::long") ∷ list_at 32 (sym_at 33 (codes "long") ∷ sym_at 38 (codes "obj") ∷ []) ∷ string_at 43 (codes "bgl_bit_and") ∷ [])
    ∷ list_at 61 (sym_at 62 (codes "z") ∷ list_at 64 [] ∷ string_at 67 (codes "z") ∷ []) ∷ []) ∷ [])
    ≡ right (record bare {
      externs = record { at = place 21; name = codes "and"; ty = Some Long; params = Long ∷ Obj ∷ []; c_name = codes "bgl_bit_and" }
          ∷ record { at = place 61; name = codes "z"; ty = None; params = []; c_name = codes "z" } ∷ [];
    })
externs_are_read = refl

-- (main go::x): the name keeps all of it
main_is_read :
    outcome (clause_at 11 (codes "main") (sym_at 17 (codes "go::x") ∷ []) ∷ []) ≡ right (record bare { main = Some (record { at = place 11; name = codes "go::x" }) })
main_is_read = refl

-- (module m::n)
name_keeps_all_of_it :
    head_of (Some (list_at 1 (sym_at 2 (codes "module") ∷ sym_at 9 (codes "m::n") ∷ []))) ≡ right (record bare { name = codes "m::n" })
name_keeps_all_of_it = refl

-- an import, `main` and a parameter declare nothing
names_that_are_not_declared :
    outcome (clause_at 11 (codes "import") (list_at 21 (sym_at 22 (codes "x") ∷ sym_at 24 (codes "a") ∷ []) ∷ []) ∷ clause_at 31 (codes "main") (sym_at 37 (codes "x") ∷ [])
    ∷ clause_at 41 (codes "export") (list_at 51 (sym_at 52 (codes "f") ∷ sym_at 54 (codes "x") ∷ []) ∷ sym_at 61 (codes "x") ∷ []) ∷ [])
    ≡ right (record bare {
      imports = record { at = place 21; module_name = codes "a"; names = Some (codes "x" ∷ []) } ∷ [];
      exports = record { at = place 51; kind = Fun; name = codes "f"; ty = None; params = param_at 54 (codes "x") None ∷ [] } ∷ var_at 61 (codes "x") None ∷ [];
      main = Some (record { at = place 31; name = codes "x" });
    })
names_that_are_not_declared = refl

-- No module form --------------------------------------------------------------------------------

no_datum : head_of None ≡ header_at 1
no_datum = refl

no_list : head_of (Some (sym_at 4 (codes "module"))) ≡ header_at 4
no_list = refl

-- ()
empty_list : head_of (Some (list_at 4 [])) ≡ header_at 4
empty_list = refl

-- (module)
no_name : head_of (Some (list_at 4 (sym_at 5 (codes "module") ∷ []))) ≡ header_at 4
no_name = refl

-- (module "m")
no_symbol : head_of (Some (list_at 4 (sym_at 5 (codes "module") ∷ string_at 12 (codes "m") ∷ []))) ≡ header_at 4
no_symbol = refl

-- (modul m)
another_word : head_of (Some (list_at 4 (sym_at 5 (codes "modul") ∷ sym_at 11 (codes "m") ∷ []))) ≡ header_at 4
another_word = refl

-- (module m . x)
dotted_form : head_of (Some (dotted (place 4) (forms (sym_at 5 (codes "module") ∷ sym_at 12 (codes "m") ∷ [])) (sym_at 16 (codes "x")))) ≡ header_at 4
dotted_form = refl

-- No clause -------------------------------------------------------------------------------------

-- (exprot x)
no_clause_word : outcome (clause_at 11 (codes "exprot") (sym_at 19 (codes "x") ∷ []) ∷ []) ≡ header_at 11
no_clause_word = refl

-- a symbol, and ()
symbol_for_a_clause : outcome (sym_at 11 (codes "export") ∷ []) ≡ header_at 11
symbol_for_a_clause = refl

empty_clause : outcome (list_at 11 [] ∷ []) ≡ header_at 11
empty_clause = refl

-- (import::long a)
typed_clause_word : outcome (clause_at 11 (codes "import::long") (sym_at 25 (codes "a") ∷ []) ∷ []) ≡ header_at 11
typed_clause_word = refl

-- (export . x)
dotted_clause : outcome (dotted (place 11) (forms (sym_at 12 (codes "export") ∷ [])) (sym_at 21 (codes "x")) ∷ []) ≡ header_at 11
dotted_clause = refl

-- (main), (main f g), (main (f))
main_without_a_name : outcome (clause_at 11 (codes "main") [] ∷ []) ≡ header_at 11
main_without_a_name = refl

main_with_two_names : outcome (clause_at 11 (codes "main") (sym_at 17 (codes "f") ∷ sym_at 19 (codes "g") ∷ []) ∷ []) ≡ header_at 11
main_with_two_names = refl

main_with_a_list : outcome (clause_at 11 (codes "main") (list_at 17 (sym_at 18 (codes "f") ∷ []) ∷ []) ∷ []) ≡ header_at 11
main_with_a_list = refl

-- (main f) (main f)
second_main : outcome (clause_at 11 (codes "main") (sym_at 17 (codes "f") ∷ []) ∷ clause_at 21 (codes "main") (sym_at 27 (codes "f") ∷ []) ∷ []) ≡ header_at 21
second_main = refl

-- No item ---------------------------------------------------------------------------------------

-- (import (a))
import_of_no_name : outcome (clause_at 11 (codes "import") (list_at 19 (sym_at 20 (codes "a") ∷ []) ∷ []) ∷ []) ≡ header_at 19
import_of_no_name = refl

-- (import ())
import_of_nothing : outcome (clause_at 11 (codes "import") (list_at 19 [] ∷ []) ∷ []) ≡ header_at 19
import_of_nothing = refl

-- (import (x "a")), (import ("x" a))
import_of_no_symbol : outcome (clause_at 11 (codes "import") (list_at 19 (sym_at 20 (codes "x") ∷ string_at 22 (codes "a") ∷ []) ∷ []) ∷ []) ≡ header_at 19
import_of_no_symbol = refl

import_of_a_string : outcome (clause_at 11 (codes "import") (list_at 19 (string_at 20 (codes "x") ∷ sym_at 24 (codes "a") ∷ []) ∷ []) ∷ []) ≡ header_at 19
import_of_a_string = refl

-- (import a m), (import a (x m))
import_of_itself : outcome (clause_at 11 (codes "import") (sym_at 19 (codes "a") ∷ sym_at 21 (codes "m") ∷ []) ∷ []) ≡ header_at 21
import_of_itself = refl

import_of_a_name_from_itself : outcome (clause_at 11 (codes "import") (sym_at 19 (codes "a") ∷ list_at 21 (sym_at 22 (codes "x") ∷ sym_at 24 (codes "m") ∷ []) ∷ []) ∷ []) ≡ header_at 21
import_of_a_name_from_itself = refl

-- (export ()), (export x::lang), (static (f x::lang)), (static (f::lang)), (export ::long), (export (f "x")), (export (inline "f"))
entry_of_nothing : outcome (clause_at 11 (codes "export") (list_at 19 [] ∷ []) ∷ []) ≡ header_at 19
entry_of_nothing = refl

variable_of_no_type : outcome (clause_at 11 (codes "export") (sym_at 19 (codes "x::lang") ∷ []) ∷ []) ≡ header_at 19
variable_of_no_type = refl

parameter_of_no_type : outcome (clause_at 11 (codes "static") (list_at 19 (sym_at 20 (codes "f") ∷ sym_at 22 (codes "x::lang") ∷ []) ∷ []) ∷ []) ≡ header_at 19
parameter_of_no_type = refl

function_of_no_type : outcome (clause_at 11 (codes "static") (list_at 19 (sym_at 20 (codes "f::lang") ∷ []) ∷ []) ∷ []) ≡ header_at 19
function_of_no_type = refl

type_of_no_name : outcome (clause_at 11 (codes "export") (sym_at 19 (codes "::long") ∷ []) ∷ []) ≡ header_at 19
type_of_no_name = refl

parameter_that_is_no_symbol : outcome (clause_at 11 (codes "export") (list_at 19 (sym_at 20 (codes "f") ∷ string_at 22 (codes "x") ∷ []) ∷ []) ∷ []) ≡ header_at 19
parameter_that_is_no_symbol = refl

inline_that_is_no_symbol : outcome (clause_at 11 (codes "export") (list_at 19 (sym_at 20 (codes "inline") ∷ string_at 27 (codes "f") ∷ []) ∷ []) ∷ []) ≡ header_at 19
inline_that_is_no_symbol = refl

entry_that_is_no_symbol : outcome (clause_at 11 (codes "export") (string_at 19 (codes "x") ∷ []) ∷ []) ≡ header_at 19
entry_that_is_no_symbol = refl

-- (export (f . x))
dotted_entry : outcome (clause_at 11 (codes "export") (dotted (place 19) (forms (sym_at 20 (codes "f") ∷ [])) (sym_at 24 (codes "x")) ∷ []) ∷ []) ≡ header_at 19
dotted_entry = refl

-- (extern f), (extern (f () c)), (extern (f (lang) "c")), (extern (f::lang () "c")), (extern (f long "c")), (extern (f () "c" "d"))
extern_of_a_symbol : outcome (clause_at 11 (codes "extern") (sym_at 19 (codes "f") ∷ []) ∷ []) ≡ header_at 19
extern_of_a_symbol = refl

c_name_that_is_no_string : outcome (clause_at 11 (codes "extern") (list_at 19 (sym_at 20 (codes "f") ∷ list_at 22 [] ∷ sym_at 25 (codes "c") ∷ []) ∷ []) ∷ []) ≡ header_at 19
c_name_that_is_no_string = refl

extern_parameter_of_no_type : outcome (clause_at 11 (codes "extern") (list_at 19 (sym_at 20 (codes "f") ∷ list_at 22 (sym_at 23 (codes "lang") ∷ []) ∷ string_at 29 (codes "c") ∷ []) ∷ []) ∷ []) ≡ header_at 19
extern_parameter_of_no_type = refl

extern_of_no_type : outcome (clause_at 11 (codes "extern") (list_at 19 (sym_at 20 (codes "f::lang") ∷ list_at 28 [] ∷ string_at 31 (codes "c") ∷ []) ∷ []) ∷ []) ≡ header_at 19
extern_of_no_type = refl

extern_without_a_list : outcome (clause_at 11 (codes "extern") (list_at 19 (sym_at 20 (codes "f") ∷ sym_at 22 (codes "long") ∷ string_at 27 (codes "c") ∷ []) ∷ []) ∷ []) ≡ header_at 19
extern_without_a_list = refl

extern_that_is_too_long : outcome (clause_at 11 (codes "extern") (list_at 19 (sym_at 20 (codes "f") ∷ list_at 22 [] ∷ string_at 25 (codes "c") ∷ string_at 29 (codes "d") ∷ []) ∷ []) ∷ []) ≡ header_at 19
extern_that_is_too_long = refl

-- Names declared twice, and the order of breaches -----------------------------------------------

-- (export x x)
declared_twice_in_a_clause : outcome (clause_at 11 (codes "export") (sym_at 19 (codes "x") ∷ sym_at 21 (codes "x") ∷ []) ∷ []) ≡ twice (codes "x")
declared_twice_in_a_clause = refl

-- (export x::long) (static (x y))
declared_twice_by_two_clauses :
    outcome (clause_at 11 (codes "export") (sym_at 19 (codes "x::long") ∷ []) ∷ clause_at 31 (codes "static") (list_at 39 (sym_at 40 (codes "x") ∷ sym_at 42 (codes "y") ∷ []) ∷ []) ∷ []) ≡ twice (codes "x")
declared_twice_by_two_clauses = refl

-- (static x) (extern (x () "c"))
declared_by_an_extern :
    outcome (clause_at 11 (codes "static") (sym_at 19 (codes "x") ∷ []) ∷ clause_at 31 (codes "extern") (list_at 39 (sym_at 40 (codes "x") ∷ list_at 42 [] ∷ string_at 45 (codes "c") ∷ []) ∷ []) ∷ []) ≡ twice (codes "x")
declared_by_an_extern = refl

-- (extern (x () "c")) (export x)
declared_before_by_an_extern :
    outcome (clause_at 11 (codes "extern") (list_at 19 (sym_at 20 (codes "x") ∷ list_at 22 [] ∷ string_at 25 (codes "c") ∷ []) ∷ []) ∷ clause_at 31 (codes "export") (sym_at 39 (codes "x") ∷ []) ∷ []) ≡ twice (codes "x")
declared_before_by_an_extern = refl

-- (export x x) (exprot y)
duplicate_before_no_clause : outcome (clause_at 11 (codes "export") (sym_at 19 (codes "x") ∷ sym_at 21 (codes "x") ∷ []) ∷ clause_at 31 (codes "exprot") (sym_at 39 (codes "y") ∷ []) ∷ []) ≡ twice (codes "x")
duplicate_before_no_clause = refl

-- (exprot y) (export x x)
no_clause_before_duplicate : outcome (clause_at 11 (codes "exprot") (sym_at 19 (codes "y") ∷ []) ∷ clause_at 31 (codes "export") (sym_at 39 (codes "x") ∷ sym_at 41 (codes "x") ∷ []) ∷ []) ≡ header_at 11
no_clause_before_duplicate = refl

-- (export x (x "y")): a breach of the item itself
wrong_item_of_a_declared_name : outcome (clause_at 11 (codes "export") (sym_at 19 (codes "x") ∷ list_at 21 (sym_at 22 (codes "x") ∷ string_at 24 (codes "y") ∷ []) ∷ []) ∷ []) ≡ header_at 21
wrong_item_of_a_declared_name = refl

-- (export x) (import m) (static x)
itself_before_duplicate :
    outcome (clause_at 11 (codes "export") (sym_at 19 (codes "x") ∷ []) ∷ clause_at 31 (codes "import") (sym_at 39 (codes "m") ∷ []) ∷ clause_at 51 (codes "static") (sym_at 59 (codes "x") ∷ []) ∷ []) ≡ header_at 39
itself_before_duplicate = refl

-- (main f) (static x x) (main f)
duplicate_before_second_main :
    outcome (clause_at 11 (codes "main") (sym_at 17 (codes "f") ∷ []) ∷ clause_at 31 (codes "static") (sym_at 39 (codes "x") ∷ sym_at 41 (codes "x") ∷ []) ∷ clause_at 51 (codes "main") (sym_at 57 (codes "f") ∷ []) ∷ []) ≡ twice (codes "x")
duplicate_before_second_main = refl
