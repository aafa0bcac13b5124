-- Worked rows: what small sources export, and what they take from other modules.
use Rattle.std.specs.Prelude.{◌≡◌, ℕ, List, [], ◌∷◌, codes, pos, Option, Some, None, refl}
use Rattle.std.specs.Option.{option_map}
use Rattle.scheme_data.specs.Data.{Plain, Number, Symbol, Listed, Plains, none, more}
use Rattle.prim_table.specs.Table.{prim_named as named_in_table}
use Rattle.built_table.specs.Table.{prim_named}
use Rattle.iface_text.specs.declared.interface.Row.{Row}
use Rattle.iface_text.specs.Format.{IfaceTree}
use Rattle.iface_text.specs.Lines.{untyped_row}
use Rattle.core_tree.specs.declared.tree.Const.TheVariants.{Int}
use Rattle.core_tree.specs.declared.tree.GlobalRef.TheVariants.{Used}
use Rattle.core_tree.specs.declared.tree.Use.{Use}
use Rattle.core_tree.specs.declared.tree.Use.TheVariants.{From, Need}
use Rattle.core_tree.specs.Tree.{Constant, Call}
use Rattle.core_tree.specs.Tree as tree
use Rattle.resolver.specs.Drafts.{draft, exported}
use Rattle.resolver.specs.Elaboration.{elaborated}

abbrev pub all : List Plain → Plains
all [] = none
all (d ∷ ds) = more d (all ds)

abbrev pub list : List Plain → Plain
list ds = Listed (all ds)

abbrev pub word : List ℕ → Plain
word name = Symbol name 0

-- `(name argument)`
abbrev pub call : List ℕ → Plain → Plain
call name argument = list (word name ∷ argument ∷ [])

-- `(define (name x) body)`
abbrev pub define : List ℕ → Plain → Plain
define name body = list (word (codes "define") ∷ call name (word (codes "x")) ∷ body ∷ [])

-- `(module a (export (f x)))` and `(define (f x) x)`
abbrev pub source_a : Plains
source_a =
    all
    (list (word (codes "module") ∷ word (codes "a") ∷ list (word (codes "export") ∷ call (codes "f") (word (codes "x")) ∷ []) ∷ [])
    ∷ define (codes "f") (word (codes "x"))
    ∷ [])

-- `(module b (import (f g a)))` and `(define (go x) body)`
abbrev pub source_b : Plain → Plains
source_b body =
    all
    (list (word (codes "module") ∷ word (codes "b") ∷ list (word (codes "import") ∷ list (word (codes "f") ∷ word (codes "g") ∷ word (codes "a") ∷ []) ∷ []) ∷ [])
    ∷ define (codes "go") body
    ∷ [])

abbrev pub interface : List Row → IfaceTree
interface rows = record { module_name = codes "a"; rows = rows }

abbrev pub row_f : Row
row_f = untyped_row (codes "f") 1

abbrev pub row_g : Row
row_g = untyped_row (codes "g") 1

-- what the module of `source_b` takes from `a`
abbrev pub uses_of : List IfaceTree → Plain → Option (List Use)
uses_of ifaces body = option_map (λ m. m.uses) (elaborated ifaces (source_b body))

a_row_for_each_export : exported source_a ≡ Some (interface (row_f ∷ []))
unfolding draft prim_named named_in_table
a_row_for_each_export = refl

uses_stand_in_order_of_first_use :
    uses_of (interface (row_f ∷ row_g ∷ []) ∷ []) (call (codes "g") (call (codes "f") (call (codes "g") (Number (pos 1)))))
    ≡ Some (From (codes "a") row_g ∷ From (codes "a") row_f ∷ [])
unfolding draft prim_named named_in_table
uses_stand_in_order_of_first_use = refl

what_is_not_called_is_needed :
    uses_of (interface (row_f ∷ row_g ∷ []) ∷ []) (call (codes "g") (Number (pos 1))) ≡ Some (From (codes "a") row_g ∷ Need (codes "a") row_f ∷ [])
unfolding draft prim_named named_in_table
what_is_not_called_is_needed = refl

an_interface_is_wanted : elaborated [] (source_b (Number (pos 1))) ≡ None
unfolding draft prim_named named_in_table
an_interface_is_wanted = refl

a_row_is_wanted : elaborated (interface (row_f ∷ []) ∷ []) (source_b (Number (pos 1))) ≡ None
unfolding draft prim_named named_in_table
a_row_is_wanted = refl

the_first_interface_of_a_module_counts :
    uses_of (interface (row_f ∷ row_g ∷ []) ∷ interface [] ∷ []) (Number (pos 1)) ≡ Some (Need (codes "a") row_f ∷ Need (codes "a") row_g ∷ [])
unfolding draft prim_named named_in_table
the_first_interface_of_a_module_counts = refl

a_later_interface_is_not_asked : elaborated (interface [] ∷ interface (row_f ∷ row_g ∷ []) ∷ []) (source_b (Number (pos 1))) ≡ None
unfolding draft prim_named named_in_table
a_later_interface_is_not_asked = refl

-- `(module b (import (f g a)))`, `(g 1)`, `(define (go x) (f x))`, and 7
abbrev pub source_with_forms : Plains
source_with_forms =
    all
    (list (word (codes "module") ∷ word (codes "b") ∷ list (word (codes "import") ∷ list (word (codes "f") ∷ word (codes "g") ∷ word (codes "a") ∷ []) ∷ []) ∷ [])
    ∷ call (codes "g") (Number (pos 1))
    ∷ define (codes "go") (call (codes "f") (word (codes "x")))
    ∷ Number (pos 7)
    ∷ [])

forms_stand_in_source_order :
    option_map (λ m. m.forms) (elaborated (interface (row_f ∷ row_g ∷ []) ∷ []) source_with_forms)
    ≡ Some (tree.more (Call (Used 0) (tree.more (Constant (Int (pos 1))) tree.none)) (tree.more (Constant (Int (pos 7))) tree.none))
unfolding draft prim_named named_in_table
forms_stand_in_source_order = refl

forms_use_names_before_later_definitions :
    option_map (λ m. m.uses) (elaborated (interface (row_f ∷ row_g ∷ []) ∷ []) source_with_forms) ≡ Some (From (codes "a") row_g ∷ From (codes "a") row_f ∷ [])
unfolding draft prim_named named_in_table
forms_use_names_before_later_definitions = refl

-- a parameter is no variable of a form
abbrev pub source_with_a_variable : Plains
source_with_a_variable = all (list (word (codes "module") ∷ word (codes "b") ∷ []) ∷ define (codes "go") (word (codes "x")) ∷ word (codes "x") ∷ [])

a_form_has_no_variable : exported source_with_a_variable ≡ None
unfolding draft prim_named named_in_table
a_form_has_no_variable = refl
