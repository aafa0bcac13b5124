-- What a source says by itself: its head, its definitions and its other forms, where each function of another module stands for its place among those that are called, in order of first use.
use Rattle.std.specs.Prelude.{ℕ, suc, ◌+◌, List, [], ◌∷◌, ◌++◌, map, length, codes, nat_eq, Bool, true, false, not, ◌&&◌, if◌then◌else◌, Option, Some, None}
use Rattle.std.specs.List.{list_all, list_any}
use Rattle.scheme_data.specs.Names.{is_same, are_distinct}
use Rattle.scheme_data.specs.Data.{Plain, Number, Truth, Symbol, Listed, Plains, none, more}
use Rattle.built_table.specs.declared.primitives.Primitive.{Primitive as Builtin}
use Rattle.built_table.specs.Table.{prim_named, params_of}
use Rattle.name_table.specs.Names.{has_name, place_of}
use Rattle.iface_text.specs.declared.interface.Row.{Row}
use Rattle.iface_text.specs.Format.{IfaceTree}
use Rattle.iface_text.specs.Lines.{untyped_row}
use Rattle.resolver.specs.BuiltHeads.{ImportTree, ExportTree, HeadTree, is_word, symbol_of, says, onto, head_of}
use Rattle.core_tree.specs.declared.tree.Const.TheVariants.{Int, Bool as Boolean}
use Rattle.core_tree.specs.declared.tree.VarId.{VarId}
use Rattle.core_tree.specs.declared.tree.GlobalRef.{GlobalRef}
use Rattle.core_tree.specs.declared.tree.GlobalRef.TheVariants.{Own, Used}
use Rattle.core_tree.specs.Tree.{Tree, Constant, Variable, If, Sequence, Call, Primitive, Trees, FunctionTree}
use Rattle.core_tree.specs.Tree as tree
use Rattle.resolver.specs.Names.{is_primitive_name, is_special, is_defined_name, is_bound_name}
use Rattle.resolver.specs.Firsts.{firsts}

-- Expressions -------------------------------------------------------------------------------

abbrev pub count : Plains → ℕ
count none = 0
count (more d ds) = 1 + count ds

-- what an expression of a function sees: the functions of the module in source order, those of other modules that it calls in order of first use, the function's parameters, the number of its first parameter, and whether it is the main function
pub record Scope : Type 0 where
  pub functions : List (List ℕ)
  pub outside : List (List ℕ)
  pub params : List (List ℕ)
  pub first : ℕ
  pub in_main : Bool

abbrev pub numbered : Bool → ℕ → Option ℕ → Option Tree
numbered in_main first None = None
numbered true first (Some n) = None
numbered false first (Some n) = Some (Variable (record { 0 = first + n }))

-- a parameter's value; the argument list of the main function is none yet
abbrev pub variable : Scope → Option (List ℕ) → Option Tree
variable scope None = None
variable scope (Some name) = numbered scope.in_main scope.first (place_of name scope.params)

-- the primitive, where it takes so many arguments
abbrev pub taking : ℕ → Option Builtin → Option Builtin
taking args None = None
taking args (Some p) = if nat_eq args (length (params_of p)) then Some p else None

-- what stands first in a form: the word `if`, a function of this or another module, or a primitive
pub data Operator : Type 0 where
  Branch : Operator
  Function : GlobalRef → Operator
  Builtins : Builtin → Operator

abbrev pub primitive_operator : Option Builtin → Option Operator
primitive_operator None = None
primitive_operator (Some p) = Some (Builtins p)

abbrev pub outside_operator : ℕ → List ℕ → Option ℕ → Option Operator
outside_operator args name (Some n) = Some (Function (Used n))
outside_operator args name None = primitive_operator (taking args (prim_named name))

abbrev pub global_operator : Scope → ℕ → List ℕ → Option ℕ → Option Operator
global_operator scope args name (Some n) = Some (Function (Own n))
global_operator scope args name None = outside_operator args name (place_of name scope.outside)

abbrev pub unless_bound : Option ℕ → Option Operator → Option Operator
unless_bound (Some n) o = None
unless_bound None o = o

-- of the words of special forms, `if` alone is built
abbrev pub unless_special : List ℕ → Option Operator → Option Operator
unless_special name o = if is_word name (codes "if") then Some Branch else (if is_special name then None else o)

-- the operator of a name: no parameter, and first the special forms, then the functions of the module, those of other modules, and the primitives
abbrev pub operator : Scope → ℕ → Option (List ℕ) → Option Operator
operator scope args None = None
operator scope args (Some name) = unless_bound (place_of name scope.params) (unless_special name (global_operator scope args name (place_of name scope.functions)))

-- an `if` has three parts
abbrev pub branched : Trees → Option Tree
branched (tree.more a (tree.more b (tree.more c tree.none))) = Some (If a b c)
branched _ = None

abbrev pub applied : Option Operator → Option Trees → Option Tree
applied None ts = None
applied (Some o) None = None
applied (Some Branch) (Some ts) = branched ts
applied (Some (Function g)) (Some ts) = Some (Call g ts)
applied (Some (Builtins p)) (Some ts) = Some (Primitive p ts)

abbrev pub onto_trees : Option Tree → Option Trees → Option Trees
onto_trees None ts = None
onto_trees (Some t) None = None
onto_trees (Some t) (Some ts) = Some (tree.more t ts)

module _ (scope : Scope) where
  -- a number or a truth value, a parameter, an `if`, or a call by name; no other constant is one yet
  abbrev mutual
    pub expression : Plain → Option Tree
    expression (Number n) = Some (Constant (Int n))
    expression (Truth b) = Some (Constant (Boolean b))
    expression (Symbol name mark) = variable scope (Some name)
    expression (Listed none) = None
    expression (Listed (more d ds)) = applied (operator scope (count ds) (symbol_of d)) (expressions ds)
    expression _ = None

    -- all of them, where each is an expression
    pub expressions : Plains → Option Trees
    expressions none = Some tree.none
    expressions (more d ds) = onto_trees (expression d) (expressions ds)

abbrev pub non_empty : Option Trees → Option Tree
non_empty None = None
non_empty (Some tree.none) = None
non_empty (Some (tree.more t ts)) = Some (Sequence (tree.more t ts))

-- one expression or more
abbrev pub body : Scope → Plains → Option Tree
body scope ds = non_empty (expressions scope ds)

-- Forms -------------------------------------------------------------------------------------

-- the name and the parameters of `(g x ...)`, and the body
pub record Definition : Type 0 where
  pub name : List ℕ
  pub params : List (List ℕ)
  pub body : Plains

abbrev pub onto_names : Option (List ℕ) → Option (List (List ℕ)) → Option (List (List ℕ))
onto_names None names = None
onto_names (Some x) None = None
onto_names (Some x) (Some xs) = if is_bound_name x then Some (x ∷ xs) else None

-- names that may be bound
abbrev pub names : Plains → Option (List (List ℕ))
names none = Some []
names (more d ds) = onto_names (symbol_of d) (names ds)

abbrev pub named : Option (List ℕ) → Option (List (List ℕ)) → Plains → Option Definition
named (Some f) (Some xs) ds = if is_defined_name f && are_distinct xs then Some (record { name = f; params = xs; body = ds }) else None
named _ _ ds = None

abbrev pub prototype : Plain → Plains → Option Definition
prototype (Listed (more f xs)) ds = named (symbol_of f) (names xs) ds
prototype _ ds = None

abbrev pub definition : Plain → Option Definition
definition (Listed (more word (more d ds))) = if says (symbol_of word) (codes "define") then prototype d ds else None
definition _ = None

-- a top-level form: a definition, or an expression
pub data TopForm : Type 0 where
  Defines : Definition → TopForm
  Evaluates : Plain → TopForm

-- a form that begins with the word `define` is a definition, and all others are expressions
abbrev pub begins_definition : Plain → Bool
begins_definition (Listed (more word ds)) = says (symbol_of word) (codes "define")
begins_definition _ = false

abbrev pub defining : Option Definition → Option TopForm
defining None = None
defining (Some d) = Some (Defines d)

abbrev pub top_form : Plain → Option TopForm
top_form d = if begins_definition d then defining (definition d) else Some (Evaluates d)

-- the top-level forms, in source order
abbrev pub tops : Plains → Option (List TopForm)
tops none = Some []
tops (more d ds) = onto (top_form d) (tops ds)

abbrev pub definitions_in : List TopForm → List Definition
definitions_in [] = []
definitions_in (Defines d ∷ ts) = d ∷ definitions_in ts
definitions_in (Evaluates d ∷ ts) = definitions_in ts

abbrev pub evaluated_in : List TopForm → Plains
evaluated_in [] = none
evaluated_in (Defines d ∷ ts) = evaluated_in ts
evaluated_in (Evaluates d ∷ ts) = more d (evaluated_in ts)

-- variables are numbered through the module, in source order
abbrev pub variables : ℕ → List (List ℕ) → List VarId
variables first [] = []
variables first (x ∷ xs) = record { 0 = first } ∷ variables (suc first) xs

abbrev pub defined : ℕ → Definition → Option Tree → Option FunctionTree
defined first d None = None
defined first d (Some t) = Some (record { name = d.name; params = variables first d.params; body = t })

-- the functions of the definitions, in a module with these functions, which calls these of other modules
module _ (all outside : List (List ℕ)) (main : Option (List ℕ)) where
  abbrev pub scope_of : ℕ → Definition → Scope
  scope_of first d = record { functions = all; outside = outside; params = d.params; first = first; in_main = says main d.name }

  abbrev pub functions : ℕ → List Definition → Option (List FunctionTree)
  functions first [] = Some []
  functions first (d ∷ ds) = onto (defined first d (body (scope_of first d) d.body)) (functions (first + length d.params) ds)

-- what the expressions among the top-level forms see: no parameters
abbrev pub top_scope : List (List ℕ) → List (List ℕ) → Scope
top_scope all outside = record { functions = all; outside = outside; params = []; first = 0; in_main = false }

abbrev pub function_names : List Definition → List (List ℕ)
function_names ds = map (λ d. d.name) ds

-- Functions of other modules ----------------------------------------------------------------

abbrev pub imported_names : List ImportTree → List (List ℕ)
imported_names [] = []
imported_names (i ∷ is) = i.names ++ imported_names is

-- in a module with these imported names and these functions, below these parameters
module _ (imported all params : List (List ℕ)) where
  -- the name that stands first in a form is that of another module's function
  abbrev pub is_outside : List ℕ → Bool
  is_outside name = (not (has_name params name) && not (is_special name)) && (not (has_name all name) && has_name imported name)

  abbrev pub outside_name : Option (List ℕ) → List (List ℕ)
  outside_name None = []
  outside_name (Some name) = if is_outside name then name ∷ [] else []

  abbrev mutual
    -- such names, as they stand in a form from left to right
    pub outside_in : Plain → List (List ℕ)
    outside_in (Listed (more d ds)) = outside_name (symbol_of d) ++ outside_in_all ds
    outside_in _ = []

    pub outside_in_all : Plains → List (List ℕ)
    outside_in_all none = []
    outside_in_all (more d ds) = outside_in d ++ outside_in_all ds

-- and as they stand in the top-level forms, in source order
abbrev pub outside_in_tops : List (List ℕ) → List (List ℕ) → List TopForm → List (List ℕ)
outside_in_tops imported all [] = []
outside_in_tops imported all (Defines d ∷ ts) = outside_in_all imported all d.params d.body ++ outside_in_tops imported all ts
outside_in_tops imported all (Evaluates d ∷ ts) = outside_in imported all [] d ++ outside_in_tops imported all ts

-- the names of other modules' functions that are called, in order of first use
abbrev pub outside_of : HeadTree → List TopForm → List (List ℕ)
outside_of h ts = firsts is_same (outside_in_tops (imported_names h.imports) (function_names (definitions_in ts)) ts)

-- Sources -----------------------------------------------------------------------------------

abbrev pub definition_named : List Definition → List ℕ → Option Definition
definition_named [] name = None
definition_named (d ∷ ds) name = if is_word d.name name then Some d else definition_named ds name

abbrev pub takes_as_many : ℕ → Option Definition → Bool
takes_as_many n None = false
takes_as_many n (Some d) = nat_eq (length d.params) n

-- an exported function is defined with as many parameters
abbrev pub is_there : List Definition → ExportTree → Bool
is_there ds e = takes_as_many e.count (definition_named ds e.name)

-- the main function, if there is one, is defined with one parameter
abbrev pub has_main : Option (List ℕ) → List Definition → Bool
has_main None ds = true
has_main (Some f) ds = takes_as_many 1 (definition_named ds f)

-- no primitive is imported, no function is defined twice, and those that the head names are there
abbrev pub agrees : HeadTree → List Definition → Bool
agrees h ds = (not (list_any is_primitive_name (imported_names h.imports)) && are_distinct (function_names ds)) && (list_all (is_there ds) h.exports && has_main h.main ds)

pub record Draft : Type 0 where
  pub head : HeadTree
  pub outside : List (List ℕ)
  pub functions : List FunctionTree
  pub forms : Trees

abbrev pub draft_with : HeadTree → List (List ℕ) → Option (List FunctionTree) → Option Trees → Option Draft
draft_with h outside (Some fs) (Some ts) = Some (record { head = h; outside = outside; functions = fs; forms = ts })
draft_with h outside _ _ = None

-- in a module with these functions, which calls these of other modules
abbrev pub draft_in : HeadTree → List (List ℕ) → List (List ℕ) → List TopForm → Option Draft
draft_in h all outside ts = draft_with h outside (functions all outside h.main 0 (definitions_in ts)) (expressions (top_scope all outside) (evaluated_in ts))

abbrev pub draft_of : Option HeadTree → Option (List TopForm) → Option Draft
draft_of (Some h) (Some ts) = if agrees h (definitions_in ts) then draft_in h (function_names (definitions_in ts)) (outside_of h ts) ts else None
draft_of _ _ = None

unfoldable pub draft : Plains → Option Draft
draft none = None
draft (more d ds) = draft_of (head_of d) (tops ds)

-- Exports -----------------------------------------------------------------------------------

-- a row for each function that is exported, in clause order
abbrev pub exported_rows : HeadTree → List Row
exported_rows h = map (λ e. untyped_row e.name e.count) h.exports

abbrev pub interface_of : Option Draft → Option IfaceTree
interface_of None = None
interface_of (Some d) = Some (record { module_name = d.head.name; rows = exported_rows d.head })

-- the interface of a source, which nothing but the source decides
abbrev pub exported : Plains → Option IfaceTree
exported forms = interface_of (draft forms)
