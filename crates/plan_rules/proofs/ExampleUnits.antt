-- Small modules and units, and what examples of translations share.
use Rattle.std.proofs.Common.{◌≡◌, ℕ, List, [], ◌∷◌, ◌++◌, Bool, true, Some, refl, sym, subst}
use Rattle.std.specs.Prelude.{codes, pos, replicate, slice_get}
use Rattle.std.proofs.lemmas.Option.{slice_get_within, get_or_from_slice_get}
use Rattle.built_table.specs.declared.primitives.Primitive.TheVariants.{Add, Less, Display, Newline}
use Rattle.core_tree.specs.declared.tree.Const.TheVariants.{Int, Bool as Truth}
use Rattle.core_tree.specs.declared.tree.GlobalRef.TheVariants.{Own}
use Rattle.core_tree.specs.declared.tree.VarId.{VarId}
use Rattle.core_tree.specs.Tree.{Tree, Constant, Variable, Sequence, Call, Primitive, Trees, none, more, FunctionTree, ModuleTree, Callee, own_callee}
use Rattle.c_tree.specs.declared.op.Op.{Op}
use Rattle.c_tree.specs.declared.op.Op.TheVariants.{BoxLong, BoxBool}
use Rattle.c_tree.specs.Operations.{primitive_op}
use Rattle.c_tree.specs.declared.tree.CTy.{CTy}
use Rattle.c_tree.specs.declared.tree.CTy.TheVariants.{Obj}
use Rattle.c_tree.specs.declared.tree.CArg.{CArg}
use Rattle.c_tree.specs.declared.tree.CArg.TheVariants as arg
use Rattle.c_tree.specs.declared.tree.CAtom.TheVariants as atom
use Rattle.c_tree.specs.declared.tree.CExpr.{CExpr}
use Rattle.c_tree.specs.declared.tree.CExpr.TheVariants as expr
use Rattle.c_tree.specs.declared.tree.CVar.{CVar}
use Rattle.c_tree.specs.Code.{Code, done, return, loop, Fun, Item, declared, defined}
use Rattle.c_tree.specs.Names.{function_name, maker_name, initializer_name}
use Rattle.c_tree.specs.Spelling.{NamedItems}
use Rattle.plan_rules.specs.declared.rep.Rep.TheVariants as rep
use Rattle.plan_rules.specs.Joined.{Part, joined}
use Rattle.plan_rules.specs.Representation.{PlainAt, operation, call_of, local}
use Rattle.plan_rules.specs.Translation.{Name, back, Tr, TrAllUnused, TrFunction, TrFunctions, callees, c_name_of, IsDeclared, is_sound_with, Translated}

abbrev pub int : ℕ → Tree
int n = Constant (Int (pos n))

abbrev pub truth : Bool → Tree
truth b = Constant (Truth b)

abbrev pub sum_of : Tree → Tree → Tree
sum_of a b = Primitive Add (more a (more b none))

abbrev pub less_of : Tree → Tree → Tree
less_of a b = Primitive Less (more a (more b none))

abbrev pub shown : Tree → Tree
shown t = Primitive Display (more t none)

abbrev pub line_end : Tree
line_end = Primitive Newline none

abbrev pub f_name : Name
f_name = codes "f"

abbrev pub go_name : Name
go_name = codes "go"

abbrev pub x0 : Name
x0 = codes "x0"

abbrev pub x1 : Name
x1 = codes "x1"

abbrev pub x2 : Name
x2 = codes "x2"

abbrev pub x3 : Name
x3 = codes "x3"

abbrev pub x4 : Name
x4 = codes "x4"

abbrev pub x5 : Name
x5 = codes "x5"

abbrev pub x6 : Name
x6 = codes "x6"

abbrev pub x7 : Name
x7 = codes "x7"

abbrev pub number : ℕ → CArg
number n = arg.Atom (atom.Int (pos n))

abbrev pub calls : Op → List CArg → CExpr
calls op args = expr.Call (operation op args)

abbrev pub var : CTy → Name → CVar
var t x = record { ty = t; name = x }

abbrev pub plus : Name → Name → CExpr
plus a b = calls (primitive_op Add) (local a ∷ local b ∷ [])

abbrev pub is_less : Name → Name → CExpr
is_less a b = calls (primitive_op Less) (local a ∷ local b ∷ [])

abbrev pub boxed : Name → CExpr
boxed x = calls BoxLong (local x ∷ [])

abbrev pub boxed_truth : Name → CExpr
boxed_truth x = calls BoxBool (local x ∷ [])

abbrev pub a_number : ℕ → CExpr
a_number n = expr.Atom (atom.Int (pos n))

abbrev pub a_word : ℕ → CExpr
a_word n = calls BoxLong (number n ∷ [])

abbrev pub variable : ℕ → Tree
variable n = Variable (record { 0 = n })

-- a body of one expression
abbrev pub only : Tree → Tree
only t = Sequence (more t none)

-- the module's calls are of its first function
abbrev pub call_first : Trees → Tree
call_first ts = Call (Own 0) ts

abbrev pub a_local : Name → CExpr
a_local x = expr.Atom (atom.Name x)

abbrev pub calls_in : Name → Name → List CArg → CExpr
calls_in module_name name args = expr.Call (call_of (function_name module_name name) args)

abbrev pub calls_function : Name → List CArg → CExpr
calls_function name args = calls_in (codes "hello") name args

-- `(define (NAME PARAMS) BODY)`
abbrev pub function : Name → List VarId → Tree → FunctionTree
function name params body = record { name = name; params = params; body = body }

-- `(module hello (main go)) (define (go args) BODY)`, below other functions
abbrev pub below : List FunctionTree → Tree → ModuleTree
below others body = record { name = codes "hello"; imports = []; uses = []; exports = []; forms = none; functions = others ++ function go_name (record { 0 = 0 } ∷ []) body ∷ []; main = Some go_name }

abbrev pub hello : Tree → ModuleTree
hello body = below [] body

-- `obj f_MODULE__NAME(obj x0) { LOCALS L0: for (;;) { CODE } }`
abbrev pub definition : Name → Name → List CVar → Code → Fun
definition module_name name locals code = record { result = Obj; name = function_name module_name name; params = var Obj x0 ∷ []; locals = locals; code = loop (codes "L0") code done }

-- `obj f_hello__NAME(obj x0) { LOCALS L0: for (;;) { CODE } }`
abbrev pub one_word : Name → List CVar → Code → Fun
one_word name locals code = definition (codes "hello") name locals code

-- `return BGL_UNSPEC;`
abbrev pub unspecified : Code
unspecified = return (expr.Atom atom.Unspec) done

-- `obj NAME(void) { LOCALS CODE }`
abbrev pub straight : Name → List CVar → Code → Fun
straight name locals code = record { result = Obj; name = name; params = []; locals = locals; code = code }

-- the maker of a module, and its initialisation with these locals and statements
abbrev pub last_items : Name → List CVar → Code → List Item
last_items m locals code = defined (straight (maker_name m) [] unspecified) ∷ defined (straight (initializer_name m) locals code) ∷ []

-- those of a module without forms
abbrev pub empties : Name → List Item
empties m = last_items m [] unspecified

abbrev pub unit : List CVar → Code → List Item
unit locals code = defined (one_word go_name locals code) ∷ empties (codes "hello")

abbrev pub part : Name → List Item → Part
part m items = record { module_name = m; items = items }

-- the main function of a module
abbrev pub go_of : Name → Callee
go_of m = record { module_name = m; name = go_name; params = 1 }

-- a unit of `hello` alone
abbrev pub linked : List Item → List Item
linked items = joined (part (codes "hello") items ∷ []) (go_of (codes "hello"))

-- the body of a function of one parameter
abbrev pub Body : ModuleTree → List CVar → Tree → Code → Type 0
Body m locals body code = Tr m ((record { 0 = 0 }, PlainAt rep.Obj x0) ∷ []) (var Obj x0 ∷ locals) (Sequence (more body none)) rep.Obj (x0 ∷ []) back code done

pub function_so : {m : ModuleTree} {name : Name} {locals : List CVar} {body : Tree} {code : Code} → Body m locals body code → TrFunction m (function name (record { 0 = 0 } ∷ []) body) (definition m.name name locals code)
function_so translated = record { name = refl; result = refl; params = refl; label = _; body = _; looped = refl; translated = translated }

-- the maker and the initialisation, with the forms of the module
pub forms_so : {m : ModuleTree} {locals : List CVar} {code : Code} → TrAllUnused m [] locals m.forms [] code unspecified → TrFunctions m [] (last_items m.name locals code)
forms_so translated = (record { named = refl; result = refl; params = refl; locals = refl; code = refl }, (record { named = refl; result = refl; params = refl; translated = translated }, tt))

pub empties_so : {m : ModuleTree} → m.forms ≡ none → TrFunctions m [] (empties m.name)
unfolding TrAllUnused
empties_so {m = m} e = forms_so (subst (λ ts. TrAllUnused m [] [] ts [] unspecified unspecified) (sym e) refl)

pub translated_so : {locals : List CVar} {body : Tree} {code : Code} → Body (hello body) locals body code → NamedItems (unit locals code) → is_sound_with [] (unit locals code) ≡ true → Translated (hello body) (unit locals code)
translated_so translated named sound =
    record { functions = (function_so translated, empties_so refl); declarations = tt; named = named; sound = sound }

-- the declaration of a function that may be called
pub declared_so : (cs : List Callee) (k : ℕ) (c : Callee) → slice_get cs k ≡ Some c → IsDeclared cs Obj (c_name_of c) (replicate c.params Obj)
declared_so cs k c at = record { callee = c; is_one = (k, slice_get_within cs k c at, get_or_from_slice_get cs k c c at); named = refl; gives = refl; takes = refl }

-- `(module hello (main go)) (define (f n) OWN) (define (go args) BODY)`
abbrev pub recursive : Tree → Tree → ModuleTree
recursive own body = below (function f_name (record { 0 = 0 } ∷ []) own ∷ []) body

-- its unit, in which `f` is declared before its definition
abbrev pub recursive_unit : List CVar → Code → List CVar → Code → List Item
recursive_unit own_locals own_code locals code = declared Obj (function_name (codes "hello") f_name) (Obj ∷ []) ∷ defined (one_word f_name own_locals own_code) ∷ unit locals code

pub recursive_so : {own body : Tree} {own_locals locals : List CVar} {own_code code : Code} → Body (recursive own body) own_locals own own_code → Body (recursive own body) locals body code
    → NamedItems (recursive_unit own_locals own_code locals code) → is_sound_with [] (recursive_unit own_locals own_code locals code) ≡ true → Translated (recursive own body) (recursive_unit own_locals own_code locals code)
recursive_so {own = own} {body = body} own_translated translated named sound =
    record { functions = (function_so own_translated, (function_so translated, empties_so refl)); declarations = (declared_so (callees (recursive own body)) 0 (own_callee (codes "hello") (function f_name (record { 0 = 0 } ∷ []) own)) refl, tt); named = named; sound = sound }
