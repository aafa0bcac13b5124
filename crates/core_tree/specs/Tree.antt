-- The plain tree of a module, of which every definition speaks.
use Rattle.std.specs.Prelude.{ℕ, suc, List, [], ◌∷◌, find, slice_get, length, Bool, Option, Some, None}
use Rattle.scheme_data.specs.Names.{is_same}
use Rattle.built_table.specs.declared.primitives.Primitive.{Primitive as Builtin}
use Rattle.built_table.specs.declared.primitives.Ty.{Ty}
use Rattle.iface_text.specs.declared.interface.Row.{Row}
use Rattle.iface_text.specs.declared.interface.RowKind.{RowKind}
use Rattle.iface_text.specs.declared.interface.RowKind.TheVariants.{Fun}
use Rattle.core_tree.specs.declared.tree.Const.{Const}
use Rattle.core_tree.specs.declared.tree.VarId.{VarId}
use Rattle.core_tree.specs.declared.tree.GlobalRef.{GlobalRef}
use Rattle.core_tree.specs.declared.tree.GlobalRef.TheVariants.{Own, Used}
use Rattle.core_tree.specs.declared.tree.Node.{Node, fold-Node}
use Rattle.core_tree.specs.declared.tree.Node.TheOpen.{Node-F}
use Rattle.core_tree.specs.declared.tree.Lambda.{Lambda}
use Rattle.core_tree.specs.declared.tree.Top.{Top}
use Rattle.core_tree.specs.declared.tree.Top.TheVariants.{Function, Form}
use Rattle.core_tree.specs.declared.tree.ImportItem.{ImportItem}
use Rattle.core_tree.specs.declared.tree.Use.{Use}
use Rattle.core_tree.specs.declared.tree.Use.TheVariants.{From, Need}
use Rattle.core_tree.specs.declared.tree.Module.{Module}

mutual
  pub data Tree : Type 0 where
    Constant : Const → Tree
    Variable : VarId → Tree
    If : Tree → Tree → Tree → Tree
    Sequence : Trees → Tree
    Call : GlobalRef → Trees → Tree
    Primitive : Builtin → Trees → Tree

  pub data Trees : Type 0 where
    none : Trees
    more : Tree → Trees → Trees

abbrev pub trees : List Tree → Trees
trees [] = none
trees (t ∷ ts) = more t (trees ts)

-- one layer, its parts being done
abbrev pub layer : Node-F Tree → Tree
layer (Node-F.Constant c) = Constant c
layer (Node-F.Variable x) = Variable x
layer (Node-F.If a b c) = If a b c
layer (Node-F.Sequence ts) = Sequence (trees ts)
layer (Node-F.Call g ts) = Call g (trees ts)
layer (Node-F.Primitive p ts) = Primitive p (trees ts)

abbrev pub tree : Node → Tree
tree n = fold-Node Tree layer n

-- a top-level function: its name, its parameters, its body
pub record FunctionTree : Type 0 where
  pub name : List ℕ
  pub params : List VarId
  pub body : Tree

-- a module: its functions, and the expressions among its top-level forms, both in source order
pub record ModuleTree : Type 0 where
  pub name : List ℕ
  pub imports : List ImportItem
  pub functions : List FunctionTree
  pub forms : Trees
  pub uses : List Use
  pub exports : List Row
  pub main : Option (List ℕ)

abbrev pub function_tree : List ℕ → Lambda → FunctionTree
function_tree name lambda = record { name = name; params = lambda.params; body = tree lambda.body }

abbrev pub functions_in : List Top → List FunctionTree
functions_in [] = []
functions_in (Function name lambda ∷ tops) = function_tree name lambda ∷ functions_in tops
functions_in (Form n ∷ tops) = functions_in tops

abbrev pub forms_in : List Top → Trees
forms_in [] = none
forms_in (Function name lambda ∷ tops) = forms_in tops
forms_in (Form n ∷ tops) = more (tree n) (forms_in tops)

abbrev pub module_tree : Module → ModuleTree
module_tree m = record { name = m.name; imports = m.imports; functions = functions_in m.tops; forms = forms_in m.tops; uses = m.uses; exports = m.exports; main = m.main }

-- Look-up -----------------------------------------------------------------------------------

abbrev pub is_called : List ℕ → FunctionTree → Bool
is_called name f = is_same f.name name

-- the function of a name
abbrev pub function_named : List FunctionTree → List ℕ → Option FunctionTree
function_named functions name = find (is_called name) functions

-- Callees -----------------------------------------------------------------------------------

-- the types of the parameters in a row
abbrev pub params_in : RowKind → List Ty
params_in (Fun params gives) = params

-- a function that a call may name: its module, its name, and how many parameters it has
pub record Callee : Type 0 where
  pub module_name : List ℕ
  pub name : List ℕ
  pub params : ℕ

abbrev pub own_callee : List ℕ → FunctionTree → Callee
own_callee m f = record { module_name = m; name = f.name; params = length f.params }

abbrev pub row_callee : List ℕ → Row → Callee
row_callee m r = record { module_name = m; name = r.name; params = length (params_in r.kind) }

abbrev pub found_own : List ℕ → Option FunctionTree → Option Callee
found_own m None = None
found_own m (Some f) = Some (own_callee m f)

abbrev pub found_use : Option Use → Option Callee
found_use None = None
found_use (Some (From m r)) = Some (row_callee m r)
found_use (Some (Need m r)) = None

-- the function that is called, of the module or of another one
abbrev pub callee_of : ModuleTree → GlobalRef → Option Callee
callee_of m (Own n) = found_own m.name (slice_get m.functions n)
callee_of m (Used n) = found_use (slice_get m.uses n)

-- the functions of other modules that are called
abbrev pub used_callees : List Use → List Callee
used_callees [] = []
used_callees (From m r ∷ us) = row_callee m r ∷ used_callees us
used_callees (Need m r ∷ us) = used_callees us

abbrev pub count : Trees → ℕ
count none = 0
count (more t ts) = suc (count ts)
