-- What every later pass asks of a module.
use Rattle.std.specs.Prelude.{◌≡◌, ℕ, List, [], ◌∷◌, map, length, Bool, true, false, not, ◌&&◌, IsTrue, Option, Some, None, nat_eq}
use Rattle.std.specs.List.{list_all, list_any, AllByRecursion}
use Rattle.scheme_data.specs.Fixnum.{IsFixnum}
use Rattle.scheme_data.specs.Names.{is_same, are_distinct}
use Rattle.scheme_data.specs.Symbols.{IsSymbol}
use Rattle.built_table.specs.declared.primitives.Ty.{Ty}
use Rattle.built_table.specs.Table.{params_of}
use Rattle.name_table.specs.Names.{has_name}
use Rattle.iface_text.specs.declared.interface.Row.{Row}
use Rattle.iface_text.specs.Format.{IsUntyped, AreRows}
use Rattle.core_tree.specs.declared.tree.Const.TheVariants.{Int, Bool as Truth}
use Rattle.core_tree.specs.declared.tree.VarId.{VarId}
use Rattle.core_tree.specs.declared.tree.ImportItem.{ImportItem}
use Rattle.core_tree.specs.declared.tree.Use.{Use}
use Rattle.core_tree.specs.declared.tree.Use.TheVariants.{From, Need}
use Rattle.core_tree.specs.Tree.{Tree, Constant, Variable, If, Sequence, Call, Primitive, Trees, none, more, FunctionTree, ModuleTree, Callee, params_in, function_named, callee_of}

abbrev pub AsMany : List Ty → Trees → Type 0
AsMany [] none = Unit {0}
AsMany (t ∷ ts) (more n ns) = AsMany ts ns
AsMany _ _ = ⊥

abbrev pub same_variable : VarId → VarId → Bool
same_variable x y = nat_eq x.0 y.0

abbrev pub IsFound : Option Callee → Type 0
IsFound None = ⊥
IsFound (Some c) = Unit {0}

-- Inside a module, below these parameters.
module _ (m : ModuleTree) (params : List VarId) where
  -- numbers are fixnums, variables are parameters, functions that are called are there, and primitives have as many arguments as parameters
  abbrev mutual
    pub IsExpression : Tree → Type 0
    IsExpression (Constant (Int n)) = IsFixnum n
    IsExpression (Constant (Truth b)) = Unit {0}
    IsExpression (Variable x) = IsTrue (list_any (same_variable x) params)
    IsExpression (If a b c) = IsExpression a × IsExpression b × IsExpression c
    IsExpression (Sequence ts) = ⊥
    IsExpression (Call g ts) = IsFound (callee_of m g) × AreExpressions ts
    IsExpression (Primitive p ts) = AsMany (params_of p) ts × AreExpressions ts

    pub AreExpressions : Trees → Type 0
    AreExpressions none = Unit {0}
    AreExpressions (more t ts) = IsExpression t × AreExpressions ts

  -- a body is a sequence of at least one expression
  abbrev pub IsBody : Tree → Type 0
  IsBody (Sequence none) = ⊥
  IsBody (Sequence (more t ts)) = AreExpressions (more t ts)
  IsBody (Constant c) = ⊥
  IsBody (Variable x) = ⊥
  IsBody (If a b c) = ⊥
  IsBody (Call g ts) = ⊥
  IsBody (Primitive p ts) = ⊥

pub record IsFunction (m : ModuleTree) (f : FunctionTree) : Type 0 where
  pub name : IsSymbol f.name
  pub body : IsBody m f.params f.body

abbrev pub AreFunctions : ModuleTree → List FunctionTree → Type 0
AreFunctions m fs = AllByRecursion (IsFunction m) fs

-- Imports and uses --------------------------------------------------------------------------

abbrev pub AreNames : List (List ℕ) → Type 0
AreNames names = AllByRecursion IsSymbol names

abbrev pub has_some : List (List ℕ) → Bool
has_some [] = false
has_some (x ∷ xs) = true

-- at least one name of a module
pub record IsImport (i : ImportItem) : Type 0 where
  pub module_name : IsSymbol i.module_name
  pub names : AreNames i.names
  pub some : IsTrue (has_some i.names)

abbrev pub AreImports : List ImportItem → Type 0
AreImports is = AllByRecursion IsImport is

abbrev pub module_of : Use → List ℕ
module_of (From m r) = m
module_of (Need m r) = m

abbrev pub row_of : Use → Row
row_of (From m r) = r
row_of (Need m r) = r

-- the item takes this name from this module
abbrev pub takes : List ℕ → List ℕ → ImportItem → Bool
takes m name i = is_same i.module_name m && has_name i.names name

-- a function of another module, which an item names
pub record IsUse (m : ModuleTree) (u : Use) : Type 0 where
  pub module_name : IsSymbol (module_of u)
  pub foreign : is_same (module_of u) m.name ≡ false
  pub name : IsSymbol (row_of u).name
  pub untyped : IsUntyped (row_of u).kind
  pub imported : IsTrue (list_any (takes (module_of u) (row_of u).name) m.imports)

abbrev pub AreUses : ModuleTree → List Use → Type 0
AreUses m us = AllByRecursion (IsUse m) us

-- both are of one name of one module
abbrev pub same_use : Use → Use → Bool
same_use u v = is_same (module_of u) (module_of v) && is_same (row_of u).name (row_of v).name

-- no name of a module stands twice
abbrev pub each_once : List Use → Bool
each_once [] = true
each_once (u ∷ us) = not (list_any (same_use u) us) && each_once us

abbrev pub is_need : Use → Bool
is_need (From m r) = false
is_need (Need m r) = true

-- what is called comes first
abbrev pub are_ordered : List Use → Bool
are_ordered [] = true
are_ordered (From m r ∷ us) = are_ordered us
are_ordered (Need m r ∷ us) = list_all is_need us

-- Exports and main --------------------------------------------------------------------------

abbrev pub takes_as_many : ℕ → Option FunctionTree → Bool
takes_as_many n None = false
takes_as_many n (Some f) = nat_eq (length f.params) n

-- a function of the module with as many parameters
abbrev pub is_exported : ModuleTree → Row → Bool
is_exported m r = takes_as_many (length (params_in r.kind)) (function_named m.functions r.name)

-- the main function, if there is one, is a function with one parameter
abbrev pub IsMain : ModuleTree → Option (List ℕ) → Type 0
IsMain m None = Unit {0}
IsMain m (Some name) = IsTrue (takes_as_many 1 (function_named m.functions name))

-- functions have names of their own, what is taken from other modules is imported, and what is exported is there
pub record IsWellFormed (m : ModuleTree) : Type 0 where
  pub name : IsSymbol m.name
  pub imports : AreImports m.imports
  pub functions : AreFunctions m m.functions
  pub forms : AreExpressions m [] m.forms
  pub distinct : IsTrue (are_distinct (map (λ f. f.name) m.functions))
  pub uses : AreUses m m.uses
  pub once : IsTrue (each_once m.uses)
  pub ordered : IsTrue (are_ordered m.uses)
  pub rows : AreRows [] m.exports
  pub exported : IsTrue (list_all (is_exported m) m.exports)
  pub main : IsMain m m.main
