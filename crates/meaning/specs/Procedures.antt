-- The functions of a program, which is its modules in the order in which they are initialised. A call names a function by its module and its name.
use Rattle.std.specs.Prelude.{ℕ, List, find, length, nat_eq, Bool, false, Option, Some, None}
use Rattle.scheme_data.specs.Names.{is_same}
use Rattle.core_tree.specs.Tree.{FunctionTree, ModuleTree, Callee, function_named}

-- a function, and the module in which it is defined
pub record Procedure : Type 0 where
  pub home : ModuleTree
  pub function : FunctionTree

abbrev pub module_named : List ModuleTree → List ℕ → Option ModuleTree
module_named program name = find (λ m. is_same m.name name) program

abbrev pub found_in : ModuleTree → Option FunctionTree → Option Procedure
found_in m None = None
found_in m (Some f) = Some (record { home = m; function = f })

abbrev pub procedure_in : Option ModuleTree → List ℕ → Option Procedure
procedure_in None name = None
procedure_in (Some m) name = found_in m (function_named m.functions name)

-- the function that a call names
abbrev pub procedure_of : List ModuleTree → Option Callee → Option Procedure
procedure_of program None = None
procedure_of program (Some c) = procedure_in (module_named program c.module_name) c.name

abbrev pub takes : ℕ → Option Procedure → Bool
takes n None = false
takes n (Some p) = nat_eq (length p.function.params) n

-- the function is there, and has as many parameters
abbrev pub is_there : List ModuleTree → Callee → Bool
is_there program c = takes c.params (procedure_of program (Some c))
