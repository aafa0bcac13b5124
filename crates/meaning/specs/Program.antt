-- What a program prints, and how it ends.
use Rattle.std.specs.Prelude.{◌≡◌, ℕ, suc, List, [], ◌∷◌, map, nat_lt, pos, negsuc, Bool, IsTrue, Option, Some, None, if◌then◌else◌}
use Rattle.std.specs.List.{list_all, flat_map}
use Rattle.scheme_data.specs.Names.{are_distinct}
use Rattle.prim_table.specs.Errors.{number_of}
use Rattle.prim_table.specs.declared.errors.ErrCode.TheVariants.{DeadExit}
use Rattle.base_io.specs.Observation.{Observation}
use Rattle.base_io.specs.declared.end.End.TheVariants.{Ended, Raised, Spent}
use Rattle.core_tree.specs.declared.tree.VarId.{VarId}
use Rattle.core_tree.specs.Tree.{FunctionTree, ModuleTree, Callee, used_callees}
use Rattle.core_tree.specs.WellFormed.{IsWellFormed}
use Rattle.meaning.specs.Value.{Value, Fixnum, Boolean, Empty, Unspecified, Object, Closure, State, Outcome, Gives, Escapes, Raises, Spends, bind}
use Rattle.meaning.specs.Procedures.{Procedure, procedure_of, is_there}
use Rattle.meaning.specs.Evaluation.{Lower, called, ev_last, run}

abbrev pub small : ℕ → ℕ
small n = if nat_lt n 256 then n else 0

-- a fixnum from 0 to 255 is the status, and all else gives 0
abbrev pub status_of : Value → ℕ
status_of (Fixnum (pos n)) = small n
status_of (Fixnum (negsuc n)) = 0
status_of (Boolean b) = 0
status_of Empty = 0
status_of Unspecified = 0

-- an escape never leaves a program whose exits are all its own; it counts as a dead exit's
abbrev pub observed : Outcome Value → Observation
observed (Gives v s) = record { output = s.output; end = Ended (status_of v) }
observed (Escapes x v s) = record { output = s.output; end = Raised (number_of DeadExit) [] }
observed (Raises c t s) = record { output = s.output; end = Raised c t }
observed (Spends s) = record { output = s.output; end = Spent }

-- the main function: that of the first module that has one
abbrev pub main_in : List ℕ → Option (List ℕ) → Option Callee → Option Callee
main_in m None others = others
main_in m (Some name) others = Some (record { module_name = m; name = name; params = 1 })

abbrev pub main_of : List ModuleTree → Option Callee
main_of [] = None
main_of (m ∷ ms) = main_in m.name m.main (main_of ms)

-- one procedure object for each top-level function of a module, in source order
abbrev pub procedures : List ℕ → ℕ → List FunctionTree → List Object
procedures m n [] = []
procedures m n (f ∷ fs) = Closure m n ∷ procedures m (suc n) fs

-- first the objects of all modules are made, in the order of the modules
abbrev pub made : List ModuleTree → List Object
made ms = flat_map (λ m. procedures m.name 0 m.functions) ms

abbrev pub start : List ModuleTree → List ℕ → ℕ → State
start program input turns = record { store = made program; globals = []; output = []; input = input; turns = turns }

-- then the expressions among the top-level forms are evaluated, module by module, in source order
abbrev pub initialized : List ModuleTree → Lower → List ModuleTree → State → Outcome Value
initialized program lower [] s = Gives Unspecified s
initialized program lower (m ∷ ms) s = bind (ev_last program m lower m.forms Unspecified [] s) (λ _ s1. initialized program lower ms s1)

-- and then the main function is called with the list of argument strings, which no program of today's forms can look at: it stands as the empty list
abbrev pub run_main : List ModuleTree → Lower → State → Outcome Value
run_main program lower s = called lower (procedure_of program (main_of program)) (Empty ∷ []) s

-- what the modules of a program, in the order in which they are initialised, print together, and how they end
unfoldable pub src : List ModuleTree → List ℕ → List (List ℕ) → ℕ → Observation
src program input args turns = observed (bind (initialized program (run program turns) program (start program input turns)) (λ _ s. run_main program (run program turns) s))

-- what each module calls of others is there
abbrev pub are_linked : List ModuleTree → List ModuleTree → Bool
are_linked program ms = list_all (λ m. list_all (is_there program) (used_callees m.uses)) ms

abbrev pub AreWellFormed : List ModuleTree → Type 0
AreWellFormed [] = Unit {0}
AreWellFormed (m ∷ ms) = IsWellFormed m × AreWellFormed ms

-- modules that are a whole program: each has a name of its own, the functions that they call are there, and the main function has one parameter
pub record IsProgram (program : List ModuleTree) : Type 0 where
  pub formed : AreWellFormed program
  pub distinct : IsTrue (are_distinct (map (λ m. m.name) program))
  pub linked : IsTrue (are_linked program program)
  pub main : Callee
  pub is_main : main_of program ≡ Some main
  pub function : Procedure
  pub is : procedure_of program (Some main) ≡ Some function
  pub one : (x : VarId) × (function.function.params ≡ x ∷ [])
