-- What a C program prints, and how it ends.
use Rattle.std.specs.Prelude.{ℕ, List, [], ◌∷◌, codes, pos, negsuc, Option, Some, None}
use Rattle.base_io.specs.declared.end.End.{End}
use Rattle.base_io.specs.Observation.{Observation}
use Rattle.base_io.specs.declared.end.End.TheVariants.{Ended, Raised, Spent, Fault}
use Rattle.base_io.specs.declared.end.FaultKind.TheVariants.{Tag, Entry}
use Rattle.prim_table.specs.Errors.{number_of}
use Rattle.prim_table.specs.declared.errors.ErrCode.TheVariants.{DeadExit}
use Rattle.c_tree.specs.Code.{Fun, Item, external, global, declared, defined}
use Rattle.c_meaning.specs.State.{Cell, AWord, ANumber, State, Flow, Next, Goes, Returns, Escapes, Raises, Spends, Fails}
use Rattle.c_meaning.specs.Execution.{names_of, entry, exec_main, run, fun_named}

abbrev pub functions_of : List Item → List Fun
functions_of [] = []
functions_of (external v ∷ items) = functions_of items
functions_of (global v ∷ items) = functions_of items
functions_of (declared ty name params ∷ items) = functions_of items
functions_of (defined f ∷ items) = f ∷ functions_of items

-- `main` gives an int, which is the status
abbrev pub end_of : Cell → End
end_of (ANumber (pos n)) = Ended n
end_of (ANumber (negsuc n)) = Fault Tag
end_of (AWord w) = Fault Tag

abbrev pub shown : Flow → Observation
shown (Next f s) = record { output = s.output; end = Fault Tag }
shown (Goes l f s) = record { output = s.output; end = Fault Tag }
shown (Returns c s) = record { output = s.output; end = end_of c }
shown (Escapes x w f s) = record { output = s.output; end = Raised (number_of DeadExit) [] }
shown (Raises c t s) = record { output = s.output; end = Raised c t }
shown (Spends s) = record { output = s.output; end = Spent }
shown (Fails k s) = record { output = s.output; end = Fault k }

abbrev pub start : List ℕ → ℕ → State
start input turns = record { heap = []; globals = []; output = []; input = input; turns = turns }

abbrev pub run_main : List Fun → Option Fun → List ℕ → ℕ → Observation
run_main p None input turns = record { output = []; end = Fault Entry }
run_main p (Some f) input turns = shown (exec_main p (run p turns) (names_of f) f.code (entry f []) (start input turns))

-- the program's `main`
abbrev pub main_of : List Item → Option Fun
main_of items = fun_named (functions_of items) (codes "main")

unfoldable pub cm : List Item → List ℕ → List (List ℕ) → ℕ → Observation
cm items input args turns = run_main (functions_of items) (main_of items) input turns
