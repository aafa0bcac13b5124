-- A call of a function that is there.
use Rattle.std.proofs.Common.{◌≡◌, ℕ, List, [], Option, Some, refl, sym, subst}
use Rattle.base_io.specs.declared.end.End.{End}
use Rattle.base_io.specs.declared.end.End.TheVariants.{Spent}
use Rattle.c_machine.specs.declared.program.Operand.{Operand}
use Rattle.c_machine.specs.declared.program.Target.{Target}
use Rattle.c_machine.specs.declared.program.Function.{Function}
use Rattle.c_machine.specs.declared.stepping.Flow.{Flow}
use Rattle.c_machine.specs.declared.stepping.Flow.TheVariants.{Going, Over, WriteFault, Memory}
use Rattle.c_machine.specs.Steps.{Config, called, Moves, Does}
use Rattle.c_machine.proofs.Sinks.{added_none}

pub called_does : (f : Option Function) (fn : Function) (to : Target) (g : ℕ) (args : List Operand) (c : Config) (r : Flow) (new : Config) (end : End) (w : Option (List ℕ)) → f ≡ Some fn → ((e : End) → Moves (called (Some fn) to g args c) r new e) → Does (called f to g args c) r new end w w
called_does f fn to g args c r new end w e h = subst (λ (m : Option Function). Does (called m to g args c) r new end w w) (sym e) (does r (h end))
  where
    does : (r : Flow) → Moves (called (Some fn) to g args c) r new end → Does (called (Some fn) to g args c) r new end w w
    does Going h = (h.0, added_none w)
    does Over h = absurd h
    does WriteFault h = absurd h
    does Memory h = record { part = []; rest = []; is = refl; added = added_none w }

pub called_writes_nothing : (fn : Function) (to : Target) (g : ℕ) (args : List Operand) (c : Config) (r : Flow) (new : Config) → ((e : End) → Moves (called (Some fn) to g args c) r new e) → r ≡ WriteFault → ⊥
called_writes_nothing fn to g args c r new h e = subst (λ (r : Flow). Moves (called (Some fn) to g args c) r new Spent) e (h Spent)
