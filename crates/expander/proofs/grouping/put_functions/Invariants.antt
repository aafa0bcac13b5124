use Rattle.std.proofs.Common.{◌≡◌, ◌++◌, List, map, length}
use Rattle.core_forms.specs.Mid.{none}
use Rattle.core_forms.specs.Bodies.{binders_in, functions}
use Rattle.core_forms.specs.Working.{function_of, parts_then}
use Rattle.core_forms.specs.declared.core_form.Binder.{Binder}
use Rattle.expander.specs.Walks.{Fits}
use Rattle.expander.proofs.grouping.put_functions.Given as goal

abbrev pub invariant-taken : goal.invariant-taken
invariant-taken l = record {
  names : binders_in (map function_of l.functions) ++ l.names ≡ binders_in (map function_of l.initial.functions);
  parts : (xs : List Binder) → functions xs (map function_of l.functions) (parts_then xs l.parts none) ≡ functions xs (map function_of l.initial.functions) (parts_then xs l.initial.parts none);
  fits : Fits 3 l.initial.parts → Fits 3 l.parts;
}

abbrev pub decreases-taken : goal.decreases-taken
decreases-taken l = length l.functions
