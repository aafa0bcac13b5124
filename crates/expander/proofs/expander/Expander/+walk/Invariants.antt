use Rattle.std.proofs.Common.{◌≡◌, ◌+◌, ◌*◌, List, length}
use Rattle.core_forms.specs.Scope.{Marked, entered}
use Rattle.core_forms.specs.Mid.{Parts, rest}
use Rattle.core_forms.specs.Code.{data_of}
use Rattle.core_forms.specs.Working.{parts_then}
use Rattle.core_forms.specs.declared.core_form.Binder.{Binder}
use Rattle.core_forms.specs.declared.counting.Counts.{Counts}
use Rattle.expansion_steps.specs.Heads.{macros_of}
use Rattle.expander.specs.Around.{SameAround}
use Rattle.expander.specs.Walks.{Fits, SoFar}
use Rattle.expander.proofs.expander.Expander.+walk.Given as goal

-- the lists that may still stand in each other, and a rank for each function
abbrev pub decreases-walk_entry : goal.decreases-walk_entry
decreases-walk_entry l = 8 * l.room + 5

abbrev pub decreases-walk_sequence : goal.decreases-walk_sequence
decreases-walk_sequence l = 8 * l.room + 4

abbrev pub decreases-walk_rest : goal.decreases-walk_rest
decreases-walk_rest l = 8 * l.room + 3

abbrev pub decreases-walk_form : goal.decreases-walk_form
decreases-walk_form l = 8 * l.room + 2

abbrev pub decreases-walk_node : goal.decreases-walk_node
decreases-walk_node l = 8 * l.room + 1

abbrev pub decreases-walk_parts : goal.decreases-walk_parts
decreases-walk_parts l = 8 * l.room

abbrev pub decreases-walk_parts-parts : goal.decreases-walk_parts-parts
decreases-walk_parts-parts l = length l.parts

abbrev pub invariant-walk_parts-parts : goal.invariant-walk_parts-parts
invariant-walk_parts-parts l = record {
  around : SameAround l.initial.self l.self;
  fits : Fits l.room l.parts;
  onward : (s : List Marked) (xs : List Binder) (n : Counts) (whole left : Parts) → l.initial.self.scope ≡ entered xs s
      → SoFar (macros_of l.initial.self.macros) l.room s n whole l.initial.self.counts (parts_then xs l.initial.parts left) l.initial.done
      → SoFar (macros_of l.initial.self.macros) l.room s n whole l.self.counts (parts_then xs l.parts left) l.done;
}

abbrev pub invariant-walk_rest-looks : goal.invariant-walk_rest-looks
invariant-walk_rest-looks l = record {
  around : SameAround l.initial.self l.self;
  onward : (n : Counts) (whole : Parts) → SoFar (macros_of l.initial.self.macros) l.room l.initial.self.scope n whole l.initial.self.counts (rest l.at (data_of l.initial.forms)) l.initial.parts
      → SoFar (macros_of l.initial.self.macros) l.room l.initial.self.scope n whole l.self.counts (rest l.at (data_of l.forms)) l.parts;
}
