use Rattle.std.proofs.Common.{◌≡◌, ℕ, List}
use Rattle.core_forms.specs.Scope.{Marked, entered}
use Rattle.core_forms.specs.Mid.{Mid}
use Rattle.core_forms.specs.Rewriting.{Reaches, step}
use Rattle.core_forms.specs.Code.{data_of}
use Rattle.expansion_steps.specs.Heads.{macros_of}
use Rattle.expander.specs.Groups.{binders_of, group_mid, Stays}
use Rattle.expander.proofs.expander.Expander.neighbours.Given as goal

abbrev pub invariant-looks : goal.invariant-looks
invariant-looks l = record {
  path : (s : List Marked) → l.initial.self.scope ≡ entered (binders_of l.initial.group) s → (room : ℕ) → Reaches Mid (step (macros_of l.initial.self.macros) room s) l.initial.self.counts (group_mid l.initial.group (data_of l.initial.forms)) l.self.counts (group_mid l.group (data_of l.forms));
  stays : Stays l.initial.group l.group l.initial.self.scope l.self.scope;
  macros : l.self.macros ≡ l.initial.self.macros;
}
