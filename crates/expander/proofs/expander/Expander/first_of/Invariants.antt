use Rattle.core_forms.specs.Code.{data_of}
use Rattle.expansion_steps.specs.Heads.{macros_of}
use Rattle.expansion_steps.specs.Steps.{Looks}
use Rattle.expander.specs.Around.{SameAround}
use Rattle.expander.proofs.expander.Expander.first_of.Given as goal

abbrev pub invariant-looks : goal.invariant-looks
invariant-looks l = record {
  around : SameAround l.initial.self l.self;
  path : Looks (macros_of l.initial.self.macros) l.initial.self.scope l.initial.self.counts (data_of l.initial.forms) l.self.counts (data_of l.forms);
}
