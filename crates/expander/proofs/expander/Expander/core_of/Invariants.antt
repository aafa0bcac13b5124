use Rattle.std.proofs.Common.{ℕ}
use Rattle.core_forms.specs.Mid.{Mid, raw}
use Rattle.core_forms.specs.Rewriting.{Reaches, step}
use Rattle.core_forms.specs.Working.{open_of}
use Rattle.expansion_steps.specs.Heads.{macros_of}
use Rattle.expander.specs.Around.{SameAround}
use Rattle.expander.proofs.expander.Expander.core_of.Given as goal

abbrev pub invariant-turns : goal.invariant-turns
invariant-turns l = record {
  around : SameAround l.initial.self l.self;
  path : (room : ℕ) → Reaches Mid (step (macros_of l.initial.self.macros) room l.initial.self.scope) l.initial.self.counts (raw (open_of l.initial.opened)) l.self.counts (raw (open_of l.opened));
}
