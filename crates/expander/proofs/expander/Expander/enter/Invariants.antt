use Rattle.std.proofs.Common.{◌≡◌, drop}
use Rattle.core_forms.specs.Scope.{entered}
use Rattle.expander.proofs.expander.Expander.enter.Given as goal

abbrev pub invariant-loop-binder : goal.invariant-loop-binder
invariant-loop-binder l = record {
  scope : entered (drop l.binder-index l.binders) l.self.scope ≡ entered l.binders l.fn.self.scope;
  macros : l.self.macros ≡ l.fn.self.macros;
  counts : l.self.counts ≡ l.fn.self.counts;
}
