use Rattle.std.proofs.Common.{◌≡◌, []}
use Rattle.expansion_steps.specs.Heads.{macros_of}
use Rattle.expander.specs.Tops.{all_tops}
use Rattle.expander.specs.TopWalks.{SoFar}
use Rattle.expander.proofs.expander.Expander.tops.Given as goal

abbrev pub invariant-firsts : goal.invariant-firsts
invariant-firsts l = record {
  done : SoFar (macros_of l.initial.self.macros) l.initial.self.counts (all_tops l.initial.tops) (macros_of l.self.macros) l.self.counts l.forms (all_tops l.tops);
  scope : l.self.scope ≡ [];
}
