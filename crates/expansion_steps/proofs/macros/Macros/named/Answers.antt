use Rattle.std.proofs.Common.{◌∙◌, ap}
use Rattle.std.proofs.Common.{slice_get}
use Rattle.expansion_steps.proofs.MacroTables.{found-at, none-at}
use Rattle.expansion_steps.proofs.macros.Macros.named.Goals as goal

pub returns-in-Some : goal.returns-in-Some
returns-in-Some c = found-at c.args.name.now c.self.inside.names c.self.inside.rules.items c.args.self.now c.rules_at.result c.in-Some.place c.self.invariant c.self.view_is c.in-Some.ensures
    (c.rules_at.ensures ∙ ap (λ rs. slice_get rs c.in-Some.place) c.as_slice.ensures.value)

pub returns-in-None : goal.returns-in-None
returns-in-None c = none-at c.args.name.now c.self.inside.names c.self.inside.rules.items c.args.self.now c.self.invariant c.self.view_is c.in-None.ensures
