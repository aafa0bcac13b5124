use Rattle.std.proofs.Common.{◌∙◌, ap, sym}
use Rattle.expansion_steps.specs.Heads.{macros_of}
use Rattle.expansion_steps.proofs.MacroTables.{known-stays, new-joins}
use Rattle.expansion_steps.proofs.macros.Macros.add.Goals as goal

pub returns-then-contains : goal.returns-then-contains
returns-then-contains c = sym (ap macros_of c.self.view_is) ∙ known-stays c.args.name.now c.self.inside.names c.self.inside.rules.items c.args.self.now c.args.rules c.requires c.self.invariant c.self.view_is (sym c.contains.ensures ∙ c.if-contains.true)

pub returns : goal.returns
returns c = new-joins c.args.name.now c.self.inside.names c.self.inside.rules.items c.args.self.now c.push.new.self.items c.args.rules c.requires c.self.invariant c.self.view_is (sym c.contains.ensures ∙ c.if-contains.false) c.in_ok-push.ensures.items
