use Rattle.std.proofs.Common.{◌∙◌, ap}
use Rattle.c_check.specs.Keys.{has_key}
use Rattle.c_check.proofs.Keys.{has-key}
use Rattle.c_check.proofs.named.Named.contains.Goals as goal

pub returns : goal.returns
returns g c = c.contains.ensures ∙ has-key c.args.name.now c.self.inside.names c.self.inside.values.items c.self.invariant ∙ ap (has_key c.args.name.now) c.self.view_is
