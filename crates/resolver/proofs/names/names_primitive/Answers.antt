use Rattle.std.proofs.Common.{is_some, ap, ◌∙◌}
use Rattle.resolver.proofs.names.names_primitive.Goals as goal

pub returns : goal.returns
returns c = c.is_some.ensures ∙ ap is_some c.prim_by_name.ensures
