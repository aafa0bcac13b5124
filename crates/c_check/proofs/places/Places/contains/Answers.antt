use Rattle.std.proofs.Common.{is_some, ap, ◌∙◌}
use Rattle.name_table.proofs.Places.{place-has}
use Rattle.c_check.proofs.places.Places.contains.Goals as goal

pub returns : goal.returns
returns c = c.is_some.ensures ∙ ap is_some c.position.ensures ∙ place-has c.args.name.now c.args.self.now
