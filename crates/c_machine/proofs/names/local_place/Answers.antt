use Rattle.std.proofs.Common.{sym, ◌∙◌}
use Rattle.c_machine.proofs.Distinct.{place_some, place_none}
use Rattle.c_machine.proofs.names.local_place.Goals as goal

pub returns-in-Some : goal.returns-in-Some
returns-in-Some c = place_some c.args.name.now c.args.names.now c.in-Some.at (sym (c.in-Some.ensures {u = tt}))

pub returns-in-None : goal.returns-in-None
returns-in-None c = c.len.ensures ∙ place_none c.args.name.now c.args.names.now (sym (c.in-None.ensures {u = tt}))
