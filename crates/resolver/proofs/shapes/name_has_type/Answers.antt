use Rattle.std.proofs.Common.{sym, ◌∙◌}
use Rattle.resolver.proofs.TypedNames.{type_found, type_later}
use Rattle.resolver.proofs.shapes.name_has_type.Goals as goal

pub returns-then-type_begins : goal.returns-then-type_begins
returns-then-type_begins c = type_found c.args.name.now c.loop-i.i c.loop-i.invariant (sym c.type_begins.ensures ∙ c.if-type_begins.true)

pub loop-i-preserved : goal.loop-i-preserved
loop-i-preserved c = type_later c.args.name.now c.loop-i.i c.loop-i-test.true c.loop-i.invariant (sym c.type_begins.ensures ∙ c.if-type_begins.false)
