use Rattle.std.proofs.Common.{sym, ap, ◌∙◌}
use Rattle.scheme_data.specs.Names.{is_same}
use Rattle.c_check.proofs.Numbered.{at_hint, not_at_hint, none_at_hint}
use Rattle.c_check.proofs.places.numbered_place.Goals as goal

pub returns-in-None : goal.returns-in-None
returns-in-None c = none_at_hint c.args.numbered.now c.args.name.now c.hint-at.result c.requires c.hint-at.ensures (sym (c.in-None.ensures {u = tt}))

pub returns-then-is_same : goal.returns-then-is_same
returns-then-is_same c =
    at_hint c.args.numbered.now c.args.name.now c.in-Some.other.now c.hint-at.result c.requires c.hint-at.ensures (sym (c.in-Some.ensures {u = tt})) (ap (is_same c.args.name.now) (sym c.as_bytes.ensures) ∙ sym c.is_same.ensures ∙ c.if-is_same.true)

pub returns-else-is_same : goal.returns-else-is_same
returns-else-is_same c =
    not_at_hint c.args.numbered.now c.args.name.now c.in-Some.other.now c.hint-at.result c.requires c.hint-at.ensures (sym (c.in-Some.ensures {u = tt})) (ap (is_same c.args.name.now) (sym c.as_bytes.ensures) ∙ sym c.is_same.ensures ∙ c.if-is_same.false)
