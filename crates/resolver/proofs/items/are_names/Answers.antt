use Rattle.std.proofs.Common.{not, ap, ◌∙◌}
use Rattle.resolver.proofs.Symbols.{name_missing, name_there, names_through}
use Rattle.resolver.proofs.items.are_names.Goals as goal

pub returns-then-is_none : goal.returns-then-is_none
returns-then-is_none c =
    name_missing c.args.ds.now c.loop-d.d-index c.d-item.result c.untyped_name.result c.loop-d-test.true c.d-item.is c.loop-d.invariant c.untyped_name.ensures
    (ap not c.is_none.ensures ∙ ap (λ t. not (not t)) c.if-is_none.true)

pub loop-d-preserved : goal.loop-d-preserved
loop-d-preserved c =
    name_there c.args.ds.now c.loop-d.d-index c.d-item.result c.untyped_name.result c.loop-d-test.true c.d-item.is c.loop-d.invariant c.untyped_name.ensures
    (ap not c.is_none.ensures ∙ ap (λ t. not (not t)) c.if-is_none.false)

pub returns : goal.returns
returns c = names_through c.args.ds.now c.loop-d.d-index c.loop-d-test.false c.loop-d.invariant
