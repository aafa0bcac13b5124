use Rattle.std.proofs.Common.{◌∙◌, ap, Some}
use Rattle.c_meaning.specs.Checked.{breach}
use Rattle.c_check.specs.Knowns.{known_of}
use Rattle.c_check.proofs.Rest.{rest_at}
use Rattle.c_check.proofs.ItemWalk.{item_wrong, item_right}
use Rattle.c_check.proofs.items.items_breach.Goals as goal

pub returns-in-Some-clause-breach : goal.returns-in-Some-clause-breach
returns-in-Some-clause-breach c =
    ap Some (c.in_ok-breach_of.ensures ∙ ap (λ n. breach n c.in-Some.cause) c.name_of.ensures)
    ∙ item_wrong (known_of c.args.known.now) c.args.items.now c.loop-item.item-index (known_of c.loop-item.known) c.loop-item.invariant c.item-item.result
    (rest_at c.args.items.now c.loop-item.item-index c.item-item.result c.loop-item-test.true c.item-item.is) c.in_ok-cause.field-0 c.in_ok-cause.ensures.fault
    c.in-Some.cause c.in-Some.is

pub loop-item-preserved : goal.loop-item-preserved
loop-item-preserved c =
    item_right (known_of c.args.known.now) c.args.items.now c.loop-item.item-index (known_of c.loop-item.known) c.loop-item.invariant c.item-item.result
    (rest_at c.args.items.now c.loop-item.item-index c.item-item.result c.loop-item-test.true c.item-item.is) c.in_ok-cause.field-0 c.in_ok-cause.ensures.fault
    c.in_default.is (known_of c.admit.new.self) (c.in_ok-cause.ensures.known c.in_default.is)
