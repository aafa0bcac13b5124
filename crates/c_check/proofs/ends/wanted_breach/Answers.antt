use Rattle.std.proofs.Common.{◌∙◌, ap, Some}
use Rattle.c_meaning.specs.Checked.{breach, wanted_breaches}
use Rattle.c_check.specs.Firsts.{first}
use Rattle.c_check.proofs.Rest.{rest_at}
use Rattle.c_check.proofs.Ending.{wanted_here, wanted_on}
use Rattle.c_check.proofs.ends.wanted_breach.Goals as goal

pub returns-in-Some : goal.returns-in-Some
returns-in-Some c =
    ap Some (c.in_ok-breach_of.ensures ∙ ap (λ n. breach n c.in-Some.cause) c.name_of-name.ensures)
    ∙ wanted_here c.args.used.now c.args.names.now c.args.items.now c.loop-item.item-index c.loop-item.invariant c.item-item.result
    (rest_at c.args.items.now c.loop-item.item-index c.item-item.result c.loop-item-test.true c.item-item.is) c.wanted_fault.result
    (c.wanted_fault.ensures ∙ ap (λ n. first (wanted_breaches c.args.used.now c.args.names.now n)) c.name_of-name.ensures)
    c.in-Some.cause c.in-Some.is

pub loop-item-preserved : goal.loop-item-preserved
loop-item-preserved c =
    wanted_on c.args.used.now c.args.names.now c.args.items.now c.loop-item.item-index c.loop-item.invariant c.item-item.result
    (rest_at c.args.items.now c.loop-item.item-index c.item-item.result c.loop-item-test.true c.item-item.is) c.wanted_fault.result
    (c.wanted_fault.ensures ∙ ap (λ n. first (wanted_breaches c.args.used.now c.args.names.now n)) c.name_of-name.ensures)
    c.in_default.is
