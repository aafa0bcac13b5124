use Rattle.c_check.proofs.Ending.{end_wanted, end_main}
use Rattle.c_check.proofs.ends.end_breach.Goals as goal

pub returns-in-Some : goal.returns-in-Some
returns-in-Some c =
    end_wanted c.in_ok-used.used c.args.names.now c.args.items.now c.in_ok-used.ensures c.requires c.in_ok-breach.field-0 c.in_ok-breach.ensures c.in-Some.breach c.in-Some.is

pub returns : goal.returns
returns c =
    end_main c.in_ok-used.used c.args.names.now c.args.items.now c.in_ok-used.ensures c.requires c.in_ok-breach.field-0 c.in_ok-breach.ensures c.in_default.is c.in_ok-breach-2.breach c.in_ok-breach-2.ensures
