use Rattle.std.proofs.Common.{◌∙◌, ap}
use Rattle.c_tree.specs.Functions.{items_of}
use Rattle.c_meaning.specs.Checked.{items_breaches}
use Rattle.c_check.specs.Firsts.{first}
use Rattle.c_check.proofs.Ending.{text_wrong, text_ends}
use Rattle.c_check.proofs.ends.program_breach.Goals as goal

pub returns-in-Some : goal.returns-in-Some
returns-in-Some c =
    text_wrong (items_of c.args.items.now) c.in_ok-breach.field-0
    (c.in_ok-breach.ensures.breach ∙ ap (λ k. first (items_breaches k (items_of c.args.items.now))) c.requires)
    c.in-Some.breach c.in-Some.is

pub returns : goal.returns
returns c =
    text_ends (items_of c.args.items.now) c.in_ok-breach.field-0
    (c.in_ok-breach.ensures.breach ∙ ap (λ k. first (items_breaches k (items_of c.args.items.now))) c.requires)
    c.in_default.is c.in_ok-breach-2.breach c.in_ok-breach-2.ensures
