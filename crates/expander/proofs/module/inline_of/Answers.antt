use Rattle.std.proofs.Common.{◌∙◌}
use Rattle.syntax_rules.proofs.Places.{same_place}
use Rattle.expander.proofs.TopDefines.{parts_missing, list_missing, inline_of_list}
use Rattle.expander.proofs.module.inline_of.Goals as goal

pub returns-in_default : goal.returns-in_default
returns-in_default c p = parts_missing p c.args.forms c.in_default.ensures.0

pub returns-in_default-items_of : goal.returns-in_default-items_of
returns-in_default-items_of c p = list_missing p c.args.forms c.pop.new.self c.in-Some.first c.in-Some.ensures c.in_default-items_of.ensures

pub returns : goal.returns
returns c =
    inline_of_list c.args.forms c.pop.new.self c.in-Some-items_of.names c.in-Some.first c.place-at.result c.named_inline.result c.in-Some.ensures (c.place-at.ensures ∙ same_place c.in-Some.first) c.in-Some-items_of.ensures c.named_inline.ensures
