use Rattle.std.proofs.Common.{◌∙◌, sym, ap}
use Rattle.std.specs.Option.{option_copied}
use Rattle.syntax_rules.proofs.Elements.{found_element, missing_element, no_list_element}
use Rattle.syntax_rules.proofs.usage.element.Goals as goal

pub returns-in-Some : goal.returns-in-Some
returns-in-Some c = rw c.in-List.is (found_element c.in-List.field-0 c.in-List.ds c.args.i c.in-Some.found.now (sym (ap option_copied c.in-Some.is) ∙ c.get.ensures.value))

pub returns-in-None : goal.returns-in-None
returns-in-None c = rw c.in-List.is (missing_element c.in-List.field-0 c.in-List.ds c.args.i (sym (ap option_copied c.in-None.is) ∙ c.get.ensures.value))

pub returns-in_default : goal.returns-in_default
returns-in_default c = no_list_element c.args.d.now c.args.i c.in_default.not-List
