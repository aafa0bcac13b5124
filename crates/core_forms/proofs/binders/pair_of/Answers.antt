use Rattle.scheme_data.specs.Forms.{form}
use Rattle.core_forms.proofs.Sides.{wrong_length_is_no_pair, pair_is}
use Rattle.core_forms.proofs.binders.pair_of.Goals as goal

pub returns-then-len-ne2 : goal.returns-then-len-ne2
returns-then-len-ne2 c = wrong_length_is_no_pair (form c.args.binding) c.in_ok-pair.pair c.len.result c.in_ok-pair.ensures c.len.ensures c.if-len-ne2.true

pub returns : goal.returns
returns c = pair_is (form c.args.binding) c.in_ok-pair.pair c.remove-value.new.self c.len.result c.remove-value.result c.remove-name.result c.in_ok-pair.ensures c.len.ensures c.if-len-ne2.false c.remove-value.ensures.item c.remove-value.ensures.rest c.remove-name.ensures.item
