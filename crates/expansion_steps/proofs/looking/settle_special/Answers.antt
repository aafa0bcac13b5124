use Rattle.std.proofs.Common.{◌∙◌}
use Rattle.scheme_data.specs.Forms.{form}
use Rattle.syntax_rules.proofs.Places.{same_place}
use Rattle.expansion_steps.proofs.Decisions.{special_lists, special_first, special_whole}
use Rattle.expansion_steps.proofs.looking.settle_special.Goals as goal

pub returns-in_default : goal.returns-in_default
returns-in_default c = λ ks s h. absurd (special_lists ks s (form c.args.value) c.args.keyword c.in_default.ensures h)

pub returns-in_default-pop : goal.returns-in_default-pop
returns-in_default-pop c = λ ks s h. absurd (special_first ks s (form c.args.value) c.in-Some.items c.in_ok-forms.forms c.args.keyword c.in-Some.ensures c.in_ok-forms.ensures c.in_default-pop.ensures.0 h)

pub returns : goal.returns
returns c = λ ks s h. special_whole ks s c.args.n.now c.settle_listed.new.n (form c.args.value) c.in-Some.items c.in_ok-forms.forms c.pop.new.self c.in-Some-pop.word c.place-at.result c.args.keyword c.settle_listed.result (c.place-at.ensures ∙ same_place c.args.value) c.in-Some.ensures c.in_ok-forms.ensures c.in-Some-pop.ensures h (c.settle_listed.ensures ks s)
