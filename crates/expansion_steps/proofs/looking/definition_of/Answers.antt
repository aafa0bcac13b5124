use Rattle.scheme_data.specs.Forms.{form}
use Rattle.core_forms.specs.Bodies.{definition_of}
use Rattle.core_forms.specs.Code.{data_of}
use Rattle.expansion_steps.specs.Decided.{second_in}
use Rattle.expansion_steps.proofs.Definings.{no_list, no_word, word_alone, defined_second, defined_as}
use Rattle.expansion_steps.proofs.looking.definition_of.Goals as goal

pub returns-in_default : goal.returns-in_default
returns-in_default c = no_list (form c.args.datum) c.in_default.ensures

pub returns-in_default-pop : goal.returns-in_default-pop
returns-in_default-pop c = no_word (form c.args.datum) c.in-Some.items c.in_ok-forms.forms c.in-Some.ensures c.in_ok-forms.ensures c.in_default-pop.ensures.0

pub returns-in_default-pop-2 : goal.returns-in_default-pop-2
returns-in_default-pop-2 c = word_alone (form c.args.datum) c.in-Some.items c.in_ok-forms.forms c.in-Some.ensures c.in_ok-forms.ensures c.in-Some-pop.word c.pop.new.self c.in-Some-pop.ensures c.in_default-pop-2.ensures.0

pub returns : goal.returns
returns c = defined_as (definition_of (form c.args.datum)) (second_in (form c.in-Some-pop.word) (form c.in-Some-pop-2.second) (data_of c.pop-2.new.self)) c.defined.result (defined_second (form c.args.datum) c.in-Some.items c.in_ok-forms.forms c.in-Some.ensures c.in_ok-forms.ensures c.in-Some-pop.word c.in-Some-pop-2.second c.pop.new.self c.pop-2.new.self c.in-Some-pop.ensures c.in-Some-pop-2.ensures) c.defined.ensures
