use Rattle.std.proofs.Common.{Some, ◌∙◌, ap}
use Rattle.scheme_data.specs.Forms.{form}
use Rattle.syntax_rules.proofs.Places.{same_place}
use Rattle.core_forms.specs.Bodies.{value}
use Rattle.expansion_steps.specs.Heads.{macros_of}
use Rattle.expansion_steps.specs.declared.looking.Definition.TheVariants as code
use Rattle.expander.proofs.TopDefines.{define_refused, define_made, found_none, found_some}
use Rattle.expander.proofs.expander.Expander.define.Goals as goal

pub returns-in-None-clause-walked : goal.returns-in-None-clause-walked
returns-in-None-clause-walked c =
    define_refused (macros_of c.args.self.now.macros) c.args.self.now.counts (form c.args.datum) c.place-at.result (c.place-at.ensures ∙ same_place c.args.datum) c.args.self.now.counts
    (found_none (form c.args.datum) c.in_ok-definition_of.field-0 c.in_ok-definition_of.ensures c.in-None.is)

pub returns-in-Some-Value-clause-walked : goal.returns-in-Some-Value-clause-walked
returns-in-Some-Value-clause-walked c =
    define_made (macros_of c.args.self.now.macros) c.args.self.now.counts (form c.args.datum) c.place-at.result (c.place-at.ensures ∙ same_place c.args.datum)
    (value c.in-Some-Value.binder (form c.in-Some-Value.field-0-1) (form c.in-Some-Value.field-0-2) (form c.in-Some-Value.value)) c.define_value.result c.define_value.new.self.counts
    (found_some (form c.args.datum) c.in_ok-definition_of.field-0 (code.Value c.in-Some-Value.binder c.in-Some-Value.field-0-1 c.in-Some-Value.field-0-2 c.in-Some-Value.value) c.in_ok-definition_of.ensures
    (c.in-Some-Value.is ∙ ap Some c.in-Some-Value.field-0-is)) c.define_value.ensures.walked
