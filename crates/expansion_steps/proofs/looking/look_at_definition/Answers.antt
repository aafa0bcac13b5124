use Rattle.std.proofs.Common.{Option, sym, subst, ◌∙◌}
use Rattle.scheme_data.specs.Forms.{form}
use Rattle.core_forms.specs.Bodies.{definition_of}
use Rattle.core_forms.specs.Code.{data_of}
use Rattle.expansion_steps.specs.Heads.{macros_of}
use Rattle.expansion_steps.specs.Parts.{DefinedAs, definition_is}
use Rattle.expansion_steps.specs.declared.looking.Definition.{Definition}
use Rattle.syntax_rules.proofs.Places.{same_place}
use Rattle.expansion_steps.proofs.Decisions.{empty_is, define_none, define_last}
use Rattle.expansion_steps.proofs.looking.look_at_definition.Goals as goal

pub returns-in_default : goal.returns-in_default
returns-in_default c = λ h.
    define_none (macros_of c.args.ks.now) c.args.s.now c.args.n.now (form c.args.datum) c.place-at.result h (c.place-at.ensures ∙ same_place c.args.datum) (data_of c.args.others)
    (subst (λ (x : Option Definition). DefinedAs (definition_of (form c.args.datum)) x) c.in_default.is c.in_ok-definition.ensures)

pub returns-then-is_empty : goal.returns-then-is_empty
returns-then-is_empty c = λ h.
    define_last (macros_of c.args.ks.now) c.args.s.now c.args.n.now (form c.args.datum) c.place-at.result h (c.place-at.ensures ∙ same_place c.args.datum) (definition_is c.in-Some.definition) c.args.others
    (subst (λ (x : Option Definition). DefinedAs (definition_of (form c.args.datum)) x) c.in-Some.is c.in_ok-definition.ensures) (empty_is c.is_empty.result c.args.others c.if-is_empty.true c.is_empty.ensures)

pub returns : goal.returns
returns c = λ h.
    c.look_at_defined.ensures (form c.args.datum) h (sym (c.place-at.ensures ∙ same_place c.args.datum))
    (subst (λ (x : Option Definition). DefinedAs (definition_of (form c.args.datum)) x) c.in-Some.is c.in_ok-definition.ensures)
