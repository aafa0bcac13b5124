use Rattle.std.proofs.Common.{[], ◌∷◌}
use Rattle.scheme_data.specs.Forms.{form}
use Rattle.core_forms.specs.Mid.{raw, group}
use Rattle.core_forms.specs.Table.{becomes}
use Rattle.core_forms.specs.Bodies.{body_turn, variable_at, expression, of_function}
use Rattle.core_forms.specs.Rewriting.{Walked}
use Rattle.core_forms.specs.Code.{data_of}
use Rattle.core_forms.specs.Working.{open_of, function_of}
use Rattle.expansion_steps.specs.Heads.{macros_of}
use Rattle.expander.specs.Around.{SameAround}
use Rattle.expander.specs.Walks.{TurnWalked}
use Rattle.expander.proofs.FirstWalks.{first_alone, first_of_more, function_walked, breach_walked, not_empty}
use Rattle.expander.proofs.EntryWalks.{entry_led, entry_ready, entry_around, always}
use Rattle.expander.proofs.expander.Expander.first_entry.Goals as goal

pub returns-then-is_empty-clause-leads : goal.returns-then-is_empty-clause-leads
returns-then-is_empty-clause-leads c = rw c.in-Expression.is (entry_led (macros_of c.args.self.now.macros) c.args.room c.args.self.now.scope (λ r after. Walked (macros_of c.args.self.now.macros) c.args.room c.args.self.now.scope c.args.self.now.counts (raw (form c.in-Expression.form)) r after) (λ r after. TurnWalked (macros_of c.args.self.now.macros) c.args.room c.args.self.now.scope (body_turn c.args.self.now.counts c.args.at (expression (form c.in-Expression.form) (data_of c.in-Expression.forms))) r after) (λ r after w. first_alone (macros_of c.args.self.now.macros) c.args.room c.args.self.now.scope c.args.self.now.counts c.args.at c.in-Expression.form c.in-Expression.forms r after (c.is_empty.ensures.0 c.if-is_empty.true) w) c.open_form.result c.form_entry.result c.open_form.new.self.counts c.form_entry.ensures c.open_form.ensures.leads)

pub returns-then-is_empty-clause-ready : goal.returns-then-is_empty-clause-ready
returns-then-is_empty-clause-ready c = entry_ready c.args.room c.open_form.result c.form_entry.result c.form_entry.ensures c.open_form.ensures.ready

pub returns-then-is_empty-clause-around : goal.returns-then-is_empty-clause-around
returns-then-is_empty-clause-around c = entry_around (SameAround c.args.self.now c.open_form.new.self) c.open_form.result c.form_entry.result c.form_entry.ensures (always _ c.open_form.result c.open_form.ensures.around)

pub returns-in-Expression-clause-leads : goal.returns-in-Expression-clause-leads
returns-in-Expression-clause-leads c = rw c.in-Expression.is (λ r after w. first_of_more (macros_of c.args.self.now.macros) c.args.room c.args.self.now.scope c.args.self.now.counts c.args.at c.in-Expression.form c.in-Expression.forms r after (λ e. not_empty c.is_empty.result (c.is_empty.ensures.1 e) c.if-is_empty.false) w)

pub returns-in-Variable-clause-leads : goal.returns-in-Variable-clause-leads
returns-in-Variable-clause-leads c = rw c.in-Variable.is (entry_led (macros_of c.args.self.now.macros) c.args.room c.args.self.now.scope (λ r after. TurnWalked (macros_of c.args.self.now.macros) c.args.room c.args.self.now.scope (becomes c.args.self.now.counts (variable_at c.in-Variable.at c.in-Variable.binder (open_of c.in-Variable.value) (data_of c.in-Variable.forms))) r after) (λ r after. TurnWalked (macros_of c.args.self.now.macros) c.args.room c.args.self.now.scope (becomes c.args.self.now.counts (variable_at c.in-Variable.at c.in-Variable.binder (open_of c.in-Variable.value) (data_of c.in-Variable.forms))) r after) (λ r after w. w) c.variable_form.result c.form_entry-in-Variable.result c.args.self.now.counts c.form_entry-in-Variable.ensures (c.variable_form.ensures.leads (macros_of c.args.self.now.macros) c.args.self.now.scope c.args.self.now.counts))

pub returns-in-Variable-clause-ready : goal.returns-in-Variable-clause-ready
returns-in-Variable-clause-ready c = entry_ready c.args.room c.variable_form.result c.form_entry-in-Variable.result c.form_entry-in-Variable.ensures c.variable_form.ensures.ready

pub returns-in-Function-clause-leads : goal.returns-in-Function-clause-leads
returns-in-Function-clause-leads c = rw c.in-Function.is (entry_led (macros_of c.args.self.now.macros) c.args.room c.args.self.now.scope (λ r after. Walked (macros_of c.args.self.now.macros) c.args.room c.args.self.now.scope c.args.self.now.counts (group c.in-Function.at (function_of c.in-Function.function ∷ []) (data_of c.in-Function.forms)) r after) (λ r after. TurnWalked (macros_of c.args.self.now.macros) c.args.room c.args.self.now.scope (body_turn c.args.self.now.counts c.args.at (of_function c.in-Function.at (function_of c.in-Function.function) (data_of c.in-Function.forms))) r after) (λ r after w. function_walked (macros_of c.args.self.now.macros) c.args.room c.args.self.now.scope c.args.self.now.counts c.args.at c.in-Function.at (function_of c.in-Function.function) (data_of c.in-Function.forms) r after w) c.group_form.result c.form_entry-in-Function.result c.group_form.new.self.counts c.form_entry-in-Function.ensures c.group_form.ensures.leads)

pub returns-in-Function-clause-ready : goal.returns-in-Function-clause-ready
returns-in-Function-clause-ready c = entry_ready c.args.room c.group_form.result c.form_entry-in-Function.result c.form_entry-in-Function.ensures c.group_form.ensures.ready

pub returns-in-Function-clause-around : goal.returns-in-Function-clause-around
returns-in-Function-clause-around c = entry_around (SameAround c.args.self.now c.group_form.new.self) c.group_form.result c.form_entry-in-Function.result c.form_entry-in-Function.ensures c.group_form.ensures.around

pub returns-clause-leads : goal.returns-clause-leads
returns-clause-leads c = rw c.in-Stuck.is (breach_walked (macros_of c.args.self.now.macros) c.args.room c.args.self.now.scope c.args.self.now.counts c.args.at c.in-Stuck.e c.args.self.now.counts)
