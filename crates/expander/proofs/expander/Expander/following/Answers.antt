use Rattle.std.proofs.Common.{[], ◌∷◌, Err, arith}
use Rattle.scheme_data.specs.Forms.{form}
use Rattle.core_forms.specs.Mid.{raw, group}
use Rattle.core_forms.specs.Table.{becomes, refuses}
use Rattle.core_forms.specs.Bodies.{variable_at, expression, of_function, of_variable}
use Rattle.core_forms.specs.Rewriting.{Walked, rest_progress}
use Rattle.core_forms.specs.Code.{data_of}
use Rattle.core_forms.specs.Working.{open_of, function_of}
use Rattle.expansion_steps.specs.Heads.{macros_of}
use Rattle.expander.specs.Around.{SameAround}
use Rattle.expander.specs.Walks.{TurnWalked}
use Rattle.expander.proofs.BodyWalks.{expression_next, turn_next}
use Rattle.expander.proofs.FirstWalks.{breach_walked}
use Rattle.expander.proofs.TurnWalks.{turn_fits}
use Rattle.expander.proofs.EntryWalks.{following_eq, following_led, following_ready, following_around, always}
use Rattle.expander.proofs.expander.Expander.following.Goals as goal

pub returns-in-Expression-clause-leads : goal.returns-in-Expression-clause-leads
returns-in-Expression-clause-leads c = λ at. rw c.in-Expression.is (following_led (macros_of c.args.self.now.macros) c.args.room c.args.self.now.scope (rest_progress c.args.room c.args.self.now.counts at (expression (form c.in-Expression.form) (data_of c.in-Expression.left))) at c.in-Expression.left (λ r after. Walked (macros_of c.args.self.now.macros) c.args.room c.args.self.now.scope c.args.self.now.counts (raw (form c.in-Expression.form)) r after) (λ r after w. expression_next (macros_of c.args.self.now.macros) c.args.self.now.scope c.args.room c.args.self.now.counts at after c.in-Expression.form c.in-Expression.left r w) c.open_form.result c.following_of.result c.open_form.new.self.counts c.following_of.ensures c.open_form.ensures.leads)

pub returns-in-Expression-clause-ready : goal.returns-in-Expression-clause-ready
returns-in-Expression-clause-ready c = following_ready c.args.room c.in-Expression.left c.open_form.result c.following_of.result c.following_of.ensures c.open_form.ensures.ready

pub returns-in-Expression-clause-around : goal.returns-in-Expression-clause-around
returns-in-Expression-clause-around c = following_around (SameAround c.args.self.now c.open_form.new.self) c.in-Expression.left c.open_form.result c.following_of.result c.following_of.ensures (always _ c.open_form.result c.open_form.ensures.around)

pub returns-in-Variable-clause-leads : goal.returns-in-Variable-clause-leads
returns-in-Variable-clause-leads c = λ at. rw c.in-Variable.is (following_led (macros_of c.args.self.now.macros) c.args.room c.args.self.now.scope (rest_progress c.args.room c.args.self.now.counts at (of_variable c.in-Variable.at c.in-Variable.binder (open_of c.in-Variable.value) (data_of c.in-Variable.forms))) at [] (λ r after. TurnWalked (macros_of c.args.self.now.macros) c.args.room c.args.self.now.scope (becomes c.args.self.now.counts (variable_at c.in-Variable.at c.in-Variable.binder (open_of c.in-Variable.value) (data_of c.in-Variable.forms))) r after) (λ r after w. turn_next (macros_of c.args.self.now.macros) c.args.self.now.scope c.args.room c.args.self.now.counts at after (becomes c.args.self.now.counts (variable_at c.in-Variable.at c.in-Variable.binder (open_of c.in-Variable.value) (data_of c.in-Variable.forms))) r w) c.variable_form-formed.result c.following_of-in-Variable.result c.args.self.now.counts (following_eq c.variable_form-formed.result c.following_of-in-Variable.result c.new.result c.following_of-in-Variable.ensures c.new.ensures) (c.variable_form-formed.ensures.leads (macros_of c.args.self.now.macros) c.args.self.now.scope c.args.self.now.counts))

pub returns-in-Variable-clause-ready : goal.returns-in-Variable-clause-ready
returns-in-Variable-clause-ready c = following_ready c.args.room c.new.result c.variable_form-formed.result c.following_of-in-Variable.result c.following_of-in-Variable.ensures c.variable_form-formed.ensures.ready

pub returns-in-Function-clause-leads : goal.returns-in-Function-clause-leads
returns-in-Function-clause-leads c = λ at. rw c.in-Function.is (following_led (macros_of c.args.self.now.macros) c.args.room c.args.self.now.scope (rest_progress c.args.room c.args.self.now.counts at (of_function c.in-Function.at (function_of c.in-Function.function) (data_of c.in-Function.forms))) at [] (λ r after. Walked (macros_of c.args.self.now.macros) c.args.room c.args.self.now.scope c.args.self.now.counts (group c.in-Function.at (function_of c.in-Function.function ∷ []) (data_of c.in-Function.forms)) r after) (λ r after w. turn_next (macros_of c.args.self.now.macros) c.args.self.now.scope c.args.room c.args.self.now.counts at after (becomes c.args.self.now.counts (group c.in-Function.at (function_of c.in-Function.function ∷ []) (data_of c.in-Function.forms))) r (turn_fits (macros_of c.args.self.now.macros) c.args.room c.args.self.now.scope c.args.self.now.counts (group c.in-Function.at (function_of c.in-Function.function ∷ []) (data_of c.in-Function.forms)) r after (omega arith) w)) c.group_form-formed.result c.following_of-in-Function.result c.group_form-formed.new.self.counts (following_eq c.group_form-formed.result c.following_of-in-Function.result c.new-in-Function.result c.following_of-in-Function.ensures c.new-in-Function.ensures) c.group_form-formed.ensures.leads)

pub returns-in-Function-clause-ready : goal.returns-in-Function-clause-ready
returns-in-Function-clause-ready c = following_ready c.args.room c.new-in-Function.result c.group_form-formed.result c.following_of-in-Function.result c.following_of-in-Function.ensures c.group_form-formed.ensures.ready

pub returns-in-Function-clause-around : goal.returns-in-Function-clause-around
returns-in-Function-clause-around c = following_around (SameAround c.args.self.now c.group_form-formed.new.self) c.new-in-Function.result c.group_form-formed.result c.following_of-in-Function.result c.following_of-in-Function.ensures c.group_form-formed.ensures.around

pub returns-clause-leads : goal.returns-clause-leads
returns-clause-leads c = λ at. rw c.in-Stuck.is (turn_next (macros_of c.args.self.now.macros) c.args.self.now.scope c.args.room c.args.self.now.counts at c.args.self.now.counts (refuses c.in-Stuck.e) (Err c.in-Stuck.e) (breach_walked (macros_of c.args.self.now.macros) c.args.room c.args.self.now.scope c.args.self.now.counts at c.in-Stuck.e c.args.self.now.counts))
