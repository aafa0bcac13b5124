use Rattle.std.proofs.Common.{refl}
use Rattle.scheme_data.specs.Forms.{form, next, end}
use Rattle.core_forms.specs.Mid.{raw, lambda_form, body, variable, refused}
use Rattle.core_forms.specs.Table.{becomes}
use Rattle.core_forms.specs.Bodies.{variable_at}
use Rattle.core_forms.specs.Rewriting.{Walked, here}
use Rattle.core_forms.specs.Code.{data_of}
use Rattle.core_forms.specs.Working.{open_of}
use Rattle.core_forms.specs.declared.work.Open.TheVariants as open_form
use Rattle.expansion_steps.specs.Heads.{macros_of}
use Rattle.expander.specs.Around.{SameAround}
use Rattle.expander.specs.Walks.{TurnWalked}
use Rattle.expander.proofs.TurnWalks.{later}
use Rattle.expander.proofs.MadeWalks.{only_let_star, only_choice}
use Rattle.expander.proofs.EntryWalks.{entry_led, entry_ready, entry_around, always}
use Rattle.expander.proofs.expander.Expander.entry.Goals as goal

pub returns-in-Raw-clause-leads : goal.returns-in-Raw-clause-leads
returns-in-Raw-clause-leads c = rw c.in-Raw.is (entry_led (macros_of c.args.self.now.macros) c.args.room c.args.self.now.scope (λ r after. Walked (macros_of c.args.self.now.macros) c.args.room c.args.self.now.scope c.args.self.now.counts (raw (open_of c.in-Raw.open)) r after) (λ r after. Walked (macros_of c.args.self.now.macros) c.args.room c.args.self.now.scope c.args.self.now.counts (raw (open_of c.in-Raw.open)) r after) (λ r after w. w) c.open_form.result c.form_entry.result c.open_form.new.self.counts c.form_entry.ensures c.open_form.ensures.leads)

pub returns-in-Raw-clause-ready : goal.returns-in-Raw-clause-ready
returns-in-Raw-clause-ready c = entry_ready c.args.room c.open_form.result c.form_entry.result c.form_entry.ensures c.open_form.ensures.ready

pub returns-in-Raw-clause-around : goal.returns-in-Raw-clause-around
returns-in-Raw-clause-around c = entry_around (SameAround c.args.self.now c.open_form.new.self) c.open_form.result c.form_entry.result c.form_entry.ensures (always _ c.open_form.result c.open_form.ensures.around)

pub returns-in-LetStar-clause-leads : goal.returns-in-LetStar-clause-leads
returns-in-LetStar-clause-leads c = rw c.in-LetStar.is (entry_led (macros_of c.args.self.now.macros) c.args.room c.args.self.now.scope (λ r after. Walked (macros_of c.args.self.now.macros) c.args.room c.args.self.now.scope c.args.self.now.counts (raw (open_of (open_form.LetStar c.in-LetStar.at c.in-LetStar.bindings c.in-LetStar.body))) r after) (λ r after. Walked (macros_of c.args.self.now.macros) c.args.room c.args.self.now.scope c.args.self.now.counts (body c.in-LetStar.at (next (open_of (open_form.LetStar c.in-LetStar.at c.in-LetStar.bindings c.in-LetStar.body)) end)) r after) (λ r after w. only_let_star (macros_of c.args.self.now.macros) c.args.room c.args.self.now.scope c.args.self.now.counts c.in-LetStar.at c.in-LetStar.bindings c.in-LetStar.body r after w) c.open_form-in-LetStar.result c.form_entry-in-LetStar.result c.open_form-in-LetStar.new.self.counts c.form_entry-in-LetStar.ensures c.open_form-in-LetStar.ensures.leads)

pub returns-in-LetStar-clause-ready : goal.returns-in-LetStar-clause-ready
returns-in-LetStar-clause-ready c = entry_ready c.args.room c.open_form-in-LetStar.result c.form_entry-in-LetStar.result c.form_entry-in-LetStar.ensures c.open_form-in-LetStar.ensures.ready

pub returns-in-LetStar-clause-around : goal.returns-in-LetStar-clause-around
returns-in-LetStar-clause-around c = entry_around (SameAround c.args.self.now c.open_form-in-LetStar.new.self) c.open_form-in-LetStar.result c.form_entry-in-LetStar.result c.form_entry-in-LetStar.ensures (always _ c.open_form-in-LetStar.result c.open_form-in-LetStar.ensures.around)

pub returns-in-Choice-clause-leads : goal.returns-in-Choice-clause-leads
returns-in-Choice-clause-leads c = rw c.in-Choice.is (entry_led (macros_of c.args.self.now.macros) c.args.room c.args.self.now.scope (λ r after. Walked (macros_of c.args.self.now.macros) c.args.room c.args.self.now.scope c.args.self.now.counts (raw (open_of (open_form.Choice c.in-Choice.at c.in-Choice.test c.in-Choice.arm c.in-Choice.keyword c.in-Choice.forms))) r after) (λ r after. Walked (macros_of c.args.self.now.macros) c.args.room c.args.self.now.scope c.args.self.now.counts (body c.in-Choice.at (next (open_of (open_form.Choice c.in-Choice.at c.in-Choice.test c.in-Choice.arm c.in-Choice.keyword c.in-Choice.forms)) end)) r after) (λ r after w. only_choice (macros_of c.args.self.now.macros) c.args.room c.args.self.now.scope c.args.self.now.counts c.in-Choice.at c.in-Choice.test c.in-Choice.arm c.in-Choice.keyword c.in-Choice.forms r after w) c.open_form-in-Choice.result c.form_entry-in-Choice.result c.open_form-in-Choice.new.self.counts c.form_entry-in-Choice.ensures c.open_form-in-Choice.ensures.leads)

pub returns-in-Choice-clause-ready : goal.returns-in-Choice-clause-ready
returns-in-Choice-clause-ready c = entry_ready c.args.room c.open_form-in-Choice.result c.form_entry-in-Choice.result c.form_entry-in-Choice.ensures c.open_form-in-Choice.ensures.ready

pub returns-in-Choice-clause-around : goal.returns-in-Choice-clause-around
returns-in-Choice-clause-around c = entry_around (SameAround c.args.self.now c.open_form-in-Choice.new.self) c.open_form-in-Choice.result c.form_entry-in-Choice.result c.form_entry-in-Choice.ensures (always _ c.open_form-in-Choice.result c.open_form-in-Choice.ensures.around)

pub returns-in-LambdaForm-clause-leads : goal.returns-in-LambdaForm-clause-leads
returns-in-LambdaForm-clause-leads c = rw c.in-LambdaForm.is (entry_led (macros_of c.args.self.now.macros) c.args.room c.args.self.now.scope (λ r after. Walked (macros_of c.args.self.now.macros) c.args.room c.args.self.now.scope c.args.self.now.counts (lambda_form c.in-LambdaForm.at (form c.in-LambdaForm.value)) r after) (λ r after. Walked (macros_of c.args.self.now.macros) c.args.room c.args.self.now.scope c.args.self.now.counts (lambda_form c.in-LambdaForm.at (form c.in-LambdaForm.value)) r after) (λ r after w. w) c.value_form.result c.form_entry-in-LambdaForm.result c.value_form.new.self.counts c.form_entry-in-LambdaForm.ensures c.value_form.ensures.leads)

pub returns-in-LambdaForm-clause-ready : goal.returns-in-LambdaForm-clause-ready
returns-in-LambdaForm-clause-ready c = entry_ready c.args.room c.value_form.result c.form_entry-in-LambdaForm.result c.form_entry-in-LambdaForm.ensures c.value_form.ensures.ready

pub returns-in-LambdaForm-clause-around : goal.returns-in-LambdaForm-clause-around
returns-in-LambdaForm-clause-around c = entry_around (SameAround c.args.self.now c.value_form.new.self) c.value_form.result c.form_entry-in-LambdaForm.result c.form_entry-in-LambdaForm.ensures (always _ c.value_form.result c.value_form.ensures.around)

pub returns-in-Variable-clause-leads : goal.returns-in-Variable-clause-leads
returns-in-Variable-clause-leads c = rw c.in-Variable.is (entry_led (macros_of c.args.self.now.macros) c.args.room c.args.self.now.scope (λ r after. TurnWalked (macros_of c.args.self.now.macros) c.args.room c.args.self.now.scope (becomes c.args.self.now.counts (variable_at c.in-Variable.at c.in-Variable.binder (open_of c.in-Variable.value) (data_of c.in-Variable.forms))) r after) (λ r after. Walked (macros_of c.args.self.now.macros) c.args.room c.args.self.now.scope c.args.self.now.counts (variable c.in-Variable.at c.in-Variable.binder (open_of c.in-Variable.value) (data_of c.in-Variable.forms)) r after) (λ r after w. later (macros_of c.args.self.now.macros) c.args.room c.args.self.now.scope c.args.self.now.counts (variable c.in-Variable.at c.in-Variable.binder (open_of c.in-Variable.value) (data_of c.in-Variable.forms)) _ r after refl w) c.variable_form.result c.form_entry-in-Variable.result c.args.self.now.counts c.form_entry-in-Variable.ensures (c.variable_form.ensures.leads (macros_of c.args.self.now.macros) c.args.self.now.scope c.args.self.now.counts))

pub returns-in-Variable-clause-ready : goal.returns-in-Variable-clause-ready
returns-in-Variable-clause-ready c = entry_ready c.args.room c.variable_form.result c.form_entry-in-Variable.result c.form_entry-in-Variable.ensures c.variable_form.ensures.ready

pub returns-in-Body-clause-leads : goal.returns-in-Body-clause-leads
returns-in-Body-clause-leads c = rw c.in-Body.is c.body_entry.ensures.leads

pub returns-in-Refused-clause-leads : goal.returns-in-Refused-clause-leads
returns-in-Refused-clause-leads c = rw c.in-Refused.is (record { counts = c.args.self.now.counts; form = refused c.in-Refused.at; reaches = here; stop = refl })
