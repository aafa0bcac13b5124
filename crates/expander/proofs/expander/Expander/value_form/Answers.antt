use Rattle.scheme_data.specs.Forms.{form}
use Rattle.core_forms.specs.Mid.{lambda_form}
use Rattle.expansion_steps.specs.Heads.{macros_of}
use Rattle.expander.proofs.EntryWalks.{made_leads}
use Rattle.expander.proofs.expander.Expander.value_form.Goals as goal

pub returns-clause-leads : goal.returns-clause-leads
returns-clause-leads c = made_leads (macros_of c.args.self.now.macros) c.args.room c.args.self.now.scope c.args.self.now.counts (lambda_form c.args.at (form c.args.value)) c.in_ok-made.made c.lambda_of.new.self.counts c.made_form.result c.in_ok-made.ensures.made c.made_form.ensures.leads
