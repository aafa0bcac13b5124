use Rattle.core_forms.specs.Mid.{raw}
use Rattle.core_forms.specs.Working.{open_of}
use Rattle.expansion_steps.specs.Heads.{macros_of}
use Rattle.expander.proofs.EntryWalks.{made_leads}
use Rattle.expander.proofs.expander.Expander.open_form.Goals as goal

pub returns-clause-leads : goal.returns-clause-leads
returns-clause-leads c = made_leads (macros_of c.args.self.now.macros) c.args.room c.args.self.now.scope c.args.self.now.counts (raw (open_of c.args.opened)) c.in_ok-made.made c.core_of.new.self.counts c.made_form.result c.in_ok-made.ensures.made c.made_form.ensures.leads
