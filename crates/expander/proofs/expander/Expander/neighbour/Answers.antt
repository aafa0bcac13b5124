use Rattle.scheme_data.specs.Forms.{form, next}
use Rattle.core_forms.specs.Code.{data_of}
use Rattle.expansion_steps.specs.Heads.{macros_of}
use Rattle.expander.proofs.Groups.{behind_refused, behind_instead, behind_found}
use Rattle.expander.proofs.expander.Expander.neighbour.Goals as goal

pub returns-in-Err-Form-clause-turns : goal.returns-in-Err-Form-clause-turns
returns-in-Err-Form-clause-turns c = behind_refused (macros_of c.args.self.now.macros) c.args.self.now.counts c.args.group.now (next (form c.args.datum) (data_of c.args.forms)) c.args.self.now.scope c.look.new.self.counts
    c.in-Err-Form.field-0 c.in-Err-Form.at c.in-Err-Form.field-0-is c.in-Err-Form.ensures.looks

pub returns-in-Ok-Instead-clause-turns : goal.returns-in-Ok-Instead-clause-turns
returns-in-Ok-Instead-clause-turns c = behind_instead (macros_of c.args.self.now.macros) c.args.self.now.counts c.args.group.now (next (form c.args.datum) (data_of c.args.forms)) c.args.self.now.scope c.look.new.self.counts
    c.in-Ok-Instead.field-0 c.in-Ok-Instead.others c.in-Ok-Instead.field-0-is c.in-Ok-Instead.ensures.looks

pub returns-in-Ok-First-clause-turns : goal.returns-in-Ok-First-clause-turns
returns-in-Ok-First-clause-turns c = behind_found (macros_of c.args.self.now.macros) c.args.self.now.counts c.args.group.now (next (form c.args.datum) (data_of c.args.forms)) c.args.self.now.scope c.look.new.self.counts
    c.in-Ok-First.field-0 c.in-Ok-First.first c.behind.new.group c.behind.result c.behind.new.self.counts c.in-Ok-First.field-0-is c.in-Ok-First.ensures.looks c.behind.ensures.counts c.behind.ensures.turns
