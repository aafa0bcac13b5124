use Rattle.expander.specs.Answers.{module_of}
use Rattle.expander.proofs.TopExact.{gives, refuses}
use Rattle.expander.proofs.module.expand_module.Goals as goal

pub returns : goal.returns
returns c = record {
  answer = c.answer.ensures;
  expanded = gives (module_of c.args.forms.now) c.answer.result c.answer.ensures;
  refused = refuses (module_of c.args.forms.now) c.answer.result c.answer.ensures;
}
