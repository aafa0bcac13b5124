use Rattle.std.proofs.Common.{◌∙◌}
use Rattle.scheme_data.specs.Forms.{form}
use Rattle.syntax_rules.proofs.Places.{same_place}
use Rattle.expansion_steps.proofs.Turns.{behind-it}
use Rattle.expansion_steps.proofs.turning.behind_head.Goals as goal

pub returns : goal.returns
returns c = record {
  place = c.place-at.ensures ∙ same_place c.args.datum;
  parts = behind-it (form c.args.datum) c.in-Some.items c.in_ok-forms.forms c.pop.new.self c.pop.result c.in-Some.ensures c.in_ok-forms.ensures c.pop.ensures;
}
