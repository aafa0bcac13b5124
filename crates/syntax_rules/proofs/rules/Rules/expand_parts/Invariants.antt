use Rattle.std.proofs.Common.{◌≡◌, map, drop}
use Rattle.scheme_data.specs.Forms.{form, forms, form_place}
use Rattle.syntax_rules.specs.Uses.{by_rules}
use Rattle.syntax_rules.specs.Views.{the_rule}
use Rattle.syntax_rules.proofs.rules.Rules.expand_parts.Given as goal

abbrev pub invariant-loop-rule : goal.invariant-loop-rule
invariant-loop-rule l = by_rules (map the_rule l.self.rules) (form_place (form l.call)) l.mark (form l.call) (forms (map form l.parts))
    ≡ by_rules (map the_rule (drop l.rule-index l.rule-items)) (form_place (form l.call)) l.mark (form l.call) (forms (map form l.parts))
