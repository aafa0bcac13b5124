-- What the code's rules stand for.
use Rattle.std.specs.Prelude.{List, map, Option, Some, None}
use Rattle.syntax_rules.specs.declared.rules.Rule.{Rule}
use Rattle.syntax_rules.specs.declared.rules.Rules.{Rules}
use Rattle.syntax_rules.specs.TreeViews.{the_pattern, the_template, parts}
use Rattle.scheme_data.specs.Forms.{Form, Forms, form, forms}
use Rattle.scheme_data.specs.declared.datum.Datum.{Datum}
use Rattle.syntax_rules.specs.Trees as tree

abbrev pub the_rule : Rule → tree.Rule
the_rule r = record { pattern = parts (the_pattern r.pattern); paths = r.paths; template = the_template r.template }

abbrev pub the_macro : Rules → tree.Macro
the_macro r = record { name = r.name; rules = map the_rule r.rules }

abbrev pub rule_if : Option Rule → Option tree.Rule
rule_if None = None
rule_if (Some r) = Some (the_rule r)

abbrev pub rule_list_if : Option (List Rule) → Option (List tree.Rule)
rule_list_if None = None
rule_list_if (Some rs) = Some (map the_rule rs)

abbrev pub macro_if : Option Rules → Option tree.Macro
macro_if None = None
macro_if (Some r) = Some (the_macro r)

abbrev pub form_if : Option Datum → Option Form
form_if None = None
form_if (Some d) = Some (form d)

abbrev pub forms_of : List Datum → Forms
forms_of ds = forms (map form ds)
