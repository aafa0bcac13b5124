use Rattle.derived_forms.proofs.RowSteps.{symbol_first}
use Rattle.derived_forms.proofs.derived.begins_with_symbol.Goals as goal

pub returns-in-Some : goal.returns-in-Some
returns-in-Some c = symbol_first c.args.forms.now c.in-Some.first.now c.is_symbol.result (c.in-Some.ensures {u = tt}) c.is_symbol.ensures
