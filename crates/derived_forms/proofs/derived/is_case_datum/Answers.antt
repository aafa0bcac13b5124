use Rattle.derived_forms.proofs.ClauseSteps.{listed_datum}
use Rattle.derived_forms.proofs.derived.is_case_datum.Goals as goal

pub returns-in-List : goal.returns-in-List
returns-in-List c = listed_datum c.args.datum.now c.in-List.field-0 c.in-List.items c.is_empty.result c.in-List.is c.is_empty.ensures
