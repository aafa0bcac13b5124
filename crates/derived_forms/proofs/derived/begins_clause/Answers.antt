use Rattle.std.proofs.Common.{List, ap, ◌∙◌}
use Rattle.std.specs.List.{list_all}
use Rattle.scheme_data.specs.declared.datum.Datum.{Datum}
use Rattle.derived_forms.specs.Clauses.{may_stand}
use Rattle.derived_forms.proofs.ClauseSteps.{of_data}
use Rattle.derived_forms.proofs.derived.begins_clause.Goals as goal

pub returns-in-List : goal.returns-in-List
returns-in-List c = of_data c.args.head.now c.in-List.field-0 c.in-List.data c.args.last c.are_case_data.result c.in-List.is
    (c.are_case_data.ensures ∙ ap (λ (ds : List Datum). list_all may_stand ds) c.as_slice.ensures)
