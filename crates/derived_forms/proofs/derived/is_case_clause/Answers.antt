use Rattle.std.proofs.Common.{List, ap, ◌∙◌}
use Rattle.scheme_data.specs.declared.datum.Datum.{Datum}
use Rattle.core_forms.specs.Code.{data_of}
use Rattle.derived_forms.specs.Clauses.{is_clause_of}
use Rattle.derived_forms.proofs.ClauseSteps.{of_list}
use Rattle.derived_forms.proofs.derived.is_case_clause.Goals as goal

pub returns-in-List : goal.returns-in-List
returns-in-List c = of_list c.args.clause.now c.in-List.field-0 c.in-List.items c.args.last c.is_clause_of.result c.in-List.is
    (c.is_clause_of.ensures ∙ ap (λ (ds : List Datum). is_clause_of (data_of ds) c.args.last) c.as_slice.ensures)
