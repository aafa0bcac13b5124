use Rattle.std.proofs.Common.{sym}
use Rattle.derived_forms.proofs.ClauseSteps.{not_empty, taken, list_parts, else_with, test_with}
use Rattle.derived_forms.proofs.derived.clause_of.Goals as goal

pub returns-else-is_empty-2 : goal.returns-else-is_empty-2
returns-else-is_empty-2 c = else_with _ c.in-List.field-0 c.remove-first.result c.remove-first.new.self
    (list_parts c.args.clause c.in-List.field-0 c.in-List.items c.remove-first.result c.remove-first.new.self c.in-List.is (taken _ _ _ c.remove-first.ensures.item c.remove-first.ensures.rest))
    (sym (c.if-says.ensures {u = tt})) (not_empty _ _ c.if-is_empty-2.false c.is_empty-then-says.ensures)

pub returns : goal.returns
returns c = test_with _ c.in-List.field-0 c.remove-first.result c.remove-first.new.self _
    (list_parts c.args.clause c.in-List.field-0 c.in-List.items c.remove-first.result c.remove-first.new.self c.in-List.is (taken _ _ _ c.remove-first.ensures.item c.remove-first.ensures.rest))
    (sym (c.if-says.ensures {u = tt})) c.clause_with.ensures
