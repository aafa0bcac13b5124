use Rattle.std.proofs.Common.{◌∙◌}
use Rattle.derived_forms.proofs.ClauseSteps.{none_are, clause_next, pushed, all_are}
use Rattle.derived_forms.proofs.derived.case_clauses.Goals as goal

pub returns-then-not-is_case_clause : goal.returns-then-not-is_case_clause
returns-then-not-is_case_clause c = none_are c.args.clauses c.loop-clause.clauses c.in-Some.clause c.pop.new.self c.is_empty-last.result c.args.at c.loop-clause.invariant.1
    (c.in-Some.ensures {u = tt}) c.is_empty-last.ensures (c.if-not-is_case_clause.ensures {u = tt})

pub loop-clause-preserved : goal.loop-clause-preserved
loop-clause-preserved c = (
  pushed c.loop-clause.items c.push.new.self c.loop-clause.clauses c.pop.new.self c.args.clauses c.in-Some.clause (c.in_ok-push.ensures {u = tt}).ok (c.in-Some.ensures {u = tt}) c.loop-clause.invariant.0,
  c.loop-clause.invariant.1 ∙ clause_next c.loop-clause.clauses c.in-Some.clause c.pop.new.self c.is_empty-last.result _ (c.in-Some.ensures {u = tt}) c.is_empty-last.ensures (c.if-not-is_case_clause.ensures {u = tt}),
)

pub returns : goal.returns
returns c = all_are c.args.clauses c.loop-clause.items c.loop-clause.clauses c.loop-clause.invariant.0 c.loop-clause.invariant.1 (c.in_default.ensures {u = tt}).0
