use Rattle.std.proofs.Common.{sym}
use Rattle.derived_forms.proofs.ClauseSteps.{not_empty, acting, passing, same_items}
use Rattle.derived_forms.proofs.derived.clause_with.Goals as goal

pub returns-then-not-is_passing : goal.returns-then-not-is_passing
returns-then-not-is_passing c = acting _ c.args.items (not_empty _ _ c.if-is_empty.false c.is_empty.ensures) (same_items _ _ c.as_slice.ensures (sym (c.if-not-is_passing.ensures {u = tt})))

pub returns-in-Some : goal.returns-in-Some
returns-in-Some c = passing _ c.args.items c.in-Some.receiver c.pop.new.self (same_items _ _ c.as_slice.ensures (sym (c.if-not-is_passing.ensures {u = tt}))) (c.in-Some.ensures {u = tt})
