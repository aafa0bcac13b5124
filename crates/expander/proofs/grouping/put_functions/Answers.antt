use Rattle.std.proofs.Common.{◌∙◌}
use Rattle.expander.proofs.Groups.{functions_more, binders_more, fits_more}
use Rattle.expander.proofs.grouping.put_functions.Goals as goal

pub taken-preserved : goal.taken-preserved
taken-preserved c = record {
  names = binders_more c.taken.functions c.pop.new.self c.in-Some.function c.push.new.self c.taken.names c.in-Some.ensures (c.in_ok-push.ensures {u = tt}).ok ∙ c.taken.invariant.names;
  parts = λ xs. functions_more c.taken.functions c.pop.new.self c.in-Some.function c.push-in-Some.new.self c.taken.parts xs c.in-Some.ensures (c.in_ok-push-2.ensures {u = tt}).ok ∙ c.taken.invariant.parts xs;
  fits = λ h. fits_more _ c.push-in-Some.new.self c.taken.parts (c.in_ok-push-2.ensures {u = tt}).ok (c.taken.invariant.fits h);
}
