use Rattle.core_forms.specs.Code.{data_of}
use Rattle.core_forms.proofs.Sides.{sides_more, sides_end}
use Rattle.core_forms.proofs.binders.bindings_of.Goals as goal

pub loop-binding-preserved : goal.loop-binding-preserved
loop-binding-preserved c = sides_more (data_of c.args.bindings) c.loop-binding.names c.loop-binding.values c.loop-binding.bindings c.push.new.self c.push-in-Some.new.self c.pop.new.self
    c.in-Some.binding c.in-Some-pair_of.field-0.name c.in-Some-pair_of.field-0.value c.loop-binding.invariant c.in-Some.ensures c.in-Some-pair_of.ensures (c.in_ok-push.ensures {u = tt}).ok (c.in_ok-push-2.ensures {u = tt}).ok

pub returns : goal.returns
returns c = sides_end (data_of c.args.bindings) c.loop-binding.names c.loop-binding.values c.loop-binding.bindings c.loop-binding.invariant c.in_default.ensures.0
