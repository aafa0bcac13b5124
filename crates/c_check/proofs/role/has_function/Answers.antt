use Rattle.std.proofs.Common.{◌∙◌, sym, arith}
use Rattle.c_meaning.specs.Breaches.{is_function}
use Rattle.c_check.proofs.Rest.{any_here, any_on, any_end}
use Rattle.c_check.proofs.role.has_function.Goals as goal

pub returns-then-is_function : goal.returns-then-is_function
returns-then-is_function c =
    any_here is_function c.args.names.now c.loop-place.place c.loop-place.invariant c.name.result.now c.name.ensures (sym c.is_function.ensures ∙ c.if-is_function.true)

pub loop-place-preserved : goal.loop-place-preserved
loop-place-preserved c =
    any_on is_function c.args.names.now c.loop-place.place c.loop-place.invariant c.name.result.now c.name.ensures (sym c.is_function.ensures ∙ c.if-is_function.false)

pub returns : goal.returns
returns c = any_end is_function c.args.names.now c.loop-place.place c.loop-place.invariant (omega arith)
