use Rattle.std.proofs.Common.{sym, ◌∙◌, arith}
use Rattle.scheme_data.proofs.TypeSplits.{past_one, found}
use Rattle.scheme_data.proofs.typing.split_type.Goals as goal

pub returns-then-begins_type : goal.returns-then-begins_type
returns-then-begins_type c = found c.loop-i.i c.args.name.now (omega arith) (sym c.begins_type.ensures ∙ c.if-begins_type.true) c.loop-i.invariant

pub loop-i-preserved : goal.loop-i-preserved
loop-i-preserved c = past_one c.loop-i.i c.args.name.now (omega arith) (sym c.begins_type.ensures ∙ c.if-begins_type.false) c.loop-i.invariant
