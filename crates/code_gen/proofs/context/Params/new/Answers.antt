use Rattle.std.proofs.Common.{arith}
use Rattle.code_gen.proofs.Places.{one_located}
use Rattle.code_gen.proofs.context.Params.new.Goals as goal

pub loop-i-preserved : goal.loop-i-preserved
loop-i-preserved c = record {
  within = omega arith;
  has = one_located c.loop-i.locals c.insert.new.self c.args.params.now _ c.loop-i.i _ (omega arith) c.loop-i.invariant.within (c.in_ok-insert.ensures.updates) c.loop-i.invariant.has;
}
