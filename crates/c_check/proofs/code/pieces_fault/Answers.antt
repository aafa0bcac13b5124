use Rattle.std.proofs.Common.{◌∙◌, sym}
use Rattle.c_check.specs.Scopes.{state_of}
use Rattle.c_check.proofs.Rest.{rest_at}
use Rattle.c_check.proofs.Walking.{walk_right}
use Rattle.c_check.proofs.code.pieces_fault.Goals as goal

pub loop-piece-preserved : goal.loop-piece-preserved
loop-piece-preserved c = (
  c.in_ok-enter.ensures.depths,
  walk_right (state_of c.args.scope.now) c.args.pieces.now c.loop-piece.piece-index (state_of c.loop-piece.scope) c.loop-piece.invariant.1 c.piece-item.result
      (rest_at c.args.pieces.now c.loop-piece.piece-index c.piece-item.result c.loop-piece-test.true c.piece-item.is) c.fault-fault.result c.fault-fault.ensures
      (sym c.is_some.ensures ∙ c.if-is_some.false) (state_of c.enter.new.self) c.in_ok-enter.ensures.next,
)
