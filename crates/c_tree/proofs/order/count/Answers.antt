use Rattle.std.proofs.Common.{arith}
use Rattle.c_tree.proofs.Backwards.{weight_small, weights-take}
use Rattle.c_tree.proofs.order.count.Goals as goal

pub loop-piece-preserved : goal.loop-piece-preserved
loop-piece-preserved c =
    let p = c.piece-item.result in
    let more = weights-take c.args.ps.now c.loop-piece.piece-index p c.loop-piece-test.true c.piece-item.is in
    let small = weight_small p in
    (omega arith, omega arith)
