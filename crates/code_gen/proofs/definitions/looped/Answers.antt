use Rattle.std.proofs.Common.{◌≡◌, ◌<◌, ◌^◌, subst, length, arith}
use Rattle.c_tree.specs.declared.pieces.Piece.TheVariants.{Loop}
use Rattle.core_tree.specs.Tree.{tree}
use Rattle.code_gen.specs.Settings.{setting}
use Rattle.code_gen.specs.Emission.{IsFresh, Puts}
use Rattle.code_gen.proofs.Written.{loop_written}
use Rattle.code_gen.proofs.definitions.looped.Goals as goal

pub returns : goal.returns
returns c =
    let w = setting c.args.ctx.now in
    let s = c.new-e.result in
    let few : c.count.result < 2 ^ 32 = c.count.type_inv in
    let count_is : c.count.result ≡ length w.params = c.count.ensures in
    loop_written w (tree c.args.node.now) s c.put.new.self c.body.new.e c.put-2.new.self (subst (IsFresh s) count_is c.new-e.ensures) (omega arith)
    (subst (λ l. Puts s c.put.new.self (Loop l)) c.in_ok-label.ensures c.in_ok-put.ensures) c.in_ok-body.ensures c.in_ok-put-2.ensures
