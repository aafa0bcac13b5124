use Rattle.c_tree.specs.Functions.{fun_of}
use Rattle.c_write.proofs.Lists.{adds_code, named_listed}
use Rattle.c_write.proofs.piece.put_code.Goals as goal

pub put_pieces-requires : goal.put_pieces-requires
put_pieces-requires c =
    named_listed c.in_ok-pieces.pieces c.as_slice.result.now (fun_of c.args.function.now).code c.as_slice.ensures c.in_ok-pieces.ensures c.requires

pub returns : goal.returns
returns c =
    adds_code c.in_ok-pieces.pieces c.as_slice.result.now (fun_of c.args.function.now).code c.as_slice.ensures c.in_ok-pieces.ensures c.in_ok-put_pieces.ensures
