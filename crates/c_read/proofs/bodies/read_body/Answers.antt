use Rattle.std.proofs.Common.{subst}
use Rattle.c_tree.specs.Pieces.{LaysOut}
use Rattle.c_read.proofs.PieceLoop.{laid_body, not_laid_body, yields_body}
use Rattle.c_read.proofs.bodies.read_body.Goals as goal

pub returns-in-Some-clause-read : goal.returns-in-Some-clause-read
returns-in-Some-clause-read c =
    laid_body c.args.tokens.now c.read_pieces.new.tokens c.in_ok-pieces.pieces c.in-Some.layout c.in_ok-pieces.ensures.read (subst (LaysOut c.in_ok-pieces.pieces) c.in-Some.is c.in_ok-layout.ensures.answer)

pub returns-in-Some-clause-spelled : goal.returns-in-Some-clause-spelled
returns-in-Some-clause-spelled c =
    yields_body c.args.tokens.now c.read_pieces.new.tokens c.in_ok-pieces.pieces c.in-Some.layout c.in_ok-pieces.ensures.spelled (subst (LaysOut c.in_ok-pieces.pieces) c.in-Some.is c.in_ok-layout.ensures.answer)

pub returns-in-None-clause-read : goal.returns-in-None-clause-read
returns-in-None-clause-read c =
    not_laid_body c.args.tokens.now c.read_pieces.new.tokens c.in_ok-pieces.pieces c.in_ok-pieces.ensures.read (subst (LaysOut c.in_ok-pieces.pieces) c.in-None.is c.in_ok-layout.ensures.answer)
