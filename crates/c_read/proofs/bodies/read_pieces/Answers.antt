use Rattle.std.proofs.Common.{◌≡◌, ◌<◌, length, None, [], ◌∷◌, ◌++◌, sym, ap, subst}
use Rattle.std.proofs.lemmas.Result.{err_from_is_err_and}
use Rattle.c_tree.specs.Spelling.{piece_tokens, pieces_tokens, NamedPieces}
use Rattle.c_read.specs.Productions.{after_body, all_pieces}
use Rattle.c_read.proofs.Many.{spelled_on}
use Rattle.c_read.proofs.PieceLoop.{Within, within_starts, within_goes_on, within_stops, within_ends, pieces_more, named_pieces_more, piece_fewer}
use Rattle.c_read.proofs.bodies.read_pieces.Goals as goal

pub loop-alloc-init : goal.loop-alloc-init
loop-alloc-init c =
    let is : c.new-pieces.result ≡ [] = c.new-pieces.ensures in
    record {
      within = subst (λ opens. Within (all_pieces c.args.tokens.now) c.new-pieces.result opens c.args.tokens.now) (sym c.new-opens.ensures) (within_starts c.new-pieces.result c.args.tokens.now is);
      spelled = sym (ap (λ ps. pieces_tokens ps c.args.tokens.now) is);
      named = subst NamedPieces (sym is) tt;
    }

pub loop-alloc-preserved : goal.loop-alloc-preserved
loop-alloc-preserved c =
    let is : c.push.new.self ≡ c.loop-alloc.pieces ++ c.in_ok-piece.piece ∷ [] = c.in_ok-push.ensures.ok in
    let none : after_body c.loop-alloc.opens c.loop-alloc.tokens ≡ None = c.loop-alloc-test.ensures.0 in
    let spelled = c.in_ok-piece.ensures.spelled in
    record {
      within = within_goes_on c.loop-alloc.invariant.within c.took_end.new.tokens c.read_piece.new.tokens c.in_ok-piece.piece c.push.new.self c.pass-passed.new.opens c.loop-alloc-test.ensures.1 none c.in_ok-piece.ensures.read
          (piece_fewer c.took_end.new.tokens c.read_piece.new.tokens c.in_ok-piece.piece spelled.0) is c.in_ok-passed.ensures;
      spelled = spelled_on pieces_tokens c.args.tokens.now c.loop-alloc.tokens c.took_end.new.tokens (piece_tokens c.in_ok-piece.piece c.read_piece.new.tokens) c.read_piece.new.tokens c.loop-alloc.pieces c.push.new.self c.in_ok-piece.piece
          c.loop-alloc.invariant.spelled c.loop-alloc-test.ensures.1 spelled.0 (pieces_more c.loop-alloc.pieces c.in_ok-piece.piece c.read_piece.new.tokens) is;
      named = subst NamedPieces (sym is) (named_pieces_more c.loop-alloc.pieces c.in_ok-piece.piece c.loop-alloc.invariant.named spelled.1);
    }

pub returns-in_err-piece-clause-read : goal.returns-in_err-piece-clause-read
returns-in_err-piece-clause-read c =
    let none : after_body c.loop-alloc.opens c.loop-alloc.tokens ≡ None = c.loop-alloc-test.ensures.0 in
    let p = err_from_is_err_and c.from_residual.result c.from_residual.ensures.1 in
    rw (p.1, p.2) (within_stops c.loop-alloc.invariant.within c.took_end.new.tokens c.read_piece.new.tokens c.read_piece.new.tokens c.in_err-piece.field-0.0 c.loop-alloc-test.ensures.1 none c.in_err-piece.ensures.read)

pub returns-clause-read : goal.returns-clause-read
returns-clause-read c = within_ends c.loop-alloc.invariant.within c.took_end.new.tokens c.loop-alloc-test.ensures.0

pub loop-alloc-smaller : goal.loop-alloc-smaller
loop-alloc-smaller c =
    subst (λ ts. length c.read_piece.new.tokens < length ts) c.loop-alloc-test.ensures.1
    (piece_fewer c.took_end.new.tokens c.read_piece.new.tokens c.in_ok-piece.piece c.in_ok-piece.ensures.spelled.0)
