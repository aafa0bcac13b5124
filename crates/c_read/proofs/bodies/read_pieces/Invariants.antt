use Rattle.std.proofs.Common.{◌≡◌, length}
use Rattle.c_tree.specs.Spelling.{pieces_tokens, NamedPieces}
use Rattle.c_read.specs.Productions.{all_pieces}
use Rattle.c_read.proofs.PieceLoop.{Within}
use Rattle.c_read.proofs.bodies.read_pieces.Given as goal

abbrev pub invariant-loop-alloc : goal.invariant-loop-alloc
invariant-loop-alloc l = record {
  within : Within (all_pieces l.fn.tokens) l.pieces l.opens l.tokens;
  spelled : l.fn.tokens ≡ pieces_tokens l.pieces l.tokens;
  named : NamedPieces l.pieces;
}

abbrev pub decreases-loop-alloc : goal.decreases-loop-alloc
decreases-loop-alloc l = length l.tokens
