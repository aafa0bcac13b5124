use Rattle.c_check.specs.Blocks.{IsOpen}
use Rattle.c_check.specs.Scopes.{state_of}
use Rattle.c_check.proofs.Walking.{WalksFrom}
use Rattle.c_check.proofs.code.pieces_fault.Given as goal

abbrev pub invariant-loop-piece : goal.invariant-loop-piece
invariant-loop-piece l = IsOpen l.scope.blocks × WalksFrom (state_of l.fn.scope) l.pieces l.piece-index (state_of l.scope)
