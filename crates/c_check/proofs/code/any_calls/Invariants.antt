use Rattle.std.proofs.Common.{◌≡◌, drop, map}
use Rattle.std.specs.List.{list_any}
use Rattle.c_tree.specs.Pieces.{piece_of}
use Rattle.c_check.specs.Pieces.{calls_function}
use Rattle.c_check.proofs.code.any_calls.Given as goal

abbrev pub invariant-loop-piece : goal.invariant-loop-piece
invariant-loop-piece l = list_any calls_function (map piece_of l.pieces) ≡ list_any calls_function (map piece_of (drop l.piece-index l.pieces))
