use Rattle.std.proofs.Common.{◌≡◌, drop, map}
use Rattle.c_tree.specs.Pieces.{piece_of}
use Rattle.c_check.specs.Pieces.{ends_as}
use Rattle.c_check.specs.Walks.{ends_of}
use Rattle.c_check.proofs.code.labels_ahead.Given as goal

abbrev pub invariant-loop-i : goal.invariant-loop-i
invariant-loop-i l = ends_as l.ends ≡ ends_of (map piece_of (drop l.i l.pieces))
