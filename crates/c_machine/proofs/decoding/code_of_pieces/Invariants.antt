use Rattle.std.proofs.Common.{◌≡◌, drop, map}
use Rattle.c_tree.specs.Pieces.{piece_of}
use Rattle.c_machine.specs.Decoding.{decoded_all}
use Rattle.c_machine.proofs.decoding.code_of_pieces.Given as goal

abbrev pub invariant-loop-i : goal.invariant-loop-i
invariant-loop-i l = l.decoding ≡ decoded_all l.names l.funs (map piece_of (drop l.i l.parts)) l.initial.decoding
