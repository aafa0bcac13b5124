-- Pieces, decoded from the last to the first.
use Rattle.std.specs.Prelude.{ℕ, ◌-◌, List, [], ◌∷◌}
use Rattle.c_tree.specs.declared.pieces.Piece.{Piece}
use Rattle.c_tree.specs.declared.pieces.Piece.TheVariants as piece
use Rattle.c_meaning.specs.Execution.{Names, position_of}
use Rattle.c_machine.specs.declared.program.Target.TheVariants as target
use Rattle.c_machine.specs.declared.program.Instr.{Instr}
use Rattle.c_machine.specs.declared.program.Instr.TheVariants as instr
use Rattle.c_machine.specs.declared.lines.Open.{Open}
use Rattle.c_machine.specs.declared.lines.Decoding.{Decoding}
use Rattle.c_machine.specs.Decoded.{line, call_of, expr_instr}

-- no piece
abbrev pub started : ℕ → Instr → Decoding
started end last = record { at = end; next = end; blocks = []; lines = line last end ∷ [] }

-- a line in front of the others
abbrev pub put : Instr → Decoding → Decoding
put i d = record { at = d.at - 1; next = d.at - 1; blocks = d.blocks; lines = line i d.next ∷ d.lines }

-- the end of a statement with blocks
abbrev pub shut : Decoding → Decoding
shut d = record { at = d.at; next = d.next; blocks = record { after = d.next; second = d.next } ∷ d.blocks; lines = d.lines }

-- the beginning of the second block of the innermost statement that is open
abbrev pub parted : List Open → Decoding → Decoding
parted [] d = d
parted (o ∷ os) d = record { at = d.at; next = o.after; blocks = record { after = o.after; second = d.next } ∷ os; lines = d.lines }

-- the beginning of that statement
abbrev pub begun : List Open → Decoding → Decoding
begun [] d = d
begun (o ∷ os) d = record { at = d.at; next = d.next; blocks = os; lines = d.lines }

-- where its second block begins
abbrev pub second_in : List Open → ℕ
second_in [] = 0
second_in (o ∷ os) = o.second

-- one more piece, in front of those that were decoded
abbrev pub decoded : Names → Names → Piece → Decoding → Decoding
decoded names funs (piece.Assign x e) d = put (expr_instr names funs (target.Local (position_of x names)) e) d
decoded names funs (piece.Call c) d = put (call_of names funs target.Nowhere c.callee c.args) d
decoded names funs (piece.Return e) d = put (expr_instr names funs target.Caller e) d
decoded names funs (piece.If e) d = put (expr_instr names funs (target.Test (second_in d.blocks)) e) (begun d.blocks d)
decoded names funs piece.Else d = parted d.blocks d
decoded names funs (piece.Loop l) d = put instr.Turn (begun d.blocks d)
decoded names funs piece.Begin d = put instr.Stop (begun d.blocks d)
decoded names funs (piece.Ended l) d = shut d
decoded names funs (piece.Goto l) d = put instr.Stop d
decoded names funs (piece.Catch k r) d = put instr.Stop (begun d.blocks d)
decoded names funs piece.Protect d = put instr.Stop (begun d.blocks d)
decoded names funs piece.Cleanup d = parted d.blocks d
decoded names funs piece.End d = shut d

-- pieces, in front of those that were decoded
abbrev pub decoded_all : Names → Names → List Piece → Decoding → Decoding
decoded_all names funs [] d = d
decoded_all names funs (p ∷ ps) d = decoded names funs p (decoded_all names funs ps d)
