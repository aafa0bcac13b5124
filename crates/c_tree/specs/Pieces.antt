-- Statements as pieces of text, in the order in which they are read and written.
use Rattle.std.specs.Prelude.{◌≡◌, List, [], ◌∷◌, Option, Some, None, Result, Ok, Err}
use Rattle.scheme_data.specs.declared.text.OutOfMemory.{OutOfMemory}
use Rattle.c_tree.specs.declared.tree.CStmt.{CStmt}
use Rattle.c_tree.specs.declared.tree.CStmt.TheVariants as stmt
use Rattle.c_tree.specs.declared.pieces.Piece.{Piece}
use Rattle.c_tree.specs.declared.pieces.Piece.TheVariants as piece
use Rattle.c_tree.specs.declared.pieces.PieceRef.{PieceRef}
use Rattle.c_tree.specs.declared.pieces.PieceRef.TheVariants as shown
use Rattle.c_tree.specs.declared.laying.Layout.{Layout}
use Rattle.c_tree.specs.Code.{Code, done, assign, call, return, test, loop, ended, goto, catch, protect}
use Rattle.c_tree.specs.Layout.{code_of}

-- the pieces of code, in front of others
abbrev pub pieces : Code → List Piece → List Piece
pieces done others = others
pieces (assign x e rest) others = piece.Assign x e ∷ pieces rest others
pieces (call c rest) others = piece.Call c ∷ pieces rest others
pieces (return e rest) others = piece.Return e ∷ pieces rest others
pieces (test e a b rest) others = piece.If e ∷ pieces a (piece.Else ∷ pieces b (piece.End ∷ pieces rest others))
pieces (loop l body rest) others = piece.Loop l ∷ pieces body (piece.End ∷ pieces rest others)
pieces (ended body l rest) others = piece.Begin ∷ pieces body (piece.Ended l ∷ pieces rest others)
pieces (goto l rest) others = piece.Goto l ∷ pieces rest others
pieces (catch k r body rest) others = piece.Catch k r ∷ pieces body (piece.End ∷ pieces rest others)
pieces (protect a b rest) others = piece.Protect ∷ pieces a (piece.Cleanup ∷ pieces b (piece.End ∷ pieces rest others))

-- a statement without what is in its blocks
abbrev pub opening : CStmt → Piece
opening (stmt.Assign x e) = piece.Assign x e
opening (stmt.Call c) = piece.Call c
opening (stmt.Return e) = piece.Return e
opening (stmt.If e p q) = piece.If e
opening (stmt.Loop l p) = piece.Loop l
opening (stmt.Ended p l) = piece.Begin
opening (stmt.Goto l) = piece.Goto l
opening (stmt.Catch k r p) = piece.Catch k r
opening (stmt.Protect p q) = piece.Protect

abbrev pub piece_of : PieceRef → Piece
piece_of (shown.Statement s) = opening s.now
piece_of shown.Else = piece.Else
piece_of (shown.Ended l) = piece.Ended l.now
piece_of shown.Cleanup = piece.Cleanup
piece_of shown.End = piece.End

-- a list has these pieces, or they are those of no code
abbrev pub LaysOut : List Piece → Option Layout → Type 0
LaysOut ps None = (c : Code) → ps ≡ pieces c [] → ⊥
LaysOut ps (Some l) = ps ≡ pieces (code_of l.stmts l.body) []

-- the list has this code, unless memory runs out
abbrev pub GivesCode : Code → Result (Option Layout) OutOfMemory → Type 0
GivesCode c (Ok None) = ⊥
GivesCode c (Ok (Some l)) = code_of l.stmts l.body ≡ c
GivesCode c (Err e) = Unit {0}
