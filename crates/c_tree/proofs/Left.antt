-- What is left of code from a place in its text on: its statements, the ends of its blocks, and its pieces.
use Rattle.std.proofs.Common.{◌≡◌, ℕ, ◌+◌, List, [], ◌∷◌, ◌++◌, Option, Some, None, refl, sym, ap, ◌∙◌, arith}
use Rattle.c_tree.specs.declared.tree.CStmt.{CStmt}
use Rattle.c_tree.specs.declared.tree.CExpr.{CExpr}
use Rattle.c_tree.specs.declared.pieces.Piece.{Piece}
use Rattle.c_tree.specs.declared.pieces.Piece.TheVariants as piece
use Rattle.c_tree.specs.declared.closing.Closing.{Closing}
use Rattle.c_tree.specs.declared.closing.Closing.TheVariants.{End, Ended, Else, Cleanup}
use Rattle.c_tree.specs.Code.{Code, done, assign, call, return, test, loop, ended, goto, catch, protect}
use Rattle.c_tree.specs.Layout.{size, block, flat}
use Rattle.c_tree.specs.Pieces.{pieces}

-- a block ends, with a label or without, and then comes what follows it; or the first block of a statement ends, and then comes its second and what follows
pub data Frame : Type 0 where
  ends : Code → Frame
  stops : List ℕ → Code → Frame
  turns : Code → Code → Frame
  cleans : Code → Code → Frame

-- the rest of the innermost block, and what is behind each block around it
pub record Left : Type 0 where
  pub code : Code
  pub frames : List Frame

abbrev pub flat_behind : List Frame → ℕ → List CStmt
flat_behind [] at = []
flat_behind (ends rest ∷ fs) at = flat rest at (flat_behind fs (at + size rest))
flat_behind (stops l rest ∷ fs) at = flat rest at (flat_behind fs (at + size rest))
flat_behind (turns b rest ∷ fs) at = flat b at (flat rest (at + size b) (flat_behind fs (at + size b + size rest)))
flat_behind (cleans b rest ∷ fs) at = flat b at (flat rest (at + size b) (flat_behind fs (at + size b + size rest)))

abbrev pub closings_behind : List Frame → ℕ → List Closing
closings_behind [] at = []
closings_behind (ends rest ∷ fs) at = End at ∷ closings_behind fs (at + size rest)
closings_behind (stops l rest ∷ fs) at = Ended (record { end = at; label = l }) ∷ closings_behind fs (at + size rest)
closings_behind (turns b rest ∷ fs) at = Else (block at (at + size b)) ∷ closings_behind fs (at + size b + size rest)
closings_behind (cleans b rest ∷ fs) at = Cleanup (block at (at + size b)) ∷ closings_behind fs (at + size b + size rest)

abbrev pub pieces_behind : List Frame → List Piece
pieces_behind [] = []
pieces_behind (ends rest ∷ fs) = piece.End ∷ pieces rest (pieces_behind fs)
pieces_behind (stops l rest ∷ fs) = piece.Ended l ∷ pieces rest (pieces_behind fs)
pieces_behind (turns b rest ∷ fs) = piece.Else ∷ pieces b (piece.End ∷ pieces rest (pieces_behind fs))
pieces_behind (cleans b rest ∷ fs) = piece.Cleanup ∷ pieces b (piece.End ∷ pieces rest (pieces_behind fs))

abbrev pub flat_left : Left → ℕ → List CStmt
flat_left l at = flat l.code at (flat_behind l.frames (at + size l.code))

abbrev pub closings_left : Left → ℕ → List Closing
closings_left l at = closings_behind l.frames (at + size l.code)

abbrev pub pieces_left : Left → List Piece
pieces_left l = pieces l.code (pieces_behind l.frames)

abbrev pub left : Code → List Frame → Left
left c fs = record { code = c; frames = fs }

pub no_more : (at : ℕ) → at + 0 ≡ at
no_more at = omega arith

-- Reading back ------------------------------------------------------------------------------

-- what follows a block, where it ends so
abbrev pub read_if : CExpr → Code → List Frame → Option Left
read_if e a (turns b rest ∷ fs) = Some (left (test e a b rest) fs)
read_if e a _ = None

abbrev pub read_protect : Code → List Frame → Option Left
read_protect a (cleans b rest ∷ fs) = Some (left (protect a b rest) fs)
read_protect a _ = None

abbrev pub read_begin : Code → List Frame → Option Left
read_begin body (stops l rest ∷ fs) = Some (left (ended body l rest) fs)
read_begin body _ = None

abbrev pub read_block : (Code → Code) → List Frame → Option Left
read_block whole (ends rest ∷ fs) = Some (left (whole rest) fs)
read_block whole _ = None

abbrev pub read_second : (Code → Frame) → List Frame → Option Left
read_second frame (ends rest ∷ fs) = Some (left done (frame rest ∷ fs))
read_second frame _ = None

abbrev pub read_piece : Piece → Left → Option Left
read_piece (piece.Assign x e) l = Some (left (assign x e l.code) l.frames)
read_piece (piece.Call c) l = Some (left (call c l.code) l.frames)
read_piece (piece.Return e) l = Some (left (return e l.code) l.frames)
read_piece (piece.Goto name) l = Some (left (goto name l.code) l.frames)
read_piece (piece.If e) l = read_if e l.code l.frames
read_piece piece.Else l = read_second (turns l.code) l.frames
read_piece (piece.Loop name) l = read_block (loop name l.code) l.frames
read_piece piece.Begin l = read_begin l.code l.frames
read_piece (piece.Ended name) l = Some (left done (stops name l.code ∷ l.frames))
read_piece (piece.Catch k r) l = read_block (catch k r l.code) l.frames
read_piece piece.Protect l = read_protect l.code l.frames
read_piece piece.Cleanup l = read_second (cleans l.code) l.frames
read_piece piece.End l = Some (left done (ends l.code ∷ l.frames))

abbrev pub read_more : Piece → Option Left → Option Left
read_more p None = None
read_more p (Some l) = read_piece p l

-- what is left of the code that these pieces end
abbrev pub read : List Piece → Option Left
read [] = Some (left done [])
read (p ∷ ps) = read_more p (read ps)

pub read-pieces : (c : Code) (others : List Piece) (fs : List Frame) → read others ≡ Some (left done fs) → read (pieces c others) ≡ Some (left c fs)
read-pieces done others fs h = h
read-pieces (assign x e rest) others fs h = ap (read_more (piece.Assign x e)) (read-pieces rest others fs h)
read-pieces (call c rest) others fs h = ap (read_more (piece.Call c)) (read-pieces rest others fs h)
read-pieces (return e rest) others fs h = ap (read_more (piece.Return e)) (read-pieces rest others fs h)
read-pieces (test e a b rest) others fs h =
    let two = piece.End ∷ pieces rest others in
    let one = piece.Else ∷ pieces b two in
    let after_two : read two ≡ Some (left done (ends rest ∷ fs)) = ap (read_more piece.End) (read-pieces rest others fs h) in
    let after_one : read one ≡ Some (left done (turns b rest ∷ fs)) = ap (read_more piece.Else) (read-pieces b two (ends rest ∷ fs) after_two) in
    ap (read_more (piece.If e)) (read-pieces a one (turns b rest ∷ fs) after_one)
read-pieces (loop l body rest) others fs h =
    let end = piece.End ∷ pieces rest others in
    let after_end : read end ≡ Some (left done (ends rest ∷ fs)) = ap (read_more piece.End) (read-pieces rest others fs h) in
    ap (read_more (piece.Loop l)) (read-pieces body end (ends rest ∷ fs) after_end)
read-pieces (ended body l rest) others fs h =
    let end = piece.Ended l ∷ pieces rest others in
    let after_end : read end ≡ Some (left done (stops l rest ∷ fs)) = ap (read_more (piece.Ended l)) (read-pieces rest others fs h) in
    ap (read_more piece.Begin) (read-pieces body end (stops l rest ∷ fs) after_end)
read-pieces (goto l rest) others fs h = ap (read_more (piece.Goto l)) (read-pieces rest others fs h)
read-pieces (catch k r body rest) others fs h =
    let end = piece.End ∷ pieces rest others in
    let after_end : read end ≡ Some (left done (ends rest ∷ fs)) = ap (read_more piece.End) (read-pieces rest others fs h) in
    ap (read_more (piece.Catch k r)) (read-pieces body end (ends rest ∷ fs) after_end)
read-pieces (protect a b rest) others fs h =
    let two = piece.End ∷ pieces rest others in
    let one = piece.Cleanup ∷ pieces b two in
    let after_two : read two ≡ Some (left done (ends rest ∷ fs)) = ap (read_more piece.End) (read-pieces rest others fs h) in
    let after_one : read one ≡ Some (left done (cleans b rest ∷ fs)) = ap (read_more piece.Cleanup) (read-pieces b two (ends rest ∷ fs) after_two) in
    ap (read_more piece.Protect) (read-pieces a one (cleans b rest ∷ fs) after_one)

read-behind : (fs : List Frame) → read (pieces_behind fs) ≡ Some (left done fs)
read-behind [] = refl
read-behind (ends rest ∷ fs) = ap (read_more piece.End) (read-pieces rest (pieces_behind fs) fs (read-behind fs))
read-behind (stops l rest ∷ fs) = ap (read_more (piece.Ended l)) (read-pieces rest (pieces_behind fs) fs (read-behind fs))
read-behind (cleans b rest ∷ fs) =
    let two = piece.End ∷ pieces rest (pieces_behind fs) in
    let after_two : read two ≡ Some (left done (ends rest ∷ fs)) = ap (read_more piece.End) (read-pieces rest (pieces_behind fs) fs (read-behind fs)) in
    ap (read_more piece.Cleanup) (read-pieces b two (ends rest ∷ fs) after_two)
read-behind (turns b rest ∷ fs) =
    let two = piece.End ∷ pieces rest (pieces_behind fs) in
    let after_two : read two ≡ Some (left done (ends rest ∷ fs)) = ap (read_more piece.End) (read-pieces rest (pieces_behind fs) fs (read-behind fs)) in
    ap (read_more piece.Else) (read-pieces b two (ends rest ∷ fs) after_two)

pub read-left : (l : Left) → read (pieces_left l) ≡ Some l
read-left l = read-pieces l.code (pieces_behind l.frames) l.frames (read-behind l.frames)

-- what doesn't read back doesn't with more in front
pub read-stuck : (ps more : List Piece) → read more ≡ None → read (ps ++ more) ≡ None
read-stuck [] more h = h
read-stuck (p ∷ ps) more h = ap (read_more p) (read-stuck ps more h)

-- two codes of the same pieces are one
pub same_pieces : (c d : Code) → pieces c [] ≡ pieces d [] → c ≡ d
same_pieces c d e =
    let h : Some (left c []) ≡ Some (left d []) = sym (read-pieces c [] [] refl) ∙ ap read e ∙ read-pieces d [] [] refl in
    let same : left c [] ≡ left d [] = cc in
    ap (λ (l : Left). l.code) same
