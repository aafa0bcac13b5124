-- A function's statements piece by piece: what breaks a rule at a piece, and what stands around the next.
use Rattle.std.specs.Prelude.{ℕ, List, [], ◌∷◌, ◌++◌, true, not, ◌&&◌, Some, None}
use Rattle.c_tree.specs.declared.tree.CTy.TheVariants.{Int}
use Rattle.c_tree.specs.declared.tree.CExpr.TheVariants as expr
use Rattle.c_tree.specs.declared.pieces.Piece.{Piece}
use Rattle.c_tree.specs.declared.pieces.Piece.TheVariants as piece
use Rattle.c_tree.specs.Code.{Code, done, assign, call, return, test, loop, ended, goto, catch, protect}
use Rattle.c_meaning.specs.declared.breach.BadCause.{BadCause}
use Rattle.c_meaning.specs.declared.breach.BadCause.TheVariants.{Twice, Label, Shape}
use Rattle.c_meaning.specs.Breaches.{unless, has, Open, Within, Held, Room, Scope, may_stand, next_room, may_go, may_return, inside, behind, with_label, in_block, variable_type, name_breaches, callee_breaches, operands_breaches, expr_breaches, after_expr, standing, may_loop, local_breaches}

-- what was open around a statement, and what may stand there
pub record Frame : Type 0 where
  pub blocks : List Open
  pub room : Room

pub record State : Type 0 where
  pub scope : Scope
  -- around the statements whose blocks are open, innermost first
  pub frames : List Frame
  -- the labels behind the blocks that begin further on, in text order
  pub ahead : List (List ℕ)

abbrev pub frame : Scope → Frame
frame s = record { blocks = s.blocks; room = s.room }

abbrev pub tail : {A : Type 0} → List A → List A
tail [] = []
tail (x ∷ xs) = xs

abbrev pub next_label : List (List ℕ) → List ℕ
next_label [] = []
next_label (l ∷ ls) = l

-- behind a statement whose blocks are over
abbrev pub restored : List Frame → Scope → Scope
restored [] s = s
restored (f ∷ fs) s = record s { blocks = f.blocks; room = next_room f.room }

-- What breaks a rule at a piece, without what stands in its blocks
abbrev pub piece_breaches : Scope → Piece → List BadCause
piece_breaches s (piece.Assign x e) = (name_breaches None (variable_type s x) ++ standing s) ++ expr_breaches s (variable_type s x) e
piece_breaches s (piece.Call c) = (callee_breaches s None c.callee ++ standing s) ++ operands_breaches s c c.callee
piece_breaches s (piece.Return e) = (unless Label (may_return s.blocks) ++ standing s) ++ expr_breaches s (Some s.result) e
piece_breaches s (piece.Goto l) = standing s ++ unless Label (may_go s.blocks l)
piece_breaches s (piece.If e) = standing s ++ expr_breaches s (Some Int) e
piece_breaches s piece.Else = []
piece_breaches s (piece.Loop l) = unless Twice (not (has s.labels l)) ++ unless Shape (may_loop s.role && may_stand s.room true)
piece_breaches s piece.Begin = standing s
piece_breaches s (piece.Ended l) = unless Twice (not (has s.labels l))
piece_breaches s (piece.Catch k r) = standing s ++ (local_breaches s k ++ local_breaches s r)
piece_breaches s piece.Protect = standing s
piece_breaches s piece.Cleanup = []
piece_breaches s piece.End = []

-- the same block goes on, in another scope
abbrev pub goes_on : Scope → State → State
goes_on s st = record st { scope = s }

-- a block begins, in a scope
abbrev pub begins : Scope → State → State
begins s st = record st { scope = s; frames = frame st.scope ∷ st.frames }

-- the last block of a statement is over
abbrev pub is_over : State → State
is_over st = record st { scope = restored st.frames st.scope; frames = tail st.frames }

abbrev pub after_piece : State → Piece → State
after_piece st (piece.Assign x e) = goes_on (behind (after_expr e st.scope)) st
after_piece st (piece.Call c) = goes_on (behind (after_expr (expr.Call c) st.scope)) st
after_piece st (piece.Return e) = goes_on (behind (after_expr e st.scope)) st
after_piece st (piece.Goto l) = goes_on (behind st.scope) st
after_piece st (piece.If e) = begins (in_block (after_expr e st.scope)) st
after_piece st piece.Else = st
after_piece st (piece.Loop l) = begins (inside (Within l) (with_label l st.scope)) st
after_piece st piece.Begin = record (begins (inside (Within (next_label st.ahead)) st.scope) st) { ahead = tail st.ahead }
after_piece st (piece.Ended l) = goes_on (with_label l (restored st.frames st.scope)) (is_over st)
after_piece st (piece.Catch k r) = begins (inside Held st.scope) st
after_piece st piece.Protect = begins (inside Held st.scope) st
after_piece st piece.Cleanup = st
after_piece st piece.End = is_over st

abbrev pub walk_breaches : State → List Piece → List BadCause
walk_breaches st [] = []
walk_breaches st (p ∷ ps) = piece_breaches st.scope p ++ walk_breaches (after_piece st p) ps

-- The labels behind blocks, in the order in which the blocks begin
abbrev pub ends_in : Code → List (List ℕ)
ends_in done = []
ends_in (assign x e rest) = ends_in rest
ends_in (call c rest) = ends_in rest
ends_in (return e rest) = ends_in rest
ends_in (test e a b rest) = ends_in a ++ (ends_in b ++ ends_in rest)
ends_in (loop l body rest) = ends_in body ++ ends_in rest
ends_in (ended body l rest) = l ∷ (ends_in body ++ ends_in rest)
ends_in (goto l rest) = ends_in rest
ends_in (catch k r body rest) = ends_in body ++ ends_in rest
ends_in (protect a b rest) = ends_in a ++ (ends_in b ++ ends_in rest)

-- as pieces tell them, from the last to the first: the labels of the blocks that begin further in front, and those of the blocks that begin among them
pub record Ends : Type 0 where
  pub waiting : List (List ℕ)
  pub begun : List (List ℕ)

abbrev pub put_end : Piece → Ends → Ends
put_end (piece.Ended l) e = record e { waiting = l ∷ e.waiting }
put_end piece.Begin e = record { waiting = tail e.waiting; begun = next_label e.waiting ∷ e.begun }
put_end _ e = e

abbrev pub ends_of : List Piece → Ends
ends_of [] = record { waiting = []; begun = [] }
ends_of (p ∷ ps) = put_end p (ends_of ps)

-- a function's statements from the first on
abbrev pub start : Scope → List Piece → State
start s ps = record { scope = s; frames = []; ahead = (ends_of ps).begun }
