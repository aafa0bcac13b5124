-- One piece at a time: from the last pieces of a text to their statements, and from statements to their pieces.
use Rattle.std.specs.Prelude.{ℕ, ◌+◌, ◌-◌, Bool, false, List, [], ◌∷◌, Option, Some, None, map, drop, slice_get, nat_eq, if◌then◌else◌}
use Rattle.std.specs.Option.{option_map}
use Rattle.c_tree.specs.declared.tree.CBlock.{CBlock}
use Rattle.c_tree.specs.declared.tree.CStmt.{CStmt}
use Rattle.c_tree.specs.declared.tree.CStmt.TheVariants as stmt
use Rattle.c_tree.specs.declared.pieces.Piece.{Piece}
use Rattle.c_tree.specs.declared.pieces.Piece.TheVariants as piece
use Rattle.c_tree.specs.declared.pieces.PieceRef.{PieceRef}
use Rattle.c_tree.specs.declared.closing.Closing.{Closing}
use Rattle.c_tree.specs.declared.closing.Closing.TheVariants.{End, Ended, Else, Cleanup}
use Rattle.c_tree.specs.declared.closing.Stop.{Stop}
use Rattle.c_tree.specs.declared.closing.Around.{Around}
use Rattle.c_tree.specs.declared.closing.Around.TheVariants as around
use Rattle.c_tree.specs.declared.building.Building.{Building}
use Rattle.c_tree.specs.declared.walk.Walk.{Walk}
use Rattle.c_tree.specs.Layout.{block}
use Rattle.c_tree.specs.Pieces.{piece_of, opening}

-- Backwards ---------------------------------------------------------------------------------

-- how many statements a piece is
abbrev pub weight : Piece → ℕ
weight (piece.Assign x e) = 1
weight (piece.Call c) = 1
weight (piece.Return e) = 1
weight (piece.Goto l) = 1
weight (piece.If e) = 1
weight piece.Else = 0
weight (piece.Loop l) = 1
weight piece.Begin = 1
weight (piece.Ended l) = 0
weight (piece.Catch k r) = 1
weight piece.Protect = 1
weight piece.Cleanup = 0
weight piece.End = 0

abbrev pub weights : List Piece → ℕ
weights [] = 0
weights (p ∷ ps) = weight p + weights ps

-- what the innermost block ends with, where it is of a kind
abbrev pub end_on : List Closing → Option ℕ
end_on (End n ∷ cs) = Some n
end_on _ = None

abbrev pub stop_on : List Closing → Option Stop
stop_on (Ended s ∷ cs) = Some s
stop_on _ = None

abbrev pub else_on : List Closing → Option CBlock
else_on (Else q ∷ cs) = Some q
else_on _ = None

abbrev pub cleanup_on : List Closing → Option CBlock
cleanup_on (Cleanup q ∷ cs) = Some q
cleanup_on _ = None

abbrev pub with_closings : List Closing → Building → Building
with_closings cs b = record { at = b.at; stmts = b.stmts; closings = cs }

-- without the innermost block that ends
abbrev pub less : Building → Building
less b = with_closings (drop 1 b.closings) b

-- another block that ends
abbrev pub more : Closing → Building → Building
more c b = with_closings (c ∷ b.closings) b

-- a statement in front of the others
abbrev pub in_front : CStmt → Building → Building
in_front s b = record { at = b.at - 1; stmts = s ∷ b.stmts; closings = b.closings }

abbrev pub put_if : (CBlock → CBlock → CStmt) → Option CBlock → Building → Option Building
put_if statement second b = option_map (λ q. in_front (statement (block b.at q.first) q) (less b)) second

abbrev pub put_else : (CBlock → Closing) → Building → Option Building
put_else closing b = option_map (λ n. more (closing (block b.at n)) (less b)) (end_on b.closings)

abbrev pub put_block : (CBlock → CStmt) → Building → Option Building
put_block statement b = option_map (λ n. in_front (statement (block b.at n)) (less b)) (end_on b.closings)

abbrev pub put_begin : Building → Option Building
put_begin b = option_map (λ s. in_front (stmt.Ended (block b.at s.end) s.label) (less b)) (stop_on b.closings)

-- with a piece in front, where it fits
abbrev pub put : Piece → Building → Option Building
put (piece.Assign x e) b = Some (in_front (stmt.Assign x e) b)
put (piece.Call c) b = Some (in_front (stmt.Call c) b)
put (piece.Return e) b = Some (in_front (stmt.Return e) b)
put (piece.Goto l) b = Some (in_front (stmt.Goto l) b)
put (piece.If e) b = put_if (stmt.If e) (else_on b.closings) b
put piece.Else b = put_else Else b
put (piece.Loop l) b = put_block (stmt.Loop l) b
put piece.Begin b = put_begin b
put (piece.Ended l) b = Some (more (Ended (record { end = b.at; label = l })) b)
put (piece.Catch k r) b = put_block (stmt.Catch k r) b
put piece.Protect b = put_if stmt.Protect (cleanup_on b.closings) b
put piece.Cleanup b = put_else Cleanup b
put piece.End b = Some (more (End b.at) b)

abbrev pub put_with : Bool → Building → Option Building
put_with fits b = if fits then Some b else None

-- Forwards ----------------------------------------------------------------------------------

-- a place in a list of statements, and how the blocks around it end, innermost first
pub record Position : Type 0 where
  pub at : ℕ
  pub closings : List Closing

abbrev pub closing_of : Around → Closing
closing_of (around.End n) = End n
closing_of (around.Ended n l) = Ended (record { end = n; label = l.now })
closing_of (around.Else q) = Else q
closing_of (around.Cleanup q) = Cleanup q

abbrev pub position : Walk → Position
position w = record { at = w.at; closings = map closing_of w.around }

-- a piece, and where the walk is behind it
pub record Step : Type 0 where
  pub piece : Piece
  pub walk : Position

abbrev pub step_of : Option PieceRef → Walk → Option Step
step_of None w = None
step_of (Some shown) w = Some (record { piece = piece_of shown; walk = position w })

abbrev pub end_of : Closing → ℕ
end_of (End n) = n
end_of (Ended s) = s.end
end_of (Else q) = q.first
end_of (Cleanup q) = q.first

-- whether the innermost block ends at this place
abbrev pub is_over : Option Closing → ℕ → Bool
is_over None at = false
is_over (Some c) at = nat_eq (end_of c) at

-- the end of the innermost block
abbrev pub closed : List Closing → ℕ → Option Step
closed [] at = None
closed (End n ∷ cs) at = Some (record { piece = piece.End; walk = record { at = at; closings = cs } })
closed (Ended s ∷ cs) at = Some (record { piece = piece.Ended s.label; walk = record { at = at; closings = cs } })
closed (Else q ∷ cs) at = Some (record { piece = piece.Else; walk = record { at = at; closings = End q.end ∷ cs } })
closed (Cleanup q ∷ cs) at = Some (record { piece = piece.Cleanup; walk = record { at = at; closings = End q.end ∷ cs } })

-- the blocks around what follows a statement
abbrev pub opened : CStmt → List Closing → List Closing
opened (stmt.Assign x e) cs = cs
opened (stmt.Call c) cs = cs
opened (stmt.Return e) cs = cs
opened (stmt.If e p q) cs = Else q ∷ cs
opened (stmt.Loop l p) cs = End p.end ∷ cs
opened (stmt.Ended p l) cs = Ended (record { end = p.end; label = l }) ∷ cs
opened (stmt.Goto l) cs = cs
opened (stmt.Catch k r p) cs = End p.end ∷ cs
opened (stmt.Protect p q) cs = Cleanup q ∷ cs

abbrev pub entered : Option CStmt → Position → Option Step
entered None w = None
entered (Some s) w = Some (record { piece = opening s; walk = record { at = w.at + 1; closings = opened s w.closings } })

abbrev pub next_step : List CStmt → Position → Option Step
next_step stmts w = if is_over (slice_get w.closings 0) w.at then closed w.closings w.at else entered (slice_get stmts w.at) w
