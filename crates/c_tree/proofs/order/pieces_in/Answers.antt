use Rattle.std.proofs.Common.{List, [], Option, sym, ap, ◌∙◌, subst}
use Rattle.c_tree.specs.declared.tree.CStmt.{CStmt}
use Rattle.c_tree.specs.declared.pieces.PieceRef.{PieceRef}
use Rattle.c_tree.specs.Functions.{fun_of}
use Rattle.c_tree.specs.Pieces.{pieces}
use Rattle.c_tree.specs.Steps.{step_of}
use Rattle.c_tree.proofs.Forwards.{Shows, shows_first, shows_on, shows_all, shown_within, one_less}
use Rattle.c_tree.proofs.order.pieces_in.Goals as goal

pub loop-shown-init : goal.loop-shown-init
loop-shown-init c =
    let f = c.args.f.now in
    subst (λ (stmts : List CStmt). Shows stmts (pieces (fun_of f).code []) c.new-walk.result c.new-shown.result) (sym c.as_slice-stmts.ensures)
    (shows_first f.stmts f.body c.new-walk.result c.new-shown.result f.laid c.new-walk.ensures c.new-shown.ensures)

pub loop-shown-preserved : goal.loop-shown-preserved
loop-shown-preserved c =
    let l = c.loop-shown in
    let step = ap (λ (o : Option PieceRef). step_of o c.next.new.self) (sym c.in-Some.is) ∙ c.in_ok-piece.ensures {u = tt} in
    shows_on c.as_slice-stmts.result.now (pieces (fun_of c.args.f.now).code []) l.walk l.shown c.in-Some.piece c.next.new.self c.push.new.self step (c.in_ok-push.ensures {u = tt}).ok l.invariant

pub loop-shown-smaller : goal.loop-shown-smaller
loop-shown-smaller c =
    let all = pieces (fun_of c.args.f.now).code [] in
    one_less all c.loop-shown.shown c.push.new.self c.in-Some.piece (c.in_ok-push.ensures {u = tt}).ok
    (shown_within c.as_slice-stmts.result.now all c.next.new.self c.push.new.self (loop-shown-preserved c))

pub returns : goal.returns
returns c =
    let l = c.loop-shown in
    let step = ap (λ (o : Option PieceRef). step_of o c.next.new.self) (sym c.in_default.is) ∙ c.in_ok-piece.ensures {u = tt} in
    shows_all c.as_slice-stmts.result.now (pieces (fun_of c.args.f.now).code []) l.walk l.shown c.next.new.self step l.invariant
