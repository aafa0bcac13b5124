use Rattle.std.proofs.Common.{◌≡◌, List, [], ◌∷◌, Some, Ok, Bool, refl, sym, ap, ◌∙◌, subst}
use Rattle.std.proofs.lemmas.Bool.{false≢true}
use Rattle.c_tree.specs.Steps.{put_with}
use Rattle.c_tree.specs.declared.pieces.Piece.{Piece}
use Rattle.c_tree.specs.Layout.{code_of}
use Rattle.c_tree.specs.Pieces.{pieces}
use Rattle.c_tree.proofs.Backwards.{Stands, stands_first, stands_on, stuck, finished, unfinished, laid_same, gives}
use Rattle.c_tree.proofs.order.lay_out.Goals as goal

pub loop-piece-init : goal.loop-piece-init
loop-piece-init c =
    stands_first c.args.ps c.into_stack-rest.result c.new-building.result
    c.into_stack-rest.ensures
    (cc (c.new-building.ensures, c.count.ensures, c.as_slice.ensures))

pub returns-then-not-branch : goal.returns-then-not-branch
returns-then-not-branch c =
    let l = c.loop-piece in
    let s : Stands c.args.ps (c.in-Some.piece ∷ c.pop.new.self) l.building = subst (λ (ps : List Piece). Stands c.args.ps ps l.building) c.in-Some.ensures l.invariant in
    let none = stuck c.args.ps c.in-Some.piece c.pop.new.self l.building (c.in_ok-put.ensures {u = tt} ∙ ap (λ (fits : Bool). put_with fits c.put.new.self) c.if-not-branch.true) s in
    record { answer = none; given = none }

pub loop-piece-preserved : goal.loop-piece-preserved
loop-piece-preserved c =
    let l = c.loop-piece in
    let s : Stands c.args.ps (c.in-Some.piece ∷ c.pop.new.self) l.building = subst (λ (ps : List Piece). Stands c.args.ps ps l.building) c.in-Some.ensures l.invariant in
    stands_on c.args.ps c.in-Some.piece c.pop.new.self l.building c.put.new.self (c.in_ok-put.ensures {u = tt} ∙ ap (λ (fits : Bool). put_with fits c.put.new.self) c.if-not-branch.false) s

pub returns-then-not-is_whole : goal.returns-then-not-is_whole
returns-then-not-is_whole c =
    let l = c.loop-piece in
    let s : Stands c.args.ps [] l.building = subst (λ (ps : List Piece). Stands c.args.ps ps l.building) (c.in_default.ensures {u = tt}).0 l.invariant in
    let none = unfinished c.args.ps l.building (λ e. false≢true (c.if-not-is_whole.ensures.1 e)) s in
    record { answer = none; given = none }

pub finish-requires : goal.finish-requires
finish-requires c =
    let l = c.loop-piece in
    let s : Stands c.args.ps [] l.building = subst (λ (ps : List Piece). Stands c.args.ps ps l.building) (c.in_default.ensures {u = tt}).0 l.invariant in
    (finished c.args.ps l.building (c.if-not-is_whole.ensures.0 refl) s).0

pub returns : goal.returns
returns c =
    let l = c.loop-piece in
    let s : Stands c.args.ps [] l.building = subst (λ (ps : List Piece). Stands c.args.ps ps l.building) (c.in_default.ensures {u = tt}).0 l.invariant in
    let e = c.finish.ensures in
    let f = c.finish.result in
    let answer : c.args.ps ≡ pieces (code_of f.stmts f.body) [] = (finished c.args.ps l.building (c.if-not-is_whole.ensures.0 refl) s).1 ∙ sym (laid_same f.stmts l.building.stmts f.body e.0 e.1) in
    record { answer = answer; given = gives c.args.ps (Ok (Some f)) answer }
