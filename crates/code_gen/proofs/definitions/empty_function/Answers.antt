use Rattle.std.proofs.Common.{◌≡◌, List, [], ◌∷◌, ◌++◌, refl, ap, ◌∙◌}
use Rattle.std.proofs.lemmas.Result.{err_from_is_err_and}
use Rattle.c_tree.specs.declared.tree.CAtom.TheVariants.{Unspec}
use Rattle.c_tree.specs.declared.tree.CExpr.TheVariants.{Atom}
use Rattle.c_tree.specs.declared.pieces.Piece.{Piece}
use Rattle.c_tree.specs.declared.pieces.Piece.TheVariants as piece
use Rattle.c_tree.specs.Code.{Code, done, return}
use Rattle.code_gen.proofs.definitions.empty_function.Goals as goal

abbrev nothing : Code
nothing = return (Atom Unspec) done

one_piece : (before after : List Piece) → before ≡ [] → after ≡ before ++ piece.Return (Atom Unspec) ∷ [] → after ≡ piece.Return (Atom Unspec) ∷ []
one_piece before after empty e = e ∙ ap (λ ps. ps ++ piece.Return (Atom Unspec) ∷ []) empty

pub laid-requires : goal.laid-requires
laid-requires c = record { code = nothing; are = one_piece c.new-pieces.result c.push.new.self c.new-pieces.ensures (c.in_ok-push.ensures {u = tt}).ok }

pub returns : goal.returns
returns c =
    let are = one_piece c.new-pieces.result c.push.new.self c.new-pieces.ensures (c.in_ok-push.ensures {u = tt}).ok in
    record {
      named = refl;
      result = refl;
      params = c.new.ensures;
      locals = c.new-2.ensures;
      code = c.in_ok-body.ensures nothing are;
    }

pub returns-in_err-push : goal.returns-in_err-push
returns-in_err-push c =
    let p = err_from_is_err_and c.from_residual.result c.from_residual.ensures.1 in
    rw (p.1) tt

pub returns-in_err-body : goal.returns-in_err-body
returns-in_err-body c =
    let p = err_from_is_err_and c.from_residual-in_err-body.result c.from_residual-in_err-body.ensures.1 in
    rw (p.1) tt
