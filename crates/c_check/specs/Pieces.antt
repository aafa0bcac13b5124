-- What stands at the end of a function, as its pieces tell it.
use Rattle.std.specs.Prelude.{List, [], ◌∷◌, Bool, true, false, ◌&&◌}
use Rattle.std.specs.List.{list_any}
use Rattle.c_tree.specs.declared.pieces.Piece.{Piece}
use Rattle.c_tree.specs.declared.pieces.Piece.TheVariants as piece
use Rattle.c_meaning.specs.Plain.{Role, Entry, Function}
use Rattle.c_meaning.specs.Breaches.{is_function, called_in, calls_of}
use Rattle.c_check.specs.Walks.{Ends as State}
use Rattle.c_check.specs.declared.code.Ends.{Ends}

abbrev pub ends_as : Ends → State
ends_as e = record { waiting = e.waiting; begun = e.begun }

-- whether a function of a module is called at a piece
abbrev pub calls_function : Piece → Bool
calls_function (piece.Assign x e) = list_any is_function (calls_of e)
calls_function (piece.Call c) = list_any is_function (called_in c.callee)
calls_function (piece.Return e) = list_any is_function (calls_of e)
calls_function (piece.If e) = list_any is_function (calls_of e)
calls_function _ = false

abbrev pub returns_at : Piece → Bool
returns_at (piece.Return e) = true
returns_at _ = false

-- whether the last piece is `return`, or that before them where there are none
abbrev pub ends_in_return : Bool → List Piece → Bool
ends_in_return before [] = before
ends_in_return before (p ∷ ps) = ends_in_return (returns_at p) ps

abbrev pub are_some : List Piece → Bool
are_some [] = false
are_some (p ∷ ps) = true

abbrev pub are_complete : Role → List Piece → Bool
are_complete Function ps = are_some ps
are_complete Entry ps = ends_in_return false ps && list_any calls_function ps
are_complete role ps = ends_in_return false ps
