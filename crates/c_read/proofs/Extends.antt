-- What is spelled in front of some tokens makes them no fewer.
use Rattle.std.proofs.Common.{ℕ, ◌<◌, ◌≤◌, List, [], ◌∷◌, length, subst, arith}
use Rattle.c_tree.specs.declared.tree.CTy.{CTy}
use Rattle.c_tree.specs.declared.tree.CArg.{CArg}
use Rattle.c_tree.specs.declared.tree.CArg.TheVariants as arg
use Rattle.c_tree.specs.declared.tree.CCall.{CCall}
use Rattle.c_tree.specs.declared.tree.CExpr.{CExpr}
use Rattle.c_tree.specs.declared.tree.CExpr.TheVariants as expr
use Rattle.c_tree.specs.declared.tree.CVar.{CVar}
use Rattle.c_tree.specs.Lexical.{Token, Word, Mark}
use Rattle.c_tree.specs.declared.pieces.Piece.{Piece}
use Rattle.c_tree.specs.declared.pieces.Piece.TheVariants as piece
use Rattle.c_tree.specs.Code.{Code, Item, external, global, declared, defined}
use Rattle.c_tree.specs.Pieces.{pieces}
use Rattle.c_tree.specs.Spelling.{argument_tokens_of, more_arguments, argument_tokens, call_tokens, expr_tokens, code_tokens, piece_tokens, pieces_tokens, more_types, type_tokens, more_params, param_tokens, local_tokens, item_tokens, items_tokens}
use Rattle.c_tree.proofs.Spelled.{pieces_spelled}

pub record Extends (rest ts : List Token) : Type 0 where
  pub longer : length rest ≤ length ts

same : (ts : List Token) → Extends ts ts
same ts = record { longer = omega arith }

word : {rest : List Token} (w : List ℕ) (ts : List Token) → Extends rest ts → Extends rest (Word w ∷ ts)
word w ts h = record { longer = omega (arith, h.longer) }

mark : {rest : List Token} (m : ℕ) (ts : List Token) → Extends rest ts → Extends rest (Mark m ∷ ts)
mark m ts h = record { longer = omega (arith, h.longer) }

pub argument_extends : (a : CArg) (rest : List Token) → Extends rest (argument_tokens_of a rest)
argument_extends (arg.Atom a) rest = record { longer = omega arith }
argument_extends (arg.Str text) rest = record { longer = omega arith }
argument_extends (arg.Entry name) rest = record { longer = omega arith }

pub argument_longer : (a : CArg) (rest : List Token) → length rest < length (argument_tokens_of a rest)
argument_longer (arg.Atom a) rest = omega arith
argument_longer (arg.Str text) rest = omega arith
argument_longer (arg.Entry name) rest = omega arith

trans : {a b c : List Token} → Extends a b → Extends b c → Extends a c
trans h k = record { longer = omega (arith, h.longer, k.longer) }

pub more_arguments_extends : (args : List CArg) (rest : List Token) → Extends rest (more_arguments args rest)
more_arguments_extends [] rest = same rest
more_arguments_extends (a ∷ args) rest = mark 44 (argument_tokens_of a (more_arguments args rest)) (trans (more_arguments_extends args rest) (argument_extends a (more_arguments args rest)))

pub arguments_extends : (args : List CArg) (rest : List Token) → Extends rest (argument_tokens args rest)
arguments_extends [] rest = same rest
arguments_extends (a ∷ args) rest = trans (more_arguments_extends args rest) (argument_extends a (more_arguments args rest))

pub call_extends : (c : CCall) (rest : List Token) → Extends rest (call_tokens c rest)
call_extends c rest =
    word _ (Mark 40 ∷ argument_tokens c.args (Mark 41 ∷ rest)) (mark 40 (argument_tokens c.args (Mark 41 ∷ rest))
    (trans (mark 41 rest (same rest)) (arguments_extends c.args (Mark 41 ∷ rest))))

pub expr_extends : (e : CExpr) (rest : List Token) → Extends rest (expr_tokens e rest)
expr_extends (expr.Atom a) rest = word _ rest (same rest)
expr_extends (expr.Call c) rest = call_extends c rest

pub piece_extends : (p : Piece) (rest : List Token) → Extends rest (piece_tokens p rest)
piece_extends (piece.Assign x e) rest = word x _ (mark 61 (expr_tokens e (Mark 59 ∷ rest)) (trans (mark 59 rest (same rest)) (expr_extends e (Mark 59 ∷ rest))))
piece_extends (piece.Call c) rest = trans (mark 59 rest (same rest)) (call_extends c (Mark 59 ∷ rest))
piece_extends (piece.Return e) rest = word _ (expr_tokens e (Mark 59 ∷ rest)) (trans (mark 59 rest (same rest)) (expr_extends e (Mark 59 ∷ rest)))
piece_extends (piece.If e) rest =
    word _ _ (mark 40 (expr_tokens e (Mark 41 ∷ Mark 123 ∷ rest)) (trans (mark 41 (Mark 123 ∷ rest) (mark 123 rest (same rest))) (expr_extends e (Mark 41 ∷ Mark 123 ∷ rest))))
piece_extends piece.Else rest = mark 125 _ (word _ _ (mark 123 rest (same rest)))
piece_extends (piece.Loop l) rest = word l _ (mark 58 _ (word _ _ (mark 40 _ (mark 59 _ (mark 59 _ (mark 41 _ (mark 123 rest (same rest))))))))
piece_extends piece.Begin rest = mark 123 rest (same rest)
piece_extends (piece.Ended l) rest = mark 125 _ (word l _ (mark 58 _ (mark 59 rest (same rest))))
piece_extends (piece.Goto l) rest = word _ _ (word l _ (mark 59 rest (same rest)))
piece_extends (piece.Catch k r) rest = word _ _ (mark 40 _ (word k _ (mark 44 _ (word r _ (mark 41 _ (mark 123 rest (same rest)))))))
piece_extends piece.Protect rest = word _ _ (mark 123 rest (same rest))
piece_extends piece.Cleanup rest = mark 125 _ (mark 123 rest (same rest))
piece_extends piece.End rest = mark 125 rest (same rest)

pub piece_longer : (p : Piece) (rest : List Token) → length rest < length (piece_tokens p rest)
piece_longer (piece.Assign x e) rest = omega (arith, (expr_extends e (Mark 59 ∷ rest)).longer)
piece_longer (piece.Call c) rest = omega (arith, (call_extends c (Mark 59 ∷ rest)).longer)
piece_longer (piece.Return e) rest = omega (arith, (expr_extends e (Mark 59 ∷ rest)).longer)
piece_longer (piece.If e) rest = omega (arith, (expr_extends e (Mark 41 ∷ Mark 123 ∷ rest)).longer)
piece_longer piece.Else rest = omega arith
piece_longer (piece.Loop l) rest = omega arith
piece_longer piece.Begin rest = omega arith
piece_longer (piece.Ended l) rest = omega arith
piece_longer (piece.Goto l) rest = omega arith
piece_longer (piece.Catch k r) rest = omega arith
piece_longer piece.Protect rest = omega arith
piece_longer piece.Cleanup rest = omega arith
piece_longer piece.End rest = omega arith

pieces_extends : (ps : List Piece) (rest : List Token) → Extends rest (pieces_tokens ps rest)
pieces_extends [] rest = same rest
pieces_extends (p ∷ ps) rest = trans (pieces_extends ps rest) (piece_extends p (pieces_tokens ps rest))

pub code_extends : (c : Code) (rest : List Token) → Extends rest (code_tokens c rest)
code_extends c rest = subst (Extends rest) (pieces_spelled c [] rest) (pieces_extends (pieces c []) rest)

pub more_types_extends : (ts : List CTy) (rest : List Token) → Extends rest (more_types ts rest)
more_types_extends [] rest = same rest
more_types_extends (t ∷ ts) rest = mark 44 _ (word _ (more_types ts rest) (more_types_extends ts rest))

pub types_extends : (ts : List CTy) (rest : List Token) → Extends rest (type_tokens ts rest)
types_extends [] rest = word _ rest (same rest)
types_extends (t ∷ ts) rest = word _ (more_types ts rest) (more_types_extends ts rest)

pub more_params_extends : (vs : List CVar) (rest : List Token) → Extends rest (more_params vs rest)
more_params_extends [] rest = same rest
more_params_extends (v ∷ vs) rest = mark 44 _ (word _ _ (word _ (more_params vs rest) (more_params_extends vs rest)))

pub params_extends : (vs : List CVar) (rest : List Token) → Extends rest (param_tokens vs rest)
params_extends [] rest = word _ rest (same rest)
params_extends (v ∷ vs) rest = word _ _ (word _ (more_params vs rest) (more_params_extends vs rest))

pub locals_extends : (vs : List CVar) (rest : List Token) → Extends rest (local_tokens vs rest)
locals_extends [] rest = same rest
locals_extends (v ∷ vs) rest = word _ _ (word _ _ (mark 59 (local_tokens vs rest) (locals_extends vs rest)))

pub item_extends : (i : Item) (rest : List Token) → Extends rest (item_tokens i rest)
item_extends (external v) rest = word _ _ (word _ _ (word v.name _ (mark 59 rest (same rest))))
item_extends (global v) rest = word _ _ (word v.name _ (mark 59 rest (same rest)))
item_extends (declared t name params) rest =
    word _ _ (word name _ (mark 40 _ (trans (mark 41 _ (mark 59 rest (same rest))) (types_extends params (Mark 41 ∷ Mark 59 ∷ rest)))))
item_extends (defined f) rest =
    let body = trans (mark 125 rest (same rest)) (code_extends f.code (Mark 125 ∷ rest)) in
    let inner = trans body (locals_extends f.locals (code_tokens f.code (Mark 125 ∷ rest))) in
    let after = local_tokens f.locals (code_tokens f.code (Mark 125 ∷ rest)) in
    word _ _ (word f.name _ (mark 40 _ (trans (mark 41 (Mark 123 ∷ after) (mark 123 after inner)) (params_extends f.params (Mark 41 ∷ Mark 123 ∷ after)))))

pub items_extends : (is : List Item) (rest : List Token) → Extends rest (items_tokens is rest)
items_extends [] rest = same rest
items_extends (i ∷ is) rest = trans (items_extends is rest) (item_extends i (items_tokens is rest))
