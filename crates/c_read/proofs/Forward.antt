-- What is spelled with right names is read, and the tokens behind it are left.
use Rattle.std.proofs.Common.{◌≡◌, ℕ, zero, suc, ◌<◌, List, [], ◌∷◌, length, codes, nat_eq, true, false, if◌then◌else◌, Option, Some, None, refl, sym, ap, subst, ◌∙◌, arith}
use Rattle.std.specs.Option.{is_some}
use Rattle.c_tree.specs.declared.tree.CTy.{CTy}
use Rattle.c_tree.specs.declared.tree.CTy.TheVariants as ty
use Rattle.c_tree.specs.declared.tree.CArg.{CArg}
use Rattle.c_tree.specs.declared.tree.CArg.TheVariants as arg
use Rattle.c_tree.specs.declared.tree.CCall.{CCall}
use Rattle.c_tree.specs.declared.tree.CExpr.{CExpr}
use Rattle.c_tree.specs.declared.tree.CExpr.TheVariants as expr
use Rattle.c_tree.specs.declared.tree.CVar.{CVar}
use Rattle.c_tree.specs.declared.pieces.Piece.{Piece}
use Rattle.c_tree.specs.declared.pieces.Piece.TheVariants as piece
use Rattle.c_tree.specs.Lexical.{Token, Word, Mark}
use Rattle.c_tree.specs.Names.{is_function_name, is_variable_name, is_global_name, is_local_name, is_label_name, is_end_label_name, is_target_name}
use Rattle.c_tree.specs.Code.{Code, done, assign, call, return, test, loop, ended, goto, catch, protect, Item, external, global, declared, defined}
use Rattle.c_tree.specs.Pieces.{pieces}
use Rattle.c_tree.specs.Spelling.{
  type_text,
  callee_text,
  argument_tokens_of,
  more_arguments,
  argument_tokens,
  expr_tokens,
  code_tokens,
  piece_tokens,
  pieces_tokens,
  more_types,
  more_params,
  param_tokens,
  local_tokens,
  item_tokens,
  items_tokens,
  NamedArgument,
  NamedArguments,
  NamedCall,
  NamedExpr,
  NamedCode,
  NamedPiece,
  NamedPieces,
  NamedVars,
  NamedItem,
  NamedItems,
}
use Rattle.c_tree.proofs.Spelled.{pieces_spelled, named_pieces}
use Rattle.c_read.specs.Words.{is_extern}
use Rattle.c_read.specs.declared.bodies.Open.{Open}
use Rattle.c_read.specs.declared.bodies.Open.TheVariants.{Plain, InIf, Labelled, Protected}
use Rattle.c_read.specs.Sequences.{front, after, read_as, if_else, after_mark, is_first, onto, many, all}
use Rattle.c_read.specs.Productions.{
  argument,
  next_argument,
  arguments,
  call_of,
  expression,
  condition,
  after_head,
  named_statement,
  jump,
  catching,
  statement,
  closing_of,
  next_piece,
  opens_after,
  after_body,
  pieces_within,
  all_pieces,
  body,
  is_type,
  type_first,
  next_type,
  variable,
  next_variable,
  local,
  no_type,
  locals,
  definition,
  without_params,
  with_types,
  with_names,
  with_params,
  any_word,
  is_void,
  item_rest,
  external_rest,
  item_named,
  typed_item,
  item,
  at_end,
  parsed,
}
use Rattle.c_read.proofs.Classes.{type_of_text, atom_of_text, callee_of_text, variable_plain, label_plain, callee_plain, function_no_global, pieces_no_type}
use Rattle.c_read.proofs.Extends.{argument_longer, piece_longer}
use Rattle.c_read.proofs.Loops.{item_longer}
use Rattle.c_read.proofs.Many.{onto-nil}
use Rattle.c_read.proofs.Nesting.{code_in_pieces}
use Rattle.c_read.proofs.PieceLoop.{within_more, within_ended}

nil_read : {X : Type 0} (one : List Token → Option (X × List Token)) (end : List Token → Option (List Token)) (n : ℕ) (ts left : List Token)
    → end ts ≡ Some left → many one end (suc n) ts ≡ Some ([], left)
unfolding many
nil_read one end n ts left e = ap (λ o. if_else o (λ left. Some ([], left)) (after (one ts) (λ x rest. onto (x ∷ []) (many one end n rest)))) e

cons_read : {X : Type 0} (one : List Token → Option (X × List Token)) (end : List Token → Option (List Token)) (n : ℕ)
    (ts : List Token) (x : X) (rest : List Token) (xs : List X) (left : List Token)
    → end ts ≡ None → one ts ≡ Some (x, rest) → many one end n rest ≡ Some (xs, left) → many one end (suc n) ts ≡ Some (x ∷ xs, left)
unfolding many
cons_read one end n ts x rest xs left e f h =
    ap (λ o. if_else o (λ left. Some ([], left)) (after (one ts) (λ x rest. onto (x ∷ []) (many one end n rest)))) e
    ∙ ap (λ o. after o (λ x rest. onto (x ∷ []) (many one end n rest))) f
    ∙ ap (onto (x ∷ [])) h

-- Calls -------------------------------------------------------------------------------------

argument_read : (a : CArg) (rest : List Token) → NamedArgument a → argument (argument_tokens_of a rest) ≡ Some (a, rest)
argument_read (arg.Atom a) rest h = ap (λ o. after (read_as o rest) (λ b left. Some (arg.Atom b, left))) (atom_of_text a h)
argument_read (arg.Str text) rest h = refl
argument_read (arg.Entry name) rest h = ap (λ b. after (if b then Some (name, rest) else None) (λ x left. Some (arg.Entry x, left))) h

argument_no_mark : (a : CArg) (rest : List Token) → after_mark 41 (argument_tokens_of a rest) ≡ None
argument_no_mark (arg.Atom a) rest = refl
argument_no_mark (arg.Str text) rest = refl
argument_no_mark (arg.Entry name) rest = refl

next_argument_read : (a : CArg) (rest : List Token) → NamedArgument a → next_argument (Mark 44 ∷ argument_tokens_of a rest) ≡ Some (a, rest)
unfolding next_argument
next_argument_read a rest h = argument_read a rest h

more_arguments_read : (args : List CArg) (rest : List Token) (n : ℕ) → NamedArguments args → length (more_arguments args (Mark 41 ∷ rest)) < n
    → many next_argument (after_mark 41) n (more_arguments args (Mark 41 ∷ rest)) ≡ Some (args, rest)
more_arguments_read args rest zero h l = absurd (omega arith)
more_arguments_read [] rest (suc n) h l = nil_read next_argument (after_mark 41) n (Mark 41 ∷ rest) rest refl
more_arguments_read (a ∷ args) rest (suc n) h l =
    let tail = more_arguments args (Mark 41 ∷ rest) in
    cons_read next_argument (after_mark 41) n (Mark 44 ∷ argument_tokens_of a tail) a tail args rest refl (next_argument_read a tail h.0)
    (more_arguments_read args rest n h.1 (omega (arith, argument_longer a tail)))

arguments_read : (args : List CArg) (rest : List Token) → NamedArguments args → arguments (argument_tokens args (Mark 41 ∷ rest)) ≡ Some (args, rest)
unfolding arguments all
arguments_read [] rest h = refl
arguments_read (a ∷ args) rest h =
    let tail = more_arguments args (Mark 41 ∷ rest) in
    ap (λ o. if_else o (λ left. Some ([], left)) (after (argument (argument_tokens_of a tail)) (λ b left. onto (b ∷ []) (many next_argument (after_mark 41) (suc (length left)) left)))) (argument_no_mark a tail)
    ∙ ap (λ o. after o (λ b left. onto (b ∷ []) (many next_argument (after_mark 41) (suc (length left)) left))) (argument_read a tail h.0)
    ∙ ap (onto (a ∷ [])) (more_arguments_read args rest (suc (length tail)) h.1 (omega arith))

call_read : (c : CCall) (rest : List Token) → NamedCall c → call_of (callee_text c.callee) (argument_tokens c.args (Mark 41 ∷ rest)) ≡ Some (c, rest)
call_read c rest h = rw (callee_of_text c.callee h.0, arguments_read c.args rest h.1) refl

-- an expression is read where no parenthesis follows that could be of a call
expression_read : (e : CExpr) (m : ℕ) (rest : List Token) → nat_eq m 40 ≡ false → NamedExpr e → expression (expr_tokens e (Mark m ∷ rest)) ≡ Some (e, Mark m ∷ rest)
unfolding expression
expression_read (expr.Atom a) m rest n h = rw (n, atom_of_text a h) refl
expression_read (expr.Call c) m rest n h = rw (call_read c (Mark m ∷ rest) h) refl

-- Statements --------------------------------------------------------------------------------

assign_read : (x : List ℕ) (e : CExpr) (rest : List Token) → is_variable_name x ≡ true → NamedExpr e → statement (piece_tokens (piece.Assign x e) rest) ≡ Some (piece.Assign x e, rest)
unfolding statement named_statement
assign_read x e rest l h = let p = variable_plain x l in rw (p.no_return, p.no_if, p.no_goto, p.no_catch, p.no_protect, l, expression_read e 59 rest refl h) refl

called_read : (c : CCall) (rest : List Token) → NamedCall c → statement (piece_tokens (piece.Call c) rest) ≡ Some (piece.Call c, rest)
unfolding statement named_statement
called_read c rest h = let p = callee_plain c.callee h.0 in rw (p.no_return, p.no_if, p.no_goto, p.no_catch, p.no_protect, call_read c (Mark 59 ∷ rest) h) refl

loop_read : (l : List ℕ) (rest : List Token) → is_label_name l ≡ true → statement (piece_tokens (piece.Loop l) rest) ≡ Some (piece.Loop l, rest)
unfolding statement named_statement after_head
loop_read l rest h = let p = label_plain l h in rw (p.no_return, p.no_if, p.no_goto, p.no_catch, p.no_protect, h) refl

jump_read : (l : List ℕ) (rest : List Token) → is_target_name l ≡ true → statement (piece_tokens (piece.Goto l) rest) ≡ Some (piece.Goto l, rest)
unfolding statement jump
jump_read l rest h = rw h refl

catch_read : (k r : List ℕ) (rest : List Token) → is_local_name k ≡ true → is_local_name r ≡ true → statement (piece_tokens (piece.Catch k r) rest) ≡ Some (piece.Catch k r, rest)
unfolding statement catching
catch_read k r rest h m = rw (h, m) refl

ended_read : (l : List ℕ) (rest : List Token) → is_end_label_name l ≡ true → closing_of Labelled (Word l ∷ Mark 58 ∷ Mark 59 ∷ rest) ≡ Some (piece.Ended l, rest)
unfolding closing_of
ended_read l rest h = rw h refl

-- the blocks that are open allow a piece
abbrev Allows : List Open → Piece → Type 0
Allows opens (piece.Assign x e) = Unit {0}
Allows opens (piece.Call c) = Unit {0}
Allows opens (piece.Return e) = Unit {0}
Allows opens (piece.Goto l) = Unit {0}
Allows opens (piece.If e) = Unit {0}
Allows opens piece.Else = front opens ≡ Some InIf
Allows opens (piece.Loop l) = Unit {0}
Allows opens piece.Begin = Unit {0}
Allows opens (piece.Ended l) = front opens ≡ Some Labelled
Allows opens (piece.Catch k r) = Unit {0}
Allows opens piece.Protect = Unit {0}
Allows opens piece.Cleanup = front opens ≡ Some Protected
Allows opens piece.End = front opens ≡ Some Plain

-- where these blocks are open, pieces close them all, and nothing else
abbrev Closes : List Open → List Piece → Type 0
Closes opens [] = opens ≡ []
Closes opens (p ∷ ps) = Allows opens p × Closes (opens_after p opens) ps

code_closes : (c : Code) (others : List Piece) (opens : List Open) → Closes opens others → Closes opens (pieces c others)
code_closes done others opens h = h
code_closes (assign x e next) others opens h = (tt, code_closes next others opens h)
code_closes (call c next) others opens h = (tt, code_closes next others opens h)
code_closes (return e next) others opens h = (tt, code_closes next others opens h)
code_closes (goto l next) others opens h = (tt, code_closes next others opens h)
code_closes (test e a b next) others opens h =
    let end = piece.End ∷ pieces next others in
    let second : Closes (Plain ∷ opens) (pieces b end) = code_closes b end (Plain ∷ opens) (refl, code_closes next others opens h) in
    (tt, code_closes a (piece.Else ∷ pieces b end) (InIf ∷ opens) (refl, second))
code_closes (loop l inner next) others opens h =
    (tt, code_closes inner (piece.End ∷ pieces next others) (Plain ∷ opens) (refl, code_closes next others opens h))
code_closes (ended inner l next) others opens h =
    (tt, code_closes inner (piece.Ended l ∷ pieces next others) (Labelled ∷ opens) (refl, code_closes next others opens h))
code_closes (catch k r inner next) others opens h =
    (tt, code_closes inner (piece.End ∷ pieces next others) (Plain ∷ opens) (refl, code_closes next others opens h))
code_closes (protect a b next) others opens h =
    let end = piece.End ∷ pieces next others in
    let second : Closes (Plain ∷ opens) (pieces b end) = code_closes b end (Plain ∷ opens) (refl, code_closes next others opens h) in
    (tt, code_closes a (piece.Cleanup ∷ pieces b end) (Protected ∷ opens) (refl, second))

-- a statement is read whatever is open
plain_read : (opens : List Open) (word : List ℕ) (rest : List Token) (p : Piece) (left : List Token)
    → statement (Word word ∷ rest) ≡ Some (p, left) → next_piece opens (Word word ∷ rest) ≡ Some (p, left)
unfolding next_piece
plain_read opens word rest p left e = e

-- what follows a closing brace is that of the innermost block
closing_read : (opens : List Open) (one : Open) (rest : List Token) (p : Piece) (left : List Token)
    → front opens ≡ Some one → closing_of one rest ≡ Some (p, left) → next_piece opens (Mark 125 ∷ rest) ≡ Some (p, left)
unfolding next_piece
closing_read [] one rest p left e f = absurd (cc)
closing_read (inner ∷ opens) one rest p left e f = let same : inner ≡ one = cc in ap (λ o. closing_of o rest) same ∙ f

piece_read : (opens : List Open) (p : Piece) (rest : List Token) → NamedPiece p → Allows opens p → next_piece opens (piece_tokens p rest) ≡ Some (p, rest)
unfolding next_piece statement condition closing_of
piece_read opens (piece.Assign x e) rest h a = plain_read opens x (Mark 61 ∷ expr_tokens e (Mark 59 ∷ rest)) (piece.Assign x e) rest (assign_read x e rest h.0 h.1)
piece_read opens (piece.Call c) rest h a = plain_read opens (callee_text c.callee) (Mark 40 ∷ argument_tokens c.args (Mark 41 ∷ Mark 59 ∷ rest)) (piece.Call c) rest (called_read c rest h)
piece_read opens (piece.Return e) rest h a = rw (expression_read e 59 rest refl h) refl
piece_read opens (piece.If e) rest h a = rw (expression_read e 41 (Mark 123 ∷ rest) refl h) refl
piece_read opens piece.Else rest h a = closing_read opens InIf (Word (codes "else") ∷ Mark 123 ∷ rest) piece.Else rest a refl
piece_read opens (piece.Loop l) rest h a = loop_read l rest h
piece_read opens piece.Begin rest h a = refl
piece_read opens (piece.Ended l) rest h a = closing_read opens Labelled (Word l ∷ Mark 58 ∷ Mark 59 ∷ rest) (piece.Ended l) rest a (ended_read l rest h)
piece_read opens (piece.Goto l) rest h a = jump_read l rest h
piece_read opens (piece.Catch k r) rest h a = catch_read k r rest h.0 h.1
piece_read opens piece.Protect rest h a = refl
piece_read opens piece.Cleanup rest h a = closing_read opens Protected (Mark 123 ∷ rest) piece.Cleanup rest a refl
piece_read opens piece.End rest h a = closing_read opens Plain rest piece.End rest a refl

in_a_block : (opens : List Open) (one : Open) (ts : List Token) → front opens ≡ Some one → after_body opens ts ≡ None
in_a_block [] one ts e = absurd (cc)
in_a_block (o ∷ opens) one ts e = refl

no_brace : (opens : List Open) (ts : List Token) → after_mark 125 ts ≡ None → after_body opens ts ≡ None
no_brace [] ts e = e
no_brace (o ∷ opens) ts e = refl

no_body_end : (opens : List Open) (p : Piece) (rest : List Token) → Allows opens p → after_body opens (piece_tokens p rest) ≡ None
no_body_end opens (piece.Assign x e) rest h = no_brace opens (piece_tokens (piece.Assign x e) rest) refl
no_body_end opens (piece.Call c) rest h = no_brace opens (piece_tokens (piece.Call c) rest) refl
no_body_end opens (piece.Return e) rest h = no_brace opens (piece_tokens (piece.Return e) rest) refl
no_body_end opens (piece.If e) rest h = no_brace opens (piece_tokens (piece.If e) rest) refl
no_body_end opens piece.Else rest h = in_a_block opens InIf (piece_tokens piece.Else rest) h
no_body_end opens (piece.Loop l) rest h = no_brace opens (piece_tokens (piece.Loop l) rest) refl
no_body_end opens piece.Begin rest h = no_brace opens (piece_tokens piece.Begin rest) refl
no_body_end opens (piece.Ended l) rest h = in_a_block opens Labelled (piece_tokens (piece.Ended l) rest) h
no_body_end opens (piece.Goto l) rest h = no_brace opens (piece_tokens (piece.Goto l) rest) refl
no_body_end opens (piece.Catch k r) rest h = no_brace opens (piece_tokens (piece.Catch k r) rest) refl
no_body_end opens piece.Protect rest h = no_brace opens (piece_tokens piece.Protect rest) refl
no_body_end opens piece.Cleanup rest h = in_a_block opens Protected (piece_tokens piece.Cleanup rest) h
no_body_end opens piece.End rest h = in_a_block opens Plain (piece_tokens piece.End rest) h

within_cons : (most : ℕ) (opens : List Open) (ts : List Token) (p : Piece) (rest : List Token) (ps : List Piece) (left : List Token)
    → after_body opens ts ≡ None → next_piece opens ts ≡ Some (p, rest) → pieces_within most (opens_after p opens) rest ≡ Some (ps, left)
    → pieces_within (suc most) opens ts ≡ Some (p ∷ ps, left)
within_cons most opens ts p rest ps left e f h = sym (onto-nil (pieces_within (suc most) opens ts)) ∙ within_more most opens [] ts p rest e f ∙ ap (onto (p ∷ [])) h

pieces_read : (ps : List Piece) (opens : List Open) (rest : List Token) (most : ℕ) → NamedPieces ps → Closes opens ps → length (pieces_tokens ps (Mark 125 ∷ rest)) < most
    → pieces_within most opens (pieces_tokens ps (Mark 125 ∷ rest)) ≡ Some (ps, rest)
pieces_read ps opens rest zero h k l = absurd (omega arith)
pieces_read [] opens rest (suc most) h k l =
    sym (onto-nil (pieces_within (suc most) opens (Mark 125 ∷ rest))) ∙ within_ended most opens [] (Mark 125 ∷ rest) rest (ap (λ o. after_body o (Mark 125 ∷ rest)) k)
pieces_read (p ∷ ps) opens rest (suc most) h k l =
    let tail = pieces_tokens ps (Mark 125 ∷ rest) in
    let longer : length tail < length (piece_tokens p tail) = piece_longer p tail in
    within_cons most opens (piece_tokens p tail) p tail ps rest (no_body_end opens p tail k.0) (piece_read opens p tail h.0 k.0)
    (pieces_read ps (opens_after p opens) rest most h.1 k.1 (omega arith))

all_pieces_read : (ps : List Piece) (rest : List Token) → NamedPieces ps → Closes [] ps → all_pieces (pieces_tokens ps (Mark 125 ∷ rest)) ≡ Some (ps, rest)
unfolding all_pieces
all_pieces_read ps rest h k = pieces_read ps [] rest (suc (length (pieces_tokens ps (Mark 125 ∷ rest)))) h k (omega arith)

pieces_body : (c : Code) (rest : List Token) → NamedCode c → body (pieces_tokens (pieces c []) (Mark 125 ∷ rest)) ≡ Some (c, rest)
unfolding body
pieces_body c rest h = rw (all_pieces_read (pieces c []) rest (named_pieces c [] h tt) (code_closes c [] [] refl), code_in_pieces c) refl

body_read : (c : Code) (rest : List Token) → NamedCode c → body (code_tokens c (Mark 125 ∷ rest)) ≡ Some (c, rest)
body_read c rest h = subst (λ ts. body ts ≡ Some (c, rest)) (pieces_spelled c [] (Mark 125 ∷ rest)) (pieces_body c rest h)

body_no_type : (c : Code) (rest : List Token) → NamedCode c → is_first is_type (code_tokens c (Mark 125 ∷ rest)) ≡ false
body_no_type c rest h =
    subst (λ ts. is_first is_type ts ≡ false) (pieces_spelled c [] (Mark 125 ∷ rest)) (pieces_no_type (pieces c []) rest (named_pieces c [] h tt))

-- Items -------------------------------------------------------------------------------------

type_read : (t : CTy) (rest : List Token) → type_first (Word (type_text t) ∷ rest) ≡ Some (t, rest)
unfolding type_first
type_read t rest = ap (λ o. read_as o rest) (type_of_text t)

next_type_read : (t : CTy) (rest : List Token) → next_type (Mark 44 ∷ Word (type_text t) ∷ rest) ≡ Some (t, rest)
unfolding next_type
next_type_read t rest = type_read t rest

more_types_read : (ts : List CTy) (rest : List Token) (n : ℕ) → length (more_types ts (Mark 41 ∷ rest)) < n
    → many next_type (after_mark 41) n (more_types ts (Mark 41 ∷ rest)) ≡ Some (ts, rest)
more_types_read ts rest zero l = absurd (omega arith)
more_types_read [] rest (suc n) l = nil_read next_type (after_mark 41) n (Mark 41 ∷ rest) rest refl
more_types_read (t ∷ ts) rest (suc n) l =
    let tail = more_types ts (Mark 41 ∷ rest) in
    cons_read next_type (after_mark 41) n (Mark 44 ∷ Word (type_text t) ∷ tail) t tail ts rest refl (next_type_read t tail) (more_types_read ts rest n (omega arith))

all_types_read : (ts : List CTy) (rest : List Token) → all next_type (after_mark 41) (more_types ts (Mark 41 ∷ rest)) ≡ Some (ts, rest)
unfolding all
all_types_read ts rest = more_types_read ts rest (suc (length (more_types ts (Mark 41 ∷ rest)))) (omega arith)

variable_read : (v : CVar) (rest : List Token) → is_local_name v.name ≡ true → variable (Word (type_text v.ty) ∷ Word v.name ∷ rest) ≡ Some (v, rest)
unfolding variable
variable_read v rest h = rw (type_read v.ty (Word v.name ∷ rest), h) refl

next_variable_read : (v : CVar) (rest : List Token) → is_local_name v.name ≡ true → next_variable (Mark 44 ∷ Word (type_text v.ty) ∷ Word v.name ∷ rest) ≡ Some (v, rest)
unfolding next_variable
next_variable_read v rest h = variable_read v rest h

more_params_read : (vs : List CVar) (rest : List Token) (n : ℕ) → NamedVars vs → length (more_params vs (Mark 41 ∷ rest)) < n
    → many next_variable (after_mark 41) n (more_params vs (Mark 41 ∷ rest)) ≡ Some (vs, rest)
more_params_read vs rest zero h l = absurd (omega arith)
more_params_read [] rest (suc n) h l = nil_read next_variable (after_mark 41) n (Mark 41 ∷ rest) rest refl
more_params_read (v ∷ vs) rest (suc n) h l =
    let tail = more_params vs (Mark 41 ∷ rest) in
    cons_read next_variable (after_mark 41) n (Mark 44 ∷ Word (type_text v.ty) ∷ Word v.name ∷ tail) v tail vs rest refl (next_variable_read v tail h.0)
    (more_params_read vs rest n h.1 (omega arith))

all_params_read : (vs : List CVar) (rest : List Token) → NamedVars vs → all next_variable (after_mark 41) (more_params vs (Mark 41 ∷ rest)) ≡ Some (vs, rest)
unfolding all
all_params_read vs rest h = more_params_read vs rest (suc (length (more_params vs (Mark 41 ∷ rest)))) h (omega arith)

local_read : (v : CVar) (rest : List Token) → is_local_name v.name ≡ true → local (Word (type_text v.ty) ∷ Word v.name ∷ Mark 59 ∷ rest) ≡ Some (v, rest)
unfolding local
local_read v rest h = rw (variable_read v (Mark 59 ∷ rest) h) refl

some_locals_read : (vs : List CVar) (rest : List Token) (n : ℕ) → NamedVars vs → is_first is_type rest ≡ false → length (local_tokens vs rest) < n
    → many local no_type n (local_tokens vs rest) ≡ Some (vs, rest)
some_locals_read vs rest zero h e l = absurd (omega arith)
some_locals_read [] rest (suc n) h e l = nil_read local no_type n rest rest (ap (λ b. if b then None else Some rest) e)
some_locals_read (v ∷ vs) rest (suc n) h e l =
    let tail = local_tokens vs rest in
    let whole = Word (type_text v.ty) ∷ Word v.name ∷ Mark 59 ∷ tail in
    cons_read local no_type n whole v tail vs rest (ap (λ o. if is_some o then None else Some whole) (type_of_text v.ty)) (local_read v tail h.0)
    (some_locals_read vs rest n h.1 e (omega arith))

locals_read : (vs : List CVar) (rest : List Token) → NamedVars vs → is_first is_type rest ≡ false → locals (local_tokens vs rest) ≡ Some (vs, rest)
unfolding all
locals_read vs rest h e = some_locals_read vs rest (suc (length (local_tokens vs rest))) h e (omega arith)

definition_read : (t : CTy) (name : List ℕ) (params vs : List CVar) (k : Code) (rest : List Token) → NamedVars vs → NamedCode k
    → definition t name params (local_tokens vs (code_tokens k (Mark 125 ∷ rest)))
    ≡ Some (defined (record { result = t; name = name; params = params; locals = vs; code = k }), rest)
unfolding definition
definition_read t name params vs k rest h n =
    rw (locals_read vs (code_tokens k (Mark 125 ∷ rest)) h (body_no_type k rest n), body_read k rest n) refl

type_no_extern : (t : CTy) → is_extern (type_text t) ≡ false
type_no_extern ty.Obj = refl
type_no_extern ty.Long = refl
type_no_extern ty.Char = refl
type_no_extern ty.Int = refl

-- an item that begins with a type and a name
typed_read : (t : CTy) (name : List ℕ) (rest : List Token) → item (Word (type_text t) ∷ Word name ∷ rest) ≡ item_named t name rest
unfolding item typed_item
typed_read t name rest = rw (type_no_extern t, type_read t (Word name ∷ rest)) refl

-- and the name is a function's
function_read : (t : CTy) (name : List ℕ) (rest : List Token) → is_function_name name ≡ true
    → item (Word (type_text t) ∷ Word name ∷ Mark 40 ∷ rest) ≡ item_rest t name rest
unfolding item_named
function_read t name rest h = typed_read t name (Mark 40 ∷ rest) ∙ rw (function_no_global name h, h) refl

type_no_void : (t : CTy) → is_void (type_text t) ≡ false
type_no_void ty.Obj = refl
type_no_void ty.Long = refl
type_no_void ty.Char = refl
type_no_void ty.Int = refl

types_no_word : (ts : List CTy) (rest : List Token) → is_first any_word (more_types ts (Mark 41 ∷ rest)) ≡ false
types_no_word [] rest = refl
types_no_word (t ∷ ts) rest = refl

defined_read : (t : CTy) (name : List ℕ) (ps vs : List CVar) (k : Code) (rest : List Token)
    → is_function_name name ≡ true → NamedVars ps → NamedVars vs → NamedCode k
    → item (Word (type_text t) ∷ Word name ∷ Mark 40 ∷ param_tokens ps (Mark 41 ∷ Mark 123 ∷ local_tokens vs (code_tokens k (Mark 125 ∷ rest))))
    ≡ Some (defined (record { result = t; name = name; params = ps; locals = vs; code = k }), rest)
unfolding item_rest without_params with_params with_names
defined_read t name [] vs k rest n p h m =
    let inner = local_tokens vs (code_tokens k (Mark 125 ∷ rest)) in
    function_read t name (Word (codes "void") ∷ Mark 41 ∷ Mark 123 ∷ inner) n ∙ rw (definition_read t name [] vs k rest h m) refl
defined_read t name (v ∷ ps) vs k rest n p h m =
    let inner = local_tokens vs (code_tokens k (Mark 125 ∷ rest)) in
    let tail = more_params ps (Mark 41 ∷ Mark 123 ∷ inner) in
    let named : is_local_name v.name ≡ true = p.0 in
    function_read t name (Word (type_text v.ty) ∷ Word v.name ∷ tail) n
    ∙ rw (
      type_no_void v.ty,
      type_read v.ty (Word v.name ∷ tail),
      named,
      all_params_read ps (Mark 123 ∷ inner) p.1,
      definition_read t name (v ∷ ps) vs k rest h m,
    ) refl

external_read : (v : CVar) (rest : List Token) → is_global_name v.name ≡ true → item (item_tokens (external v) rest) ≡ Some (external v, rest)
unfolding item external_rest
external_read v rest h = rw (type_read v.ty (Word v.name ∷ Mark 59 ∷ rest), h) refl

global_read : (v : CVar) (rest : List Token) → is_global_name v.name ≡ true → item (item_tokens (global v) rest) ≡ Some (global v, rest)
unfolding item_named
global_read v rest h = typed_read v.ty v.name (Mark 59 ∷ rest) ∙ rw h refl

item_read : (i : Item) (rest : List Token) → NamedItem i → item (item_tokens i rest) ≡ Some (i, rest)
unfolding item_rest without_params with_params with_types
item_read (external v) rest h = external_read v rest h
item_read (global v) rest h = global_read v rest h
item_read (declared t name []) rest h = function_read t name (Word (codes "void") ∷ Mark 41 ∷ Mark 59 ∷ rest) h
item_read (declared t name (u ∷ ts)) rest h =
    let tail = more_types ts (Mark 41 ∷ Mark 59 ∷ rest) in
    function_read t name (Word (type_text u) ∷ tail) h
    ∙ rw (type_no_void u, type_read u tail, types_no_word ts (Mark 59 ∷ rest), all_types_read ts (Mark 59 ∷ rest)) refl
item_read (defined f) rest h = defined_read f.result f.name f.params f.locals f.code rest h.0 h.1 h.2 h.3

item_no_end : (i : Item) (rest : List Token) → at_end (item_tokens i rest) ≡ None
item_no_end (external v) rest = refl
item_no_end (global v) rest = refl
item_no_end (declared t name params) rest = refl
item_no_end (defined f) rest = refl

items_read : (is : List Item) (n : ℕ) → NamedItems is → length (items_tokens is []) < n
    → many item at_end n (items_tokens is []) ≡ Some (is, [])
items_read is zero h l = absurd (omega arith)
items_read [] (suc n) h l = nil_read item at_end n [] [] refl
items_read (i ∷ is) (suc n) h l =
    let tail = items_tokens is [] in
    let longer : length tail < length (item_tokens i tail) = item_longer i tail in
    cons_read item at_end n (item_tokens i tail) i tail is [] (item_no_end i tail) (item_read i tail h.0) (items_read is n h.1 (omega arith))

pub parsed_read : (is : List Item) → NamedItems is → parsed (items_tokens is []) ≡ Some (is, [])
unfolding all
parsed_read is h = items_read is (suc (length (items_tokens is []))) h (omega arith)
