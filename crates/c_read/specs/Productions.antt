-- What each production of the C grammar reads.
use Rattle.std.specs.Prelude.{ℕ, zero, suc, List, [], ◌∷◌, length, codes, nat_eq, Bool, true, if◌then◌else◌, Option, Some, None}
use Rattle.std.specs.Option.{is_some}
use Rattle.c_tree.specs.declared.tree.CTy.{CTy}
use Rattle.c_tree.specs.declared.tree.CArg.{CArg}
use Rattle.c_tree.specs.declared.tree.CArg.TheVariants as arg
use Rattle.c_tree.specs.declared.tree.CCall.{CCall}
use Rattle.c_tree.specs.declared.tree.CExpr.{CExpr}
use Rattle.c_tree.specs.declared.tree.CExpr.TheVariants as expr
use Rattle.c_tree.specs.declared.tree.CVar.{CVar}
use Rattle.c_tree.specs.declared.pieces.Piece.{Piece}
use Rattle.c_tree.specs.declared.pieces.Piece.TheVariants as piece
use Rattle.c_tree.specs.Code.{Code, Item, external, global, declared, defined}
use Rattle.c_tree.specs.Lexical.{Token, Word, Mark, Str, Bad}
use Rattle.c_tree.specs.Names.{is_function_name, is_entry_name, is_variable_name, is_global_name, is_local_name, is_label_name, is_end_label_name, is_target_name}
use Rattle.c_read.specs.Sequences.{after, on_rest, read_as, if_else, after_mark, after_text, word_first, named, is_first, onto, all}
use Rattle.c_read.specs.Words.{type_of, atom_of, callee_of, is_return, is_if, is_goto, is_catch, is_protect, is_extern}
use Rattle.scheme_data.specs.Names.{is_same}
use Rattle.c_read.specs.Nesting.{code_in}
use Rattle.c_read.specs.declared.bodies.Open.{Open}
use Rattle.c_read.specs.declared.bodies.Open.TheVariants.{Plain, InIf, Labelled, Protected}

-- Calls -------------------------------------------------------------------------------------

-- after a mark that is to be `&`
abbrev pub entry : ℕ → List Token → Option (CArg × List Token)
entry mark tokens = if nat_eq mark 38 then after (named is_entry_name tokens) (λ x left. Some (arg.Entry x, left)) else None

abbrev pub argument : List Token → Option (CArg × List Token)
argument [] = None
argument (Word w ∷ rest) = after (read_as (atom_of w) rest) (λ a left. Some (arg.Atom a, left))
argument (Str text ∷ rest) = Some (arg.Str text, rest)
argument (Mark m ∷ rest) = entry m rest
argument (Bad ∷ rest) = None

unfoldable pub next_argument : List Token → Option (CArg × List Token)
next_argument tokens = on_rest (after_mark 44 tokens) argument

-- to the closing parenthesis
unfoldable pub arguments : List Token → Option (List CArg × List Token)
arguments tokens =
    if_else (after_mark 41 tokens) (λ left. Some ([], left))
    (after (argument tokens) (λ a rest. onto (a ∷ []) (all next_argument (after_mark 41) rest)))

abbrev pub call_of : List ℕ → List Token → Option (CCall × List Token)
call_of word tokens =
    after (read_as (callee_of word) tokens) (λ callee rest. after (arguments rest) (λ args left. Some (record { callee = callee; args = args }, left)))

abbrev pub atom_alone : List ℕ → List Token → Option (CExpr × List Token)
atom_alone word tokens = after (read_as (atom_of word) tokens) (λ a left. Some (expr.Atom a, left))

unfoldable pub expression : List Token → Option (CExpr × List Token)
expression tokens =
    after (word_first tokens) (λ w rest. if_else (after_mark 40 rest) (λ inner. after (call_of w inner) (λ c left. Some (expr.Call c, left))) (atom_alone w rest))

-- Statements --------------------------------------------------------------------------------

-- after `return`
abbrev pub returned : List Token → Option (Piece × List Token)
returned tokens = after (expression tokens) (λ e rest. on_rest (after_mark 59 rest) (λ left. Some (piece.Return e, left)))

-- after the variable and `=`
abbrev pub assigned : List ℕ → List Token → Option (Piece × List Token)
assigned word tokens =
    if is_variable_name word then after (expression tokens) (λ e rest. on_rest (after_mark 59 rest) (λ left. Some (piece.Assign word e, left))) else None

abbrev pub called : List ℕ → List Token → Option (Piece × List Token)
called word tokens = on_rest (after_mark 40 tokens) (λ inner. after (call_of word inner) (λ c rest. on_rest (after_mark 59 rest) (λ left. Some (piece.Call c, left))))

-- `( expression ) {`, after `if`
unfoldable pub condition : List Token → Option (Piece × List Token)
condition tokens =
    on_rest (after_mark 40 tokens) (λ inner. after (expression inner) (λ e rest. on_rest (after_mark 41 rest) (λ more. on_rest (after_mark 123 more) (λ left. Some (piece.If e, left)))))

-- `for ( ; ; ) {`
unfoldable pub after_head : List Token → Option (List Token)
after_head tokens =
    on_rest (after_text (codes "for") tokens) (λ a. on_rest (after_mark 40 a) (λ b. on_rest (after_mark 59 b) (λ c. on_rest (after_mark 59 c) (λ d. on_rest (after_mark 41 d) (λ e. after_mark 123 e)))))

-- after the label and its colon
abbrev pub looped : List ℕ → List Token → Option (Piece × List Token)
looped word tokens = if is_label_name word then on_rest (after_head tokens) (λ left. Some (piece.Loop word, left)) else None

-- after a first word that names something
unfoldable pub named_statement : List ℕ → List Token → Option (Piece × List Token)
named_statement word tokens = if_else (after_mark 61 tokens) (assigned word) (if_else (after_mark 58 tokens) (looped word) (called word tokens))

-- after `goto`
unfoldable pub jump : List Token → Option (Piece × List Token)
jump tokens = after (named is_target_name tokens) (λ l rest. on_rest (after_mark 59 rest) (λ left. Some (piece.Goto l, left)))

-- `( local , local ) {`, after `BGL_CATCH`
unfoldable pub catching : List Token → Option (Piece × List Token)
catching tokens =
    on_rest (after_mark 40 tokens) (λ a. after (named is_local_name a) (λ k b. on_rest (after_mark 44 b) (λ c. after (named is_local_name c) (λ r d.
    on_rest (after_mark 41 d) (λ e. on_rest (after_mark 123 e) (λ left. Some (piece.Catch k r, left)))))))

abbrev pub protecting : List Token → Option (Piece × List Token)
protecting tokens = on_rest (after_mark 123 tokens) (λ left. Some (piece.Protect, left))

abbrev pub rarer_statement : List ℕ → List Token → Option (Piece × List Token)
rarer_statement word tokens =
    if is_goto word then jump tokens else (if is_catch word then catching tokens else (if is_protect word then protecting tokens else named_statement word tokens))

abbrev pub statement_of : List ℕ → List Token → Option (Piece × List Token)
statement_of word tokens = if is_return word then returned tokens else (if is_if word then condition tokens else rarer_statement word tokens)

unfoldable pub statement : List Token → Option (Piece × List Token)
statement tokens = after (word_first tokens) statement_of

-- after the closing brace of such a block
unfoldable pub closing_of : Open → List Token → Option (Piece × List Token)
closing_of Plain tokens = Some (piece.End, tokens)
closing_of InIf tokens = on_rest (after_text (codes "else") tokens) (λ a. on_rest (after_mark 123 a) (λ left. Some (piece.Else, left)))
closing_of Labelled tokens =
    after (named is_end_label_name tokens) (λ l a. on_rest (after_mark 58 a) (λ b. on_rest (after_mark 59 b) (λ left. Some (piece.Ended l, left))))
closing_of Protected tokens = on_rest (after_mark 123 tokens) (λ left. Some (piece.Cleanup, left))

-- after a closing brace, where these blocks are open, innermost first
abbrev pub closing : List Open → List Token → Option (Piece × List Token)
closing [] tokens = None
closing (one ∷ opens) tokens = closing_of one tokens

unfoldable pub next_piece : List Open → List Token → Option (Piece × List Token)
next_piece opens tokens =
    if_else (after_mark 125 tokens) (closing opens) (if_else (after_mark 123 tokens) (λ left. Some (piece.Begin, left)) (statement tokens))

abbrev pub but_one : List Open → List Open
but_one [] = []
but_one (one ∷ opens) = opens

-- which blocks are open after a piece
abbrev pub opens_after : Piece → List Open → List Open
opens_after (piece.Assign x e) opens = opens
opens_after (piece.Call c) opens = opens
opens_after (piece.Return e) opens = opens
opens_after (piece.Goto l) opens = opens
opens_after (piece.If e) opens = InIf ∷ opens
opens_after piece.Else opens = Plain ∷ but_one opens
opens_after (piece.Loop l) opens = Plain ∷ opens
opens_after piece.Begin opens = Labelled ∷ opens
opens_after (piece.Ended l) opens = but_one opens
opens_after (piece.Catch k r) opens = Plain ∷ opens
opens_after piece.Protect opens = Protected ∷ opens
opens_after piece.Cleanup opens = Plain ∷ but_one opens
opens_after piece.End opens = but_one opens

-- the closing brace of the function
abbrev pub after_body : List Open → List Token → Option (List Token)
after_body [] tokens = after_mark 125 tokens
after_body (one ∷ opens) tokens = None

-- pieces until the function's closing brace, at most so many, where these blocks are open
unfoldable pub pieces_within : ℕ → List Open → List Token → Option (List Piece × List Token)
pieces_within zero opens tokens = None
pieces_within (suc most) opens tokens =
    if_else (after_body opens tokens) (λ left. Some ([], left)) (after (next_piece opens tokens) (λ p rest. onto (p ∷ []) (pieces_within most (opens_after p opens) rest)))

unfoldable pub all_pieces : List Token → Option (List Piece × List Token)
all_pieces tokens = pieces_within (suc (length tokens)) [] tokens

-- a function's statements, to its closing brace
unfoldable pub body : List Token → Option (Code × List Token)
body tokens = after (all_pieces tokens) (λ ps rest. read_as (code_in ps) rest)

-- Items -------------------------------------------------------------------------------------

abbrev pub is_type : List ℕ → Bool
is_type word = is_some (type_of word)

unfoldable pub type_first : List Token → Option (CTy × List Token)
type_first tokens = after (word_first tokens) (λ w rest. read_as (type_of w) rest)

unfoldable pub next_type : List Token → Option (CTy × List Token)
next_type tokens = on_rest (after_mark 44 tokens) type_first

-- a type and a name
unfoldable pub variable : List Token → Option (CVar × List Token)
variable tokens = after (type_first tokens) (λ t rest. after (named is_local_name rest) (λ x left. Some (record { ty = t; name = x }, left)))

unfoldable pub next_variable : List Token → Option (CVar × List Token)
next_variable tokens = on_rest (after_mark 44 tokens) variable

unfoldable pub local : List Token → Option (CVar × List Token)
local tokens = after (variable tokens) (λ v rest. on_rest (after_mark 59 rest) (λ left. Some (v, left)))

abbrev pub no_type : List Token → Option (List Token)
no_type tokens = if is_first is_type tokens then None else Some tokens

abbrev pub locals : List Token → Option (List CVar × List Token)
locals tokens = all local no_type tokens

-- the rest of a definition, after the opening brace
unfoldable pub definition : CTy → List ℕ → List CVar → List Token → Option (Item × List Token)
definition t name params tokens =
    after (locals tokens) (λ vs rest. after (body rest) (λ c left. Some (defined (record { result = t; name = name; params = params; locals = vs; code = c }), left)))

-- after `void )`
unfoldable pub without_params : CTy → List ℕ → List Token → Option (Item × List Token)
without_params t name tokens =
    if_else (after_mark 59 tokens) (λ left. Some (declared t name [], left)) (on_rest (after_mark 123 tokens) (definition t name []))

-- after the first type
unfoldable pub with_types : CTy → List ℕ → CTy → List Token → Option (Item × List Token)
with_types t name one tokens =
    after (onto (one ∷ []) (all next_type (after_mark 41) tokens)) (λ types rest. on_rest (after_mark 59 rest) (λ left. Some (declared t name types, left)))

unfoldable pub with_names : CTy → List ℕ → CTy → List Token → Option (Item × List Token)
with_names t name one tokens =
    after (named is_local_name tokens) (λ x rest. after (onto (record { ty = one; name = x } ∷ []) (all next_variable (after_mark 41) rest)) (λ params more.
    on_rest (after_mark 123 more) (definition t name params)))

abbrev pub any_word : List ℕ → Bool
any_word word = true

unfoldable pub with_params : CTy → List ℕ → List Token → Option (Item × List Token)
with_params t name tokens =
    after (type_first tokens) (λ one rest. if is_first any_word rest then with_names t name one rest else with_types t name one rest)

abbrev pub is_void : List ℕ → Bool
is_void word = is_same word (codes "void")

-- after the opening parenthesis
unfoldable pub item_rest : CTy → List ℕ → List Token → Option (Item × List Token)
item_rest t name tokens =
    if is_first is_void tokens then after (word_first tokens) (λ w rest. on_rest (after_mark 41 rest) (without_params t name)) else with_params t name tokens

-- after `extern`
unfoldable pub external_rest : List Token → Option (Item × List Token)
external_rest tokens =
    after (type_first tokens) (λ t rest. after (named is_global_name rest) (λ x more. on_rest (after_mark 59 more) (λ left. Some (external (record { ty = t; name = x }), left))))

-- after a type and a name
unfoldable pub item_named : CTy → List ℕ → List Token → Option (Item × List Token)
item_named t name tokens =
    if is_global_name name then on_rest (after_mark 59 tokens) (λ left. Some (global (record { ty = t; name = name }), left))
    else (if is_function_name name then on_rest (after_mark 40 tokens) (item_rest t name) else None)

unfoldable pub typed_item : List Token → Option (Item × List Token)
typed_item tokens = after (type_first tokens) (λ t rest. after (word_first rest) (λ name more. item_named t name more))

unfoldable pub item : List Token → Option (Item × List Token)
item tokens = if is_first is_extern tokens then on_rest (after_text (codes "extern") tokens) external_rest else typed_item tokens

abbrev pub at_end : List Token → Option (List Token)
at_end [] = Some []
at_end (t ∷ ts) = None

abbrev pub parsed : List Token → Option (List Item × List Token)
parsed tokens = all item at_end tokens
