-- What was read from the front of some tokens, with its names, as the grammar spells it.
use Rattle.std.specs.Prelude.{◌≡◌, ℕ, List, ◌∷◌, codes, IsTrue}
use Rattle.c_tree.specs.declared.tree.CTy.{CTy}
use Rattle.c_tree.specs.declared.tree.CArg.{CArg}
use Rattle.c_tree.specs.declared.tree.CCall.{CCall}
use Rattle.c_tree.specs.declared.tree.CExpr.{CExpr}
use Rattle.c_tree.specs.declared.tree.CVar.{CVar}
use Rattle.c_tree.specs.declared.pieces.Piece.{Piece}
use Rattle.c_tree.specs.declared.laying.Layout.{Layout}
use Rattle.c_tree.specs.declared.function.CItem.{CItem}
use Rattle.c_tree.specs.Lexical.{Token, Word, Mark}
use Rattle.c_tree.specs.Names.{is_function_name, is_local_name}
use Rattle.c_tree.specs.Code.{Code}
use Rattle.c_tree.specs.Layout.{code_of}
use Rattle.c_tree.specs.Functions.{item_of, items_of}
use Rattle.c_tree.specs.Spelling.{type_text, argument_tokens_of, argument_tokens, call_tokens, expr_tokens, code_tokens, piece_tokens, pieces_tokens, param_tokens, local_tokens, item_tokens, items_tokens, NamedArgument, NamedArguments, NamedCall, NamedExpr, NamedCode, NamedPiece, NamedPieces, NamedVars, NamedItem, NamedItems}

abbrev pub YieldsArgument : List Token → CArg → List Token → Type 0
YieldsArgument old a left = (old ≡ argument_tokens_of a left) × NamedArgument a

abbrev pub YieldsNext : List Token → CArg → List Token → Type 0
YieldsNext old a left = (old ≡ Mark 44 ∷ argument_tokens_of a left) × NamedArgument a

abbrev pub YieldsArguments : List Token → List CArg → List Token → Type 0
YieldsArguments old args left = (old ≡ argument_tokens args left) × NamedArguments args

abbrev pub YieldsCall : List Token → CCall → List Token → Type 0
YieldsCall old c left = (old ≡ call_tokens c left) × NamedCall c

abbrev pub YieldsExpr : List Token → CExpr → List Token → Type 0
YieldsExpr old e left = (old ≡ expr_tokens e left) × NamedExpr e

abbrev pub YieldsPiece : List Token → Piece → List Token → Type 0
YieldsPiece old p left = (old ≡ piece_tokens p left) × NamedPiece p

abbrev pub YieldsPieces : List Token → List Piece → List Token → Type 0
YieldsPieces old ps left = (old ≡ pieces_tokens ps left) × NamedPieces ps

abbrev pub laid_code : Layout → Code
laid_code l = code_of l.stmts l.body

abbrev pub YieldsBody : List Token → Layout → List Token → Type 0
YieldsBody old l left = (old ≡ code_tokens (laid_code l) (Mark 125 ∷ left)) × NamedCode (laid_code l)

abbrev pub head_tokens : List Token → List Token
head_tokens left = Word (codes "for") ∷ Mark 40 ∷ Mark 59 ∷ Mark 59 ∷ Mark 41 ∷ Mark 123 ∷ left

abbrev pub YieldsVar : List Token → CVar → List Token → Type 0
YieldsVar old v left = (old ≡ Word (type_text v.ty) ∷ Word v.name ∷ left) × IsTrue (is_local_name v.name)

abbrev pub YieldsLocals : List Token → List CVar → List Token → Type 0
YieldsLocals old vs left = (old ≡ local_tokens vs left) × NamedVars vs

-- an item that begins with a type, a name and a parenthesis
abbrev pub YieldsRest : CTy → List ℕ → List Token → CItem → List Token → Type 0
YieldsRest t name old i left =
    (Word (type_text t) ∷ Word name ∷ Mark 40 ∷ old ≡ item_tokens (item_of i) left) × (IsTrue (is_function_name name) → NamedItem (item_of i))

-- a definition from its locals on
abbrev pub YieldsDefinition : CTy → List ℕ → List CVar → List Token → CItem → List Token → Type 0
YieldsDefinition t name params old i left =
    (Word (type_text t) ∷ Word name ∷ Mark 40 ∷ param_tokens params (Mark 41 ∷ Mark 123 ∷ old) ≡ item_tokens (item_of i) left)
    × (IsTrue (is_function_name name) → NamedVars params → NamedItem (item_of i))

-- an item that begins with a type and a name
abbrev pub YieldsNamed : CTy → List ℕ → List Token → CItem → List Token → Type 0
YieldsNamed t name old i left = (Word (type_text t) ∷ Word name ∷ old ≡ item_tokens (item_of i) left) × NamedItem (item_of i)

abbrev pub YieldsItem : List Token → CItem → List Token → Type 0
YieldsItem old i left = (old ≡ item_tokens (item_of i) left) × NamedItem (item_of i)

abbrev pub YieldsItems : List Token → List CItem → List Token → Type 0
YieldsItems old is left = (old ≡ items_tokens (items_of is) left) × NamedItems (items_of is)
