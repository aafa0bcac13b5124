-- Lists written item by item.
use Rattle.std.proofs.Common.{◌≡◌, ℕ, zero, suc, ◌+◌, ◌<◌, ◌≤◌, List, [], ◌∷◌, ◌++◌, length, take, get_or, refl, sym, ◌∙◌, ap, subst, arith}
use Rattle.std.specs.Prelude.{IsTrue, map}
use Rattle.std.proofs.lemmas.List.{take_more, take_all}
use Rattle.c_tree.specs.declared.tree.CTy.{CTy}
use Rattle.c_tree.specs.declared.tree.CArg.{CArg}
use Rattle.c_tree.specs.declared.tree.CVar.{CVar}
use Rattle.c_tree.specs.declared.pieces.PieceRef.{PieceRef}
use Rattle.c_tree.specs.declared.function.CItem.{CItem}
use Rattle.c_tree.specs.Lexical.{Token, Word, Mark, tokens}
use Rattle.c_tree.specs.Names.{is_local_name}
use Rattle.c_tree.specs.Code.{Code}
use Rattle.c_tree.specs.Functions.{item_of, items_of}
use Rattle.c_tree.specs.Pieces.{pieces, piece_of}
use Rattle.c_tree.specs.Spelling.{code_tokens, piece_tokens, pieces_tokens, more_arguments, argument_tokens_of, more_types, more_params, type_text, local_tokens, item_tokens, items_tokens, NamedArgument, NamedArguments, NamedCode, NamedPiece, NamedPieces, NamedVars, NamedItem, NamedItems}
use Rattle.c_tree.proofs.Spelled.{pieces_spelled, named_pieces}
use Rattle.c_write.specs.Adds.{Follow, anything, Adds}
use Rattle.c_write.proofs.Adding.{adds_both, tokens_all}

-- Any list ----------------------------------------------------------------------------------

pub adds_same : {before after : Follow} {old new : List ℕ} (f g : List Token → List Token) → ((ts : List Token) → f ts ≡ g ts)
    → Adds before after old new f → Adds before after old new g
adds_same f g same adds = record { holds = λ front ends. record { holds = λ rest may. (adds.holds front ends).holds rest may ∙ ap front (same (tokens rest)) } }

-- one more item is written
pub adds_more : {X : Type 0} {before after : Follow} {old middle new : List ℕ} (spelled : List X → List Token → List Token)
    → ((xs ys : List X) (ts : List Token) → spelled (xs ++ ys) ts ≡ spelled xs (spelled ys ts))
    → (xs : List X) (i : ℕ) (x : X) → i < length xs → x ≡ get_or xs i x
    → Adds before after old middle (spelled (take i xs)) → Adds after after middle new (spelled (x ∷ []))
    → Adds before after old new (spelled (take (i + 1) xs))
adds_more spelled joins xs i x within is first second =
    let more : take (i + 1) xs ≡ take i xs ++ x ∷ [] = take_more xs i x within ∙ ap (λ y. take i xs ++ y ∷ []) (sym is) in
    adds_same (λ ts. spelled (take i xs) (spelled (x ∷ []) ts)) (spelled (take (i + 1) xs))
    (λ ts. sym (ap (λ ys. spelled ys ts) more ∙ joins (take i xs) (x ∷ []) ts)) (adds_both first second)

-- the tokens of the same
pub adds_along : {A : Type 0} {before after : Follow} {old new : List ℕ} (spelled : A → List Token → List Token) (x y : A) → x ≡ y
    → Adds before after old new (spelled x) → Adds before after old new (spelled y)
adds_along {before} {after} {old} {new} spelled x y same adds = subst (λ z. Adds before after old new (spelled z)) same adds

-- all items are written
pub adds_all : {X : Type 0} {before after : Follow} {old new : List ℕ} (spelled : List X → List Token → List Token) (xs : List X) (i : ℕ) → length xs ≤ i
    → Adds before after old new (spelled (take i xs)) → Adds before after old new (spelled xs)
adds_all {before} {after} {old} {new} spelled xs i over adds = subst (λ ys. Adds before after old new (spelled ys)) (take_all i xs over) adds

pub item_at : {X : Type 0} (Named : List X → Type 0) (P : X → Type 0) → ((x : X) (xs : List X) → Named (x ∷ xs) → P x × Named xs)
    → (xs : List X) (i : ℕ) (x : X) → Named xs → i < length xs → x ≡ get_or xs i x → P x
item_at Named P parts [] i x named within is = absurd (omega arith)
item_at Named P parts (y ∷ ys) zero x named within is = subst P (sym is) (parts y ys named).0
item_at Named P parts (y ∷ ys) (suc i) x named within is = item_at Named P parts ys i x (parts y ys named).1 (omega arith) is

-- Each list ---------------------------------------------------------------------------------

pub more_arguments-append : (xs ys : List CArg) (ts : List Token) → more_arguments (xs ++ ys) ts ≡ more_arguments xs (more_arguments ys ts)
more_arguments-append [] ys ts = refl
more_arguments-append (x ∷ xs) ys ts = ap (λ us. Mark 44 ∷ argument_tokens_of x us) (more_arguments-append xs ys ts)

pub more_types-append : (xs ys : List CTy) (ts : List Token) → more_types (xs ++ ys) ts ≡ more_types xs (more_types ys ts)
more_types-append [] ys ts = refl
more_types-append (x ∷ xs) ys ts = ap (λ us. Mark 44 ∷ Word (type_text x) ∷ us) (more_types-append xs ys ts)

pub more_params-append : (xs ys : List CVar) (ts : List Token) → more_params (xs ++ ys) ts ≡ more_params xs (more_params ys ts)
more_params-append [] ys ts = refl
more_params-append (x ∷ xs) ys ts = ap (λ us. Mark 44 ∷ Word (type_text x.ty) ∷ Word x.name ∷ us) (more_params-append xs ys ts)

pub local_tokens-append : (xs ys : List CVar) (ts : List Token) → local_tokens (xs ++ ys) ts ≡ local_tokens xs (local_tokens ys ts)
local_tokens-append [] ys ts = refl
local_tokens-append (x ∷ xs) ys ts = ap (λ us. Word (type_text x.ty) ∷ Word x.name ∷ Mark 59 ∷ us) (local_tokens-append xs ys ts)

-- the tokens of pieces as they are listed
abbrev pub listed_tokens : List PieceRef → List Token → List Token
listed_tokens ps = pieces_tokens (map piece_of ps)

pub listed_tokens-append : (xs ys : List PieceRef) (ts : List Token) → listed_tokens (xs ++ ys) ts ≡ listed_tokens xs (listed_tokens ys ts)
listed_tokens-append [] ys ts = refl
listed_tokens-append (x ∷ xs) ys ts = ap (piece_tokens (piece_of x)) (listed_tokens-append xs ys ts)

abbrev pub all_tokens : List CItem → List Token → List Token
all_tokens items = items_tokens (items_of items)

pub all_tokens-append : (xs ys : List CItem) (ts : List Token) → all_tokens (xs ++ ys) ts ≡ all_tokens xs (all_tokens ys ts)
all_tokens-append [] ys ts = refl
all_tokens-append (x ∷ xs) ys ts = ap (item_tokens (item_of x)) (all_tokens-append xs ys ts)

-- Names -------------------------------------------------------------------------------------

pub named_argument_at : (xs : List CArg) (i : ℕ) (x : CArg) → NamedArguments xs → i < length xs → x ≡ get_or xs i x → NamedArgument x
named_argument_at xs i x named within is = item_at NamedArguments NamedArgument (λ y ys h. h) xs i x named within is

pub named_var_at : (xs : List CVar) (i : ℕ) (x : CVar) → NamedVars xs → i < length xs → x ≡ get_or xs i x → IsTrue (is_local_name x.name)
named_var_at xs i x named within is = item_at NamedVars (λ v. IsTrue (is_local_name v.name)) (λ y ys h. h) xs i x named within is

pub named_piece_at : (xs : List PieceRef) (i : ℕ) (x : PieceRef) → NamedPieces (map piece_of xs) → i < length xs → x ≡ get_or xs i x → NamedPiece (piece_of x)
named_piece_at xs i x named within is = item_at (λ ys. NamedPieces (map piece_of ys)) (λ y. NamedPiece (piece_of y)) (λ y ys h. h) xs i x named within is

pub named_item_at : (xs : List CItem) (i : ℕ) (x : CItem) → NamedItems (items_of xs) → i < length xs → x ≡ get_or xs i x → NamedItem (item_of x)
named_item_at xs i x named within is = item_at (λ ys. NamedItems (items_of ys)) (λ y. NamedItem (item_of y)) (λ y ys h. h) xs i x named within is

-- A function's statements ------------------------------------------------------------------

pub named_listed : (ps listed : List PieceRef) (c : Code) → listed ≡ ps → map piece_of ps ≡ pieces c [] → NamedCode c → NamedPieces (map piece_of listed)
named_listed ps listed c same is named = subst NamedPieces (sym (ap (map piece_of) same ∙ is)) (named_pieces c [] named tt)

-- what has the pieces of code has its tokens
pub adds_code : {before after : Follow} {old new : List ℕ} (ps listed : List PieceRef) (c : Code) → listed ≡ ps → map piece_of ps ≡ pieces c []
    → Adds before after old new (listed_tokens listed) → Adds before after old new (code_tokens c)
adds_code ps listed c same is adds =
    adds_same (listed_tokens listed) (code_tokens c) (λ ts. ap (λ qs. pieces_tokens qs ts) (ap (map piece_of) same ∙ is) ∙ pieces_spelled c [] ts) adds

-- Whole texts -------------------------------------------------------------------------------

pub whole_text : (start text : List ℕ) (given items : List CItem) → start ≡ [] → given ≡ items → Adds anything anything start text (all_tokens given)
    → tokens text ≡ all_tokens items []
whole_text start text given items empty same adds =
    tokens_all (subst (λ t. Adds anything anything t text (all_tokens items)) empty (adds_along all_tokens given items same adds))
