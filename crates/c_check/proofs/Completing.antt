-- What stands at the end of code, as its pieces tell it.
use Rattle.std.proofs.Common.{◌≡◌, ℕ, Bool, true, false, ◌||◌, ◌&&◌, List, [], ◌∷◌, ◌++◌, refl, sym, ap, ◌∙◌}
use Rattle.std.specs.List.{list_any}
use Rattle.std.proofs.lemmas.List.Folds.{list_any-append}
use Rattle.c_tree.specs.declared.pieces.Piece.{Piece}
use Rattle.c_tree.specs.declared.pieces.Piece.TheVariants as piece
use Rattle.c_tree.specs.declared.tree.CExpr.{CExpr}
use Rattle.c_tree.specs.Code.{Code, done, assign, call, return, test, loop, ended, goto, catch, protect}
use Rattle.c_tree.specs.Pieces.{pieces}
use Rattle.c_meaning.specs.Plain.{Role, Main, Maker, Initializer, Entry, Function, returns_last}
use Rattle.c_meaning.specs.Breaches.{is_function, called_in, calls_of, calls_in, is_complete}
use Rattle.c_check.specs.Pieces.{calls_function, ends_in_return, are_some, are_complete}

-- Calls -------------------------------------------------------------------------------------

abbrev Calls : Code → Type 0
Calls c = (others : List Piece) → list_any calls_function (pieces c others) ≡ (list_any is_function (calls_in c) || list_any calls_function others)

or-assoc : (a b c : Bool) → (a || (b || c)) ≡ ((a || b) || c)
or-assoc true b c = refl
or-assoc false b c = refl

joined : (a b : List (List ℕ)) (others : Bool) → (list_any is_function a || (list_any is_function b || others)) ≡ (list_any is_function (a ++ b) || others)
joined a b others = or-assoc (list_any is_function a) (list_any is_function b) others ∙ ap (λ q. q || others) (sym (list_any-append is_function a b))

-- one part behind another
behind : (a : List (List ℕ)) (c : Code) → Calls c → (others : List Piece) → (list_any is_function a || list_any calls_function (pieces c others)) ≡ (list_any is_function (a ++ calls_in c) || list_any calls_function others)
behind a c calls others = ap (λ q. list_any is_function a || q) (calls others) ∙ joined a (calls_in c) (list_any calls_function others)

two : (a b : Code) → Calls a → Calls b → (p : Piece) → calls_function p ≡ false → (others : List Piece)
    → list_any calls_function (pieces a (p ∷ pieces b others)) ≡ (list_any is_function (calls_in a ++ calls_in b) || list_any calls_function others)
two a b ca cb p none others =
    ca (p ∷ pieces b others)
    ∙ ap (λ q. list_any is_function (calls_in a) || (q || list_any calls_function (pieces b others))) none
    ∙ behind (calls_in a) b cb others

three : (a b c : Code) → Calls a → Calls b → Calls c → (p : Piece) → calls_function p ≡ false → (others : List Piece)
    → list_any calls_function (pieces a (p ∷ pieces b (piece.End ∷ pieces c others))) ≡ (list_any is_function (calls_in a ++ (calls_in b ++ calls_in c)) || list_any calls_function others)
three a b c ca cb cc p none others =
    ca (p ∷ pieces b (piece.End ∷ pieces c others))
    ∙ ap (λ q. list_any is_function (calls_in a) || (q || list_any calls_function (pieces b (piece.End ∷ pieces c others)))) none
    ∙ ap (λ q. list_any is_function (calls_in a) || q) (two b c cb cc piece.End refl others)
    ∙ joined (calls_in a) (calls_in b ++ calls_in c) (list_any calls_function others)

calls : (c : Code) → Calls c
calls done others = refl
calls (assign x e rest) others = behind (calls_of e) rest (calls rest) others
calls (call c rest) others = behind (called_in c.callee) rest (calls rest) others
calls (return e rest) others = behind (calls_of e) rest (calls rest) others
calls (test e a b rest) others =
    ap (λ q. list_any is_function (calls_of e) || q) (three a b rest (calls a) (calls b) (calls rest) piece.Else refl others)
    ∙ joined (calls_of e) (calls_in a ++ (calls_in b ++ calls_in rest)) (list_any calls_function others)
calls (loop l body rest) others = two body rest (calls body) (calls rest) piece.End refl others
calls (ended body l rest) others = two body rest (calls body) (calls rest) (piece.Ended l) refl others
calls (goto l rest) others = calls rest others
calls (catch k r body rest) others = two body rest (calls body) (calls rest) piece.End refl others
calls (protect a b rest) others = three a b rest (calls a) (calls b) (calls rest) piece.Cleanup refl others

-- The last statement --------------------------------------------------------------------------

abbrev or_before : Bool → Code → Bool
or_before before done = before
or_before before c = returns_last c

no-other : (c : Code) → or_before false c ≡ returns_last c
no-other done = refl
no-other (assign x e rest) = refl
no-other (call c rest) = refl
no-other (return e rest) = refl
no-other (test e a b rest) = refl
no-other (loop l body rest) = refl
no-other (ended body l rest) = refl
no-other (goto l rest) = refl
no-other (catch k r body rest) = refl
no-other (protect a b rest) = refl

last-return : (e : CExpr) (rest : Code) → or_before true rest ≡ returns_last (return e rest)
last-return e done = refl
last-return e (assign x f rest) = refl
last-return e (call c rest) = refl
last-return e (return f rest) = refl
last-return e (test f a b rest) = refl
last-return e (loop l body rest) = refl
last-return e (ended body l rest) = refl
last-return e (goto l rest) = refl
last-return e (catch k r body rest) = refl
last-return e (protect a b rest) = refl

abbrev Lasts : Code → Type 0
Lasts c = (before : Bool) (others : List Piece) → ends_in_return before (pieces c others) ≡ ends_in_return (or_before before c) others

-- statements behind a piece that is no `return`
goes-on : (rest : Code) → Lasts rest → (others : List Piece) → ends_in_return false (pieces rest others) ≡ ends_in_return (returns_last rest) others
goes-on rest lasts others = lasts false others ∙ ap (λ b. ends_in_return b others) (no-other rest)

lasts : (c : Code) → Lasts c
lasts done before others = refl
lasts (assign x e rest) before others = goes-on rest (lasts rest) others
lasts (call c rest) before others = goes-on rest (lasts rest) others
lasts (return e rest) before others = lasts rest true others ∙ ap (λ b. ends_in_return b others) (last-return e rest)
lasts (test e a b rest) before others =
    lasts a false (piece.Else ∷ pieces b (piece.End ∷ pieces rest others)) ∙ lasts b false (piece.End ∷ pieces rest others) ∙ goes-on rest (lasts rest) others
lasts (loop l body rest) before others = lasts body false (piece.End ∷ pieces rest others) ∙ goes-on rest (lasts rest) others
lasts (ended body l rest) before others = lasts body false (piece.Ended l ∷ pieces rest others) ∙ goes-on rest (lasts rest) others
lasts (goto l rest) before others = goes-on rest (lasts rest) others
lasts (catch k r body rest) before others = lasts body false (piece.End ∷ pieces rest others) ∙ goes-on rest (lasts rest) others
lasts (protect a b rest) before others =
    lasts a false (piece.Cleanup ∷ pieces b (piece.End ∷ pieces rest others)) ∙ lasts b false (piece.End ∷ pieces rest others) ∙ goes-on rest (lasts rest) others

-- The closing brace -----------------------------------------------------------------------------

returns-so : (c : Code) → ends_in_return false (pieces c []) ≡ returns_last c
returns-so c = goes-on c (lasts c) []

or-false : (b : Bool) → (b || false) ≡ b
or-false true = refl
or-false false = refl

calls-so : (c : Code) → list_any calls_function (pieces c []) ≡ list_any is_function (calls_in c)
calls-so c = calls c [] ∙ or-false (list_any is_function (calls_in c))

some-so : (c : Code) → are_some (pieces c []) ≡ is_complete Function c
some-so done = refl
some-so (assign x e rest) = refl
some-so (call c rest) = refl
some-so (return e rest) = refl
some-so (test e a b rest) = refl
some-so (loop l body rest) = refl
some-so (ended body l rest) = refl
some-so (goto l rest) = refl
some-so (catch k r body rest) = refl
some-so (protect a b rest) = refl

pub complete : (role : Role) (c : Code) → are_complete role (pieces c []) ≡ is_complete role c
complete Main c = returns-so c
complete Maker c = returns-so c
complete Initializer c = returns-so c
complete Entry c = λ i. returns-so c i && calls-so c i
complete Function c = some-so c
