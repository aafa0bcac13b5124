-- What is spelled where this is due, and that what follows a row's token is spelled with it.
use Rattle.std.proofs.Common.{◌≡◌, ℕ, List, [], ◌∷◌, ◌++◌, Bool, true, ◌||◌, codes}
use Rattle.std.proofs.lemmas.Bool.{or_left, or_right}
use Rattle.c_tree.specs.declared.tree.CTy.{CTy}
use Rattle.c_tree.specs.declared.tree.CArg.{CArg}
use Rattle.c_tree.specs.declared.tree.CAtom.TheVariants as atom
use Rattle.c_tree.specs.declared.tree.Callee.{Callee}
use Rattle.c_tree.specs.declared.tree.Callee.TheVariants as callee
use Rattle.c_tree.specs.declared.tree.CExpr.{CExpr}
use Rattle.c_tree.specs.declared.tree.CExpr.TheVariants as expr
use Rattle.c_tree.specs.declared.tree.CVar.{CVar}
use Rattle.c_tree.specs.Lexical.{Token, Word, Mark}
use Rattle.c_tree.specs.Names.{is_function_name, is_entry_name, is_variable_name, is_global_name, is_local_name, is_label_name, is_end_label_name, is_target_name, is_module_function, is_maker_name, is_initializer_name, is_main}
use Rattle.c_tree.specs.Code.{Code, Item}
use Rattle.c_tree.specs.Spelling.{type_text, callee_text, argument_tokens_of, more_arguments, argument_tokens, expr_tokens, code_tokens, more_types, more_params, local_tokens, item_tokens, items_tokens, NamedArgument, NamedArguments, NamedCallee, NamedExpr, NamedCode, NamedVars, NamedItem, NamedItems}
use Rattle.c_read.specs.declared.kinds.Kind.{Kind}
use Rattle.c_read.specs.declared.kinds.Kind.TheVariants as kind
use Rattle.c_read.specs.declared.dues.Due.{Due}
use Rattle.c_read.specs.declared.dues.Due.TheVariants as due
use Rattle.c_read.specs.Dues.{Row, rows}
use Rattle.c_read.proofs.TokenKinds.{NameToken, AtomToken, OperationToken, TokenOf}

-- What is spelled ---------------------------------------------------------------------------

pub record IsToken (k : Kind) (ts rest : List Token) : Type 0 where
  pub token : Token
  pub is : ts ≡ token ∷ rest
  pub of : TokenOf k token

pub record IsTarget (ts rest : List Token) : Type 0 where
  pub name : List ℕ
  pub is : ts ≡ Word name ∷ rest
  pub named : is_target_name name ≡ true

pub record IsExpression (ts rest : List Token) : Type 0 where
  pub expr : CExpr
  pub is : ts ≡ expr_tokens expr rest
  pub named : NamedExpr expr

pub record IsArgument (ts rest : List Token) : Type 0 where
  pub arg : CArg
  pub is : ts ≡ argument_tokens_of arg rest
  pub named : NamedArgument arg

pub record AreArguments (ts rest : List Token) : Type 0 where
  pub args : List CArg
  pub is : ts ≡ argument_tokens args (Mark 41 ∷ rest)
  pub named : NamedArguments args

pub record AreMoreArguments (ts rest : List Token) : Type 0 where
  pub args : List CArg
  pub is : ts ≡ more_arguments args (Mark 41 ∷ rest)
  pub named : NamedArguments args

pub record IsBlock (ts rest : List Token) : Type 0 where
  pub code : Code
  pub is : ts ≡ code_tokens code (Mark 125 ∷ rest)
  pub named : NamedCode code

pub record IsBody (ts rest : List Token) : Type 0 where
  pub locals : List CVar
  pub code : Code
  pub is : ts ≡ local_tokens locals (code_tokens code (Mark 125 ∷ rest))
  pub vars : NamedVars locals
  pub named : NamedCode code

pub record AreItems (ts rest : List Token) : Type 0 where
  pub items : List Item
  pub is : ts ≡ items_tokens items rest
  pub named : NamedItems items

-- behind any type
pub record IsNamed (ts rest : List Token) : Type 0 where
  pub item : CTy → Item
  pub is : (t : CTy) → Word (type_text t) ∷ ts ≡ item_tokens (item t) rest
  pub named : (t : CTy) → NamedItem (item t)

-- behind a function's head
pub record IsParams (front : List Token → List Token) (ts rest : List Token) : Type 0 where
  pub item : CTy → List ℕ → Item
  pub is : (t : CTy) (name : List ℕ) → Word (type_text t) ∷ Word name ∷ Mark 40 ∷ front ts ≡ item_tokens (item t name) rest
  pub named : (t : CTy) (name : List ℕ) → is_function_name name ≡ true → NamedItem (item t name)

-- behind the type of a first parameter
pub record IsFirst (ts rest : List Token) : Type 0 where
  pub item : CTy → List ℕ → CTy → Item
  pub is : (t : CTy) (name : List ℕ) (u : CTy) → Word (type_text t) ∷ Word name ∷ Mark 40 ∷ Word (type_text u) ∷ ts ≡ item_tokens (item t name u) rest
  pub named : (t : CTy) (name : List ℕ) (u : CTy) → is_function_name name ≡ true → NamedItem (item t name u)

pub record AreMoreTypes (ts rest : List Token) : Type 0 where
  pub types : List CTy
  pub is : ts ≡ more_types types (Mark 41 ∷ rest)

pub record AreMoreParams (ts rest : List Token) : Type 0 where
  pub vars : List CVar
  pub is : ts ≡ more_params vars (Mark 41 ∷ rest)
  pub named : NamedVars vars

-- `void )`
abbrev pub behind_void : List Token → List Token
behind_void ts = Word (codes "void") ∷ Mark 41 ∷ ts

abbrev pub itself : List Token → List Token
itself ts = ts

-- this is spelled by tokens in front of a rest
abbrev pub Means : Due → List Token → List Token → Type 0
Means (due.Token k) ts rest = IsToken k ts rest
Means due.Target ts rest = IsTarget ts rest
Means due.Expression ts rest = IsExpression ts rest
Means due.Argument ts rest = IsArgument ts rest
Means due.Arguments ts rest = AreArguments ts rest
Means due.MoreArguments ts rest = AreMoreArguments ts rest
Means due.Block ts rest = IsBlock ts rest
Means due.Body ts rest = IsBody ts rest
Means due.Items ts rest = AreItems ts rest
Means due.Named ts rest = IsNamed ts rest
Means due.Params ts rest = IsParams itself ts rest
Means due.NoParams ts rest = IsParams behind_void ts rest
Means due.FirstParam ts rest = IsFirst ts rest
Means due.MoreTypes ts rest = AreMoreTypes ts rest
Means due.MoreParams ts rest = AreMoreParams ts rest

pub record Then (First : List Token → List Token → Type 0) (Others : List Token → Type 0) (ts : List Token) : Type 0 where
  pub rest : List Token
  pub first : First ts rest
  pub others : Others rest

-- these are spelled one after the other, and nothing else
abbrev pub Parsed : List Due → List Token → Type 0
Parsed [] ts = ts ≡ []
Parsed (d ∷ dues) ts = Then (Means d) (Parsed dues) ts

-- Back over a token -------------------------------------------------------------------------

abbrev pub Back : Due → Kind → List Due → Type 0
Back d k more = (t : Token) (ts : List Token) (dues : List Due) → TokenOf k t → Parsed (more ++ dues) ts → Parsed (d ∷ dues) (t ∷ ts)

abbrev pub AllBack : Due → List Row → Type 0
AllBack d [] = Unit {0}
AllBack d (r ∷ rs) = Back d r.kind r.more × AllBack d rs

-- Words

pub local_variable : (x : List ℕ) → is_local_name x ≡ true → is_variable_name x ≡ true
unfolding is_variable_name
local_variable x e = or_left (is_local_name x) (is_global_name x) e

pub global_variable : (x : List ℕ) → is_global_name x ≡ true → is_variable_name x ≡ true
unfolding is_variable_name
global_variable x e = or_right (is_local_name x) (is_global_name x) e

pub entry_function : (x : List ℕ) → is_entry_name x ≡ true → is_function_name x ≡ true
unfolding is_function_name
entry_function x e =
    let others = is_maker_name x || (is_initializer_name x || is_main x) in
    or_right (is_module_function x) (is_entry_name x || others) (or_left (is_entry_name x) others e)

pub label_target : (x : List ℕ) → is_label_name x ≡ true → is_target_name x ≡ true
unfolding is_target_name
label_target x e = or_left (is_label_name x) (is_end_label_name x) e

pub end_label_target : (x : List ℕ) → is_end_label_name x ≡ true → is_target_name x ≡ true
unfolding is_target_name
end_label_target x e = or_right (is_label_name x) (is_end_label_name x) e

pub renamed : {f g : List ℕ → Bool} (t : Token) → ((x : List ℕ) → f x ≡ true → g x ≡ true) → NameToken f t → NameToken g t
renamed t h n = record { name = n.name; is = n.is; named = h n.name n.named }

variable_atom : (t : Token) → NameToken is_variable_name t → AtomToken t
variable_atom t n = record { atom = atom.Name n.name; is = n.is; named = n.named }

pub local_atom : (t : Token) → NameToken is_local_name t → AtomToken t
local_atom t n = variable_atom t (renamed t local_variable n)

pub global_atom : (t : Token) → NameToken is_global_name t → AtomToken t
global_atom t n = variable_atom t (renamed t global_variable n)

pub record CalleeToken (t : Token) : Type 0 where
  pub callee : Callee
  pub is : t ≡ Word (callee_text callee)
  pub named : NamedCallee callee

pub function_callee : (t : Token) → NameToken is_function_name t → CalleeToken t
function_callee t n = record { callee = callee.Fun n.name; is = n.is; named = n.named }

pub entry_callee : (t : Token) → NameToken is_entry_name t → CalleeToken t
entry_callee t n = function_callee t (renamed t entry_function n)

pub operation_callee : (t : Token) → OperationToken t → CalleeToken t
operation_callee t n = record { callee = callee.Op n.op; is = n.is; named = tt }

-- Calls

atom_back : (t : Token) (ts : List Token) (dues : List Due) → AtomToken t → Parsed dues ts → Parsed (due.Expression ∷ dues) (t ∷ ts)
atom_back t ts dues a p = record { rest = ts; first = record { expr = expr.Atom a.atom; is = cc (a.is); named = a.named }; others = p }

call_back : (t : Token) (ts : List Token) (dues : List Due) → CalleeToken t → Parsed (due.Token kind.OpenParen ∷ due.Arguments ∷ dues) ts → Parsed (due.Expression ∷ dues) (t ∷ ts)
call_back t ts dues c p =
    let opening = p.first in
    let args = p.others.first in
    record {
      rest = p.others.rest;
      first = record { expr = expr.Call (record { callee = c.callee; args = args.args }); is = cc (c.is, opening.is, opening.of, args.is); named = (c.named, args.named) };
      others = p.others.others;
    }

pub expression_rows : AllBack due.Expression (rows due.Expression)
expression_rows = (
  (λ t ts dues of p. atom_back t ts dues (local_atom t of) p),
  (
    (λ t ts dues of p. atom_back t ts dues (global_atom t of) p),
    (
      (λ t ts dues of p. atom_back t ts dues of p),
      (
        (λ t ts dues of p. call_back t ts dues (function_callee t of) p),
        (
          (λ t ts dues of p. call_back t ts dues (entry_callee t of) p),
          (
            (λ t ts dues of p. call_back t ts dues (operation_callee t of) p),
            tt,
          ),
        ),
      ),
    ),
  ),
)
