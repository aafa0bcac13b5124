-- Checked programs: those that break no rule. The first breach of another is the first in text order.
use Rattle.std.specs.Prelude.{◌≡◌, ℕ, List, [], ◌∷◌, ◌++◌, codes, map, Bool, true, false, not, ◌||◌, Option, Some, None, slice_get}
use Rattle.std.specs.List.{list_any, flat_map}
use Rattle.c_tree.specs.declared.tree.CTy.{CTy}
use Rattle.c_tree.specs.declared.tree.CTy.TheVariants.{Obj, Int}
use Rattle.c_tree.specs.declared.tree.CAtom.{CAtom}
use Rattle.c_tree.specs.declared.tree.CAtom.TheVariants as atom
use Rattle.c_tree.specs.declared.tree.CArg.{CArg}
use Rattle.c_tree.specs.declared.tree.CArg.TheVariants as arg
use Rattle.c_tree.specs.declared.tree.CCall.{CCall}
use Rattle.c_tree.specs.declared.tree.CExpr.{CExpr}
use Rattle.c_tree.specs.declared.tree.CExpr.TheVariants as expr
use Rattle.c_tree.specs.declared.tree.CVar.{CVar}
use Rattle.c_tree.specs.Names.{is_main}
use Rattle.c_tree.specs.Code.{Code, done, assign, call, return, test, loop, ended, goto, catch, protect, Fun, Item, external, global, declared, defined}
use Rattle.c_meaning.specs.declared.breach.BadCause.{BadCause}
use Rattle.c_meaning.specs.declared.breach.BadCause.TheVariants.{Undeclared, Clash, Twice, Shape}
use Rattle.c_meaning.specs.declared.breach.Breach.{Breach}
use Rattle.c_meaning.specs.Plain.{same_type, variable_named, Signature, signature_of, signature_named, Role, Main, Entry, Function, role_of, variables_of, is_called_once, defined_names}
use Rattle.c_meaning.specs.Breaches.{unless, has, Scope, called_in, code_breaches, is_complete, room_of, type_of}

-- Heads -------------------------------------------------------------------------------------

abbrev pub result_fits : Role → CTy → Bool
result_fits Main t = same_type Int t
result_fits Function t = true
result_fits role t = same_type Obj t

abbrev pub param_fits : Role → CTy → Bool
param_fits Function t = true
param_fits Entry t = same_type Obj t
param_fits role t = false

abbrev pub result_agrees : Option Signature → CTy → Bool
result_agrees None t = true
result_agrees (Some f) t = same_type f.result t

-- the parameters of an earlier declaration, of which the first were met
abbrev pub params_before : Option Signature → Option (List CTy)
params_before None = None
params_before (Some f) = Some f.params

abbrev pub param_agrees : Option (List CTy) → CTy → Bool
param_agrees None t = true
param_agrees (Some []) t = false
param_agrees (Some (u ∷ us)) t = same_type u t

abbrev pub params_behind : Option (List CTy) → Option (List CTy)
params_behind None = None
params_behind (Some []) = Some []
params_behind (Some (u ∷ us)) = Some us

-- at the closing parenthesis none is missing
abbrev pub are_all : Option (List CTy) → Bool
are_all None = true
are_all (Some []) = true
are_all (Some (u ∷ us)) = false

abbrev pub param_breaches : Role → Option (List CTy) → CTy → List BadCause
param_breaches role before t = unless Clash (param_agrees before t) ++ unless Shape (param_fits role t)

-- the types of a declaration
abbrev pub types_breaches : Role → Option (List CTy) → List CTy → List BadCause
types_breaches role before [] = unless Clash (are_all before)
types_breaches role before (t ∷ ts) = param_breaches role before t ++ types_breaches role (params_behind before) ts

-- the parameters of a definition, behind variables of these names
abbrev pub params_breaches : Role → Option (List CTy) → List (List ℕ) → List CVar → List BadCause
params_breaches role before names [] = unless Clash (are_all before)
params_breaches role before names (v ∷ vs) =
    param_breaches role before v.ty ++ (unless Twice (not (has names v.name)) ++ params_breaches role (params_behind before) (names ++ v.name ∷ []) vs)

-- the locals, behind variables of these names
abbrev pub locals_breaches : List (List ℕ) → List CVar → List BadCause
locals_breaches names [] = []
locals_breaches names (v ∷ vs) = unless Twice (not (has names v.name)) ++ locals_breaches (names ++ v.name ∷ []) vs

abbrev pub result_breaches : Role → Option Signature → CTy → List BadCause
result_breaches role before t = unless Clash (result_agrees before t) ++ unless Shape (result_fits role t)

-- Items -------------------------------------------------------------------------------------

-- the functions and globals that are declared in front of an item, and the names that are defined there
pub record Known : Type 0 where
  pub functions : List Signature
  pub globals : List CVar
  pub names : List (List ℕ)

abbrev pub names_of_vars : List CVar → List (List ℕ)
names_of_vars vars = map (λ v. v.name) vars

abbrev pub body_scope : Known → Fun → Scope
body_scope k f = record {
  role = role_of f.name;
  result = f.result;
  functions = k.functions ++ signature_of (defined f) ∷ [];
  globals = k.globals;
  variables = variables_of f;
  labels = [];
  called = [];
  blocks = [];
  room = room_of (role_of f.name);
}

abbrev pub global_agrees : Option CTy → CTy → Bool
global_agrees None t = true
global_agrees (Some u) t = same_type u t

abbrev pub global_breaches : Known → CVar → List BadCause
global_breaches k v = unless Clash (global_agrees (type_of (variable_named k.globals v.name)) v.ty)

abbrev pub item_breaches : Known → Item → List BadCause
item_breaches k (external v) = global_breaches k v
item_breaches k (global v) = global_breaches k v ++ unless Twice (not (has k.names v.name))
item_breaches k (declared t name params) =
    result_breaches (role_of name) (signature_named k.functions name) t
    ++ types_breaches (role_of name) (params_before (signature_named k.functions name)) params
item_breaches k (defined f) =
    result_breaches (role_of f.name) (signature_named k.functions f.name) f.result
    ++ (unless Twice (not (has k.names f.name))
    ++ (params_breaches (role_of f.name) (params_before (signature_named k.functions f.name)) [] f.params
    ++ (locals_breaches (names_of_vars f.params) f.locals
    ++ (code_breaches (body_scope k f) f.code
    ++ unless Shape (is_complete (role_of f.name) f.code)))))

abbrev pub after_item : Known → Item → Known
after_item k (external v) = record k { globals = k.globals ++ v ∷ [] }
after_item k (global v) = record k { globals = k.globals ++ v ∷ []; names = k.names ++ v.name ∷ [] }
after_item k (declared t name params) = record k { functions = k.functions ++ signature_of (declared t name params) ∷ [] }
after_item k (defined f) = record k { functions = k.functions ++ signature_of (defined f) ∷ []; names = k.names ++ f.name ∷ [] }

abbrev pub name_of_item : Item → List ℕ
name_of_item i = (signature_of i).name

abbrev pub breach : List ℕ → BadCause → Breach
breach name cause = record { name = name; cause = cause }

abbrev pub items_breaches : Known → List Item → List Breach
items_breaches k [] = []
items_breaches k (i ∷ is) = map (breach (name_of_item i)) (item_breaches k i) ++ items_breaches (after_item k i) is

-- The end of the text -----------------------------------------------------------------------

-- the names that are read, set, called or taken as entries
abbrev pub used_in_atom : CAtom → List (List ℕ)
used_in_atom (atom.Name x) = x ∷ []
used_in_atom _ = []

abbrev pub used_in_argument : CArg → List (List ℕ)
used_in_argument (arg.Atom a) = used_in_atom a
used_in_argument (arg.Str text) = []
used_in_argument (arg.Entry name) = name ∷ []

abbrev pub used_in_call : CCall → List (List ℕ)
used_in_call c = called_in c.callee ++ flat_map used_in_argument c.args

abbrev pub used_in_expr : CExpr → List (List ℕ)
used_in_expr (expr.Atom a) = used_in_atom a
used_in_expr (expr.Call c) = used_in_call c

abbrev pub used_in : Code → List (List ℕ)
used_in done = []
used_in (assign x e rest) = x ∷ (used_in_expr e ++ used_in rest)
used_in (call c rest) = used_in_call c ++ used_in rest
used_in (return e rest) = used_in_expr e ++ used_in rest
used_in (test e a b rest) = used_in_expr e ++ (used_in a ++ (used_in b ++ used_in rest))
used_in (loop l body rest) = used_in body ++ used_in rest
used_in (ended body l rest) = used_in body ++ used_in rest
used_in (goto l rest) = used_in rest
used_in (catch k r body rest) = used_in body ++ used_in rest
used_in (protect a b rest) = used_in a ++ (used_in b ++ used_in rest)

abbrev pub used_by : Item → List (List ℕ)
used_by (defined f) = used_in f.code
used_by _ = []

-- what is used is defined, and each maker and each initialisation is called
abbrev pub wanted_breaches : List (List ℕ) → List (List ℕ) → List ℕ → List BadCause
wanted_breaches used names name =
    unless Undeclared (not (has used name) || has names name) ++ unless Shape (not (is_called_once name) || has used name)

abbrev pub ends_breaches : List (List ℕ) → List (List ℕ) → List Item → List Breach
ends_breaches used names items = flat_map (λ i. map (breach (name_of_item i)) (wanted_breaches used names (name_of_item i))) items

-- `main` is there
abbrev pub main_breaches : List (List ℕ) → List Breach
main_breaches names = map (breach (codes "main")) (unless Shape (list_any is_main names))

abbrev pub text_breaches : List Item → List Breach
text_breaches items =
    items_breaches (record { functions = []; globals = []; names = [] }) items
    ++ (ends_breaches (flat_map used_by items) (defined_names items) items ++ main_breaches (defined_names items))

-- all that break a rule, in text order; at one token and for one name in the order of the causes
unfoldable pub breaches : List Item → List Breach
breaches items = text_breaches items

-- no rule is broken
unfoldable pub IsChecked : List Item → Type 0
IsChecked items = breaches items ≡ []

-- the first rule that is broken
abbrev pub IsFirstBreach : List Item → Breach → Type 0
IsFirstBreach items b = slice_get (breaches items) 0 ≡ Some b
