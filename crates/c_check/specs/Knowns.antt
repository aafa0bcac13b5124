-- What is declared in front of an item, as the tables tell it.
use Rattle.std.specs.Prelude.{◌≡◌, ℕ, List, [], ◌++◌, not, Option, Some, None}
use Rattle.c_tree.specs.declared.tree.CTy.{CTy}
use Rattle.c_tree.specs.declared.tree.CVar.{CVar}
use Rattle.c_tree.specs.Code.{Fun}
use Rattle.c_meaning.specs.declared.breach.BadCause.{BadCause}
use Rattle.c_meaning.specs.declared.breach.BadCause.TheVariants.{Twice, Shape}
use Rattle.c_meaning.specs.Plain.{Signature, signature_named, role_of, variables_of, variable_named}
use Rattle.c_meaning.specs.Breaches.{unless, has, type_of, Scope, code_breaches, is_complete, room_of}
use Rattle.c_meaning.specs.Checked.{Known, result_breaches, params_breaches, params_before, locals_breaches, names_of_vars}
use Rattle.c_check.specs.Firsts.{first}
use Rattle.c_check.specs.declared.known.Known.{Known as Kept}
use Rattle.c_check.specs.declared.known.Made.{Made}
use Rattle.c_check.specs.declared.known.Made.TheVariants.{Good, Bad}

abbrev pub known_of : Kept → Known
known_of k = record { functions = k.functions; globals = k.globals; names = k.names }

abbrev pub gives_of : Option Signature → Option CTy
gives_of None = None
gives_of (Some s) = Some s.result

-- the scope of a body, where the head is among what is declared
abbrev pub body_in : Known → Fun → Scope
body_in k f = record {
  role = role_of f.name;
  result = f.result;
  functions = k.functions;
  globals = k.globals;
  variables = variables_of f;
  labels = [];
  called = [];
  blocks = [];
  room = room_of (role_of f.name);
}

-- in front of a body
abbrev pub head_breaches : Known → Fun → List BadCause
head_breaches k f =
    result_breaches (role_of f.name) (signature_named k.functions f.name) f.result
    ++ (unless Twice (not (has k.names f.name))
    ++ (params_breaches (role_of f.name) (params_before (signature_named k.functions f.name)) [] f.params
    ++ locals_breaches (names_of_vars f.params) f.locals))

-- in a body
abbrev pub body_breaches : Known → Fun → List BadCause
body_breaches k f = code_breaches (body_in k f) f.code ++ unless Shape (is_complete (role_of f.name) f.code)

-- the variables themselves, or the first breach
abbrev pub MakesVariables : List BadCause → List CVar → Made → Type 0
MakesVariables breaches vars (Good made) = (first breaches ≡ None) × (made ≡ vars)
MakesVariables breaches vars (Bad cause) = first breaches ≡ Some cause

-- the same is found in both
pub record SameKnown (a b : Known) : Type 0 where
  pub functions : (name : List ℕ) → signature_named a.functions name ≡ signature_named b.functions name
  pub globals : (x : List ℕ) → type_of (variable_named a.globals x) ≡ type_of (variable_named b.globals x)
  pub names : (name : List ℕ) → has a.names name ≡ has b.names name
