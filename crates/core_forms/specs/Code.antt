-- What the types of the code stand for.
use Rattle.std.specs.Prelude.{◌≡◌, ℕ, Bool, true, false, if◌then◌else◌, ◌&&◌, nat_eq, nat_lt, ◌-◌, List, [], ◌∷◌, ◌++◌, map, codes, Option, Some, None, Result, Ok, Err}
use Rattle.scheme_data.specs.declared.datum.Datum.{Datum}
use Rattle.scheme_data.specs.Forms.{Form, Forms, atom, symbol, listed, dotted, vector, end, next, form, forms}
use Rattle.core_forms.specs.Scope.{clauses_word}
use Rattle.core_forms.specs.declared.core_form.CoreExpr.{CoreExpr}
use Rattle.core_forms.specs.declared.binders.Types.{Types}
use Rattle.core_forms.specs.declared.binders.Types.TheVariants as types
use Rattle.core_forms.specs.declared.error.ExpandErr.{ExpandErr}
use Rattle.core_forms.specs.declared.error.ExpandErr.TheVariants as fault
use Rattle.core_forms.specs.declared.words.Keyword.{Keyword}
use Rattle.core_forms.specs.declared.words.Keyword.TheVariants as key

-- data as forms
abbrev pub data_of : List Datum → Forms
data_of ds = forms (map form ds)

-- want of memory is free
abbrev pub IsMemory : ExpandErr → Type 0
IsMemory fault.Memory = Unit {0}
IsMemory _ = ⊥

abbrev pub OkOrMemory : {A : Type 0} → Result A ExpandErr → (A → Type 0) → Type 0
OkOrMemory (Ok a) P = P a
OkOrMemory (Err e) P = IsMemory e

-- an error that isn't want of memory has to be one of these
abbrev pub Refusing : (ExpandErr → Type 0) → ExpandErr → Type 0
Refusing P fault.Memory = Unit {0}
Refusing P e = P e

abbrev pub may_have_types : Types → Bool
may_have_types types.Allowed = true
may_have_types types.Refused = false

abbrev pub spelling : Keyword → List ℕ
spelling key.Quote = codes "quote"
spelling key.Lambda = codes "lambda"
spelling key.If = codes "if"
spelling key.Set = codes "set!"
spelling key.Begin = codes "begin"
spelling key.Let = codes "let"
spelling key.Letrec = codes "letrec"
spelling key.BindExit = codes "bind-exit"
spelling key.UnwindProtect = codes "unwind-protect"
spelling key.LetStar = codes "let*"
spelling key.Cond = codes "cond"
spelling key.Case = codes "case"
spelling key.Clauses = clauses_word
spelling key.And = codes "and"
spelling key.Or = codes "or"
spelling key.When = codes "when"
spelling key.Unless = codes "unless"
spelling key.Do = codes "do"
spelling key.Define = codes "define"
spelling key.DefineInline = codes "define-inline"
spelling key.DefineSyntax = codes "define-syntax"

-- what is left of a number once the data are taken away one by one, where there are as many
abbrev pub one_less : Option ℕ → Option ℕ
one_less None = None
one_less (Some n) = if nat_eq n 0 then None else Some (n - 1)

abbrev mutual
  pub left_in : Option ℕ → Form → Option ℕ
  left_in o (atom at a) = one_less o
  left_in o (symbol at x m) = one_less o
  left_in o (listed at ds) = left_all (one_less o) ds
  left_in o (dotted at ds d) = left_in (left_all (one_less o) ds) d
  left_in o (vector at ds) = left_all (one_less o) ds

  pub left_all : Option ℕ → Forms → Option ℕ
  left_all o end = o
  left_all o (next d ds) = left_all (left_in o d) ds

abbrev pub items_in : Form → Option Forms
items_in (listed at ds) = Some ds
items_in d = None

-- whether lists nest at most so deep, part by part
abbrev mutual
  pub nests_in : ℕ → Form → Bool
  nests_in room (atom at a) = true
  nests_in room (symbol at x m) = true
  nests_in room (listed at ds) = nat_lt 0 room && all_nest_in (room - 1) ds
  nests_in room (dotted at ds d) = nat_lt 0 room && (all_nest_in (room - 1) ds && nests_in (room - 1) d)
  nests_in room (vector at ds) = nat_lt 0 room && all_nest_in (room - 1) ds

  pub all_nest_in : ℕ → Forms → Bool
  all_nest_in room end = true
  all_nest_in room (next d ds) = nests_in room d && all_nest_in room ds

abbrev pub LastOf : List CoreExpr → Result CoreExpr ExpandErr → List CoreExpr → Type 0
LastOf old (Ok c) new = old ≡ new ++ c ∷ []
LastOf old (Err e) new = IsMemory e

abbrev pub FirstOf : List CoreExpr → Result CoreExpr ExpandErr → List CoreExpr → Type 0
FirstOf old (Ok c) new = old ≡ c ∷ new
FirstOf old (Err e) new = IsMemory e
