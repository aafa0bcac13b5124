-- The head of a module, `(module NAME clause ...)` (the Bigloo manual, "Modules"): what its clauses say in source order, the rules as the list of their breaches, and the head where there is none.
use Rattle.std.specs.Prelude.{ℕ, Bool, true, false, if◌then◌else◌, List, [], ◌∷◌, ◌++◌, codes, Option, Some, None}
use Rattle.std.specs.List.{list_any, filter_map}
use Rattle.scheme_data.specs.Names.{is_same}
use Rattle.scheme_data.specs.Forms.{Form, Forms, atom, symbol, listed, text, end, next, form_place, form_says}
use Rattle.scheme_data.specs.TypedNames.{Typed, typed}
use Rattle.scheme_data.specs.declared.datum.Place.{Place}
use Rattle.prim_table.specs.Table.{type_named}
use Rattle.prim_table.specs.declared.types.Ty.{Ty}
use Rattle.module_head.specs.declared.head.Head.{Head}
use Rattle.module_head.specs.declared.head.Import.{Import}
use Rattle.module_head.specs.declared.head.Entry.{Entry}
use Rattle.module_head.specs.declared.head.EntryKind.{EntryKind}
use Rattle.module_head.specs.declared.head.EntryKind.TheVariants.{Var, Fun, Inline}
use Rattle.module_head.specs.declared.head.Param.{Param}
use Rattle.module_head.specs.declared.head.Extern.{Extern}
use Rattle.module_head.specs.declared.head.MainClause.{MainClause}

-- Names and types -------------------------------------------------------------------------------

-- the name of a symbol, whatever its mark
abbrev pub symbol_of : Form → Option (List ℕ)
symbol_of (symbol at x m) = Some x
symbol_of _ = None

abbrev pub onto : {A : Type 0} → Option A → Option (List A) → Option (List A)
onto None xs = None
onto (Some x) None = None
onto (Some x) (Some xs) = Some (x ∷ xs)

-- a written type is one of the table
abbrev pub type_of : Option (List ℕ) → Option Ty
type_of None = None
type_of (Some word) = type_named word

abbrev pub typed_at : Place → Option Typed → Option Param
typed_at at None = None
typed_at at (Some t) = Some (record { at = at; name = t.name; ty = type_of t.ty })

-- a symbol `x` or `x::t`
abbrev pub binder : Form → Option Param
binder (symbol at x m) = typed_at at (typed x)
binder _ = None

abbrev pub binders : Forms → Option (List Param)
binders end = Some []
binders (next d ds) = onto (binder d) (binders ds)

-- Items -----------------------------------------------------------------------------------------

-- names of symbols
abbrev pub names_of : Forms → Option (List (List ℕ))
names_of end = Some []
names_of (next d ds) = onto (symbol_of d) (names_of ds)

abbrev pub last_of : List ℕ → List (List ℕ) → List ℕ
last_of x [] = x
last_of x (y ∷ ys) = last_of y ys

abbrev pub before_last : List ℕ → List (List ℕ) → List (List ℕ)
before_last x [] = []
before_last x (y ∷ ys) = x ∷ before_last y ys

-- the last of the names is the module, and at least one stands before it
abbrev pub import_of : Place → Option (List (List ℕ)) → Option Import
import_of at (Some (x ∷ y ∷ ys)) = Some (record { at = at; module_name = last_of y ys; names = Some (x ∷ before_last y ys) })
import_of at _ = None

-- a module, or `(name ... MODULE)`
abbrev pub import_item : Form → Option Import
import_item (symbol at x m) = Some (record { at = at; module_name = x; names = None })
import_item (listed at ds) = import_of at (names_of ds)
import_item _ = None

abbrev pub variable : Option Param → Option Entry
variable None = None
variable (Some x) = Some (record { at = x.at; kind = Var; name = x.name; ty = x.ty; params = [] })

abbrev pub prototype : Place → EntryKind → Option Param → Option (List Param) → Option Entry
prototype at kind None xs = None
prototype at kind (Some f) None = None
prototype at kind (Some f) (Some xs) = Some (record { at = at; kind = kind; name = f.name; ty = f.ty; params = xs })

-- `(inline)` is a prototype of a function of that name
abbrev pub inline_prototype : Place → Form → Forms → Option Entry
inline_prototype at word end = prototype at Fun (binder word) (Some [])
inline_prototype at word (next f xs) = prototype at Inline (binder f) (binders xs)

-- `x`, `(f x ...)` or `(inline f x ...)`
abbrev pub entry : Form → Option Entry
entry (symbol at x m) = variable (binder (symbol at x m))
entry (listed at (next f xs)) = if form_says f (codes "inline") then inline_prototype at f xs else prototype at Fun (binder f) (binders xs)
entry _ = None

abbrev pub types : Forms → Option (List Ty)
types end = Some []
types (next d ds) = onto (type_of (symbol_of d)) (types ds)

abbrev pub types_in : Form → Option (List Ty)
types_in (listed at ds) = types ds
types_in _ = None

-- the bytes of a string
abbrev pub string_of : Form → Option (List ℕ)
string_of (atom at (text s)) = Some s
string_of _ = None

abbrev pub extern_of : Place → Option Param → Option (List Ty) → Option (List ℕ) → Option Extern
extern_of at (Some f) (Some ts) (Some c) = Some (record { at = at; name = f.name; ty = f.ty; params = ts; c_name = c })
extern_of at _ _ _ = None

-- `(f::t (t ...) "c_name")`
abbrev pub extern_item : Form → Option Extern
extern_item (listed at (next f (next ts (next c end)))) = extern_of at (binder f) (types_in ts) (string_of c)
extern_item _ = None

-- What the clauses say --------------------------------------------------------------------------

pub data Part : Type 0 where
  imported : Import → Part
  exported : Entry → Part
  kept : Entry → Part
  foreign : Extern → Part
  main : MainClause → Part
  -- what stands there is no clause, or no item of its clause
  wrong : Place → Part

abbrev pub or_wrong : {A : Type 0} → Place → (A → Part) → Option A → Part
or_wrong at part None = wrong at
or_wrong at part (Some a) = part a

abbrev pub import_part : Form → Part
import_part d = or_wrong (form_place d) imported (import_item d)

abbrev pub export_part : Form → Part
export_part d = or_wrong (form_place d) exported (entry d)

abbrev pub static_part : Form → Part
static_part d = or_wrong (form_place d) kept (entry d)

abbrev pub extern_part : Form → Part
extern_part d = or_wrong (form_place d) foreign (extern_item d)

abbrev pub each : (Form → Part) → Forms → List Part
each f end = []
each f (next d ds) = f d ∷ each f ds

abbrev pub main_of : Place → Option (List ℕ) → Part
main_of at None = wrong at
main_of at (Some f) = main (record { at = at; name = f })

abbrev pub only_name : Forms → Option (List ℕ)
only_name (next f end) = symbol_of f
only_name _ = None

abbrev pub main_part : Place → Forms → Part
main_part at ds = main_of at (only_name ds)

-- the clause with this word
abbrev pub clause_of : Place → Form → Forms → List Part
clause_of at word ds =
    if form_says word (codes "import") then each import_part ds
    else (if form_says word (codes "export") then each export_part ds
    else (if form_says word (codes "static") then each static_part ds
    else (if form_says word (codes "extern") then each extern_part ds
    else (if form_says word (codes "main") then main_part at ds ∷ []
    else wrong at ∷ []))))

abbrev pub clause : Form → List Part
clause (listed at (next word ds)) = clause_of at word ds
clause d = wrong (form_place d) ∷ []

abbrev pub clauses : Forms → List Part
clauses end = []
clauses (next d ds) = clause d ++ clauses ds

-- The record ------------------------------------------------------------------------------------

abbrev pub import_in : Part → Option Import
import_in (imported i) = Some i
import_in _ = None

abbrev pub export_in : Part → Option Entry
export_in (exported e) = Some e
export_in _ = None

abbrev pub static_in : Part → Option Entry
static_in (kept e) = Some e
static_in _ = None

abbrev pub extern_in : Part → Option Extern
extern_in (foreign e) = Some e
extern_in _ = None

abbrev pub main_in : Part → Option MainClause
main_in (main m) = Some m
main_in _ = None

abbrev pub first_of : {A : Type 0} → List A → Option A
first_of [] = None
first_of (a ∷ rest) = Some a

abbrev pub main_clause : List Part → Option MainClause
main_clause ps = first_of (filter_map main_in ps)

abbrev pub head_with : List ℕ → List Part → Head
head_with name ps = record {
  name = name;
  imports = filter_map import_in ps;
  exports = filter_map export_in ps;
  statics = filter_map static_in ps;
  externs = filter_map extern_in ps;
  main = main_clause ps;
}

-- The rules -------------------------------------------------------------------------------------

pub data Breach : Type 0 where
  header : Place → Breach
  duplicate : List ℕ → Breach

-- the name that is declared
abbrev pub name_in : Part → Option (List ℕ)
name_in (exported e) = Some e.name
name_in (kept e) = Some e.name
name_in (foreign e) = Some e.name
name_in _ = None

abbrev pub has_main : Option MainClause → Bool
has_main None = false
has_main (Some m) = true

abbrev pub breach_if : Bool → Breach → List Breach
breach_if true b = b ∷ []
breach_if false b = []

abbrev pub declared_once : List Part → List ℕ → List Breach
declared_once before x = breach_if (list_any (is_same x) (filter_map name_in before)) (duplicate x)

-- A module doesn't import itself, has one main function at most, and declares a name once, whatever the clause.
abbrev pub breaches_at : List ℕ → List Part → Part → List Breach
breaches_at name before (imported i) = breach_if (is_same i.module_name name) (header i.at)
breaches_at name before (exported e) = declared_once before e.name
breaches_at name before (kept e) = declared_once before e.name
breaches_at name before (foreign e) = declared_once before e.name
breaches_at name before (main m) = breach_if (has_main (main_clause before)) (header m.at)
breaches_at name before (wrong at) = header at ∷ []

-- in source order, with what the module says before
abbrev pub breaches : List ℕ → List Part → List Part → List Breach
breaches name before [] = []
breaches name before (p ∷ ps) = breaches_at name before p ++ breaches name (before ++ p ∷ []) ps

-- The whole -------------------------------------------------------------------------------------

pub data Outcome : Type 0 where
  right : Head → Outcome
  wrong_at_first : Breach → Outcome

-- the first breach decides
abbrev pub decided : List Breach → Head → Outcome
decided [] h = right h
decided (b ∷ bs) h = wrong_at_first b

abbrev pub head_of_parts : List ℕ → List Part → Outcome
head_of_parts name ps = decided (breaches name [] ps) (head_with name ps)

abbrev pub module_form : Place → Form → Option (List ℕ) → Forms → Outcome
module_form at word None ds = wrong_at_first (header at)
module_form at word (Some name) ds = if form_says word (codes "module") then head_of_parts name (clauses ds) else wrong_at_first (header at)

-- the place where a text begins
abbrev pub text_start : Place
text_start = record { line = 1; column = 1 }

-- the head that a datum says
abbrev pub module_of : Form → Outcome
module_of (listed at (next word (next name ds))) = module_form at word (symbol_of name) ds
module_of d = wrong_at_first (header (form_place d))

-- the head of the source with this first datum
abbrev pub head_of : Option Form → Outcome
head_of None = wrong_at_first (header text_start)
head_of (Some d) = module_of d
