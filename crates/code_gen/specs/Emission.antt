-- What the emitter adds: for any rest after it, code in front of the rest that is related to what was asked for.
use Rattle.std.specs.Prelude.{◌≡◌, ℕ, suc, ◌<◌, ◌≤◌, ◌^◌, List, [], ◌∷◌, ◌++◌, map, replicate, IsTrue, true, false, length, Option, Some, None}
use Rattle.std.specs.List.{list_all}
use Rattle.built_table.specs.declared.primitives.Ty.{Ty}
use Rattle.built_table.specs.declared.primitives.Ty.TheVariants as ty
use Rattle.built_table.specs.declared.primitives.Primitive.{Primitive as Builtin}
use Rattle.built_table.specs.Table.{params_of, is_parameter_type}
use Rattle.core_tree.specs.declared.tree.VarId.{VarId}
use Rattle.core_tree.specs.declared.tree.GlobalRef.{GlobalRef}
use Rattle.core_tree.specs.Tree.{Tree, Trees, FunctionTree, ModuleTree, Callee, own_callee, callee_of}
use Rattle.c_tree.specs.Operations.{primitive_op}
use Rattle.c_tree.specs.declared.tree.CTy.TheVariants as c_ty
use Rattle.c_tree.specs.declared.tree.CAtom.TheVariants.{Unspec}
use Rattle.c_tree.specs.declared.tree.CArg.{CArg}
use Rattle.c_tree.specs.declared.tree.CCall.{CCall}
use Rattle.c_tree.specs.declared.tree.CExpr.{CExpr}
use Rattle.c_tree.specs.declared.tree.CExpr.TheVariants as expr
use Rattle.c_tree.specs.declared.tree.CVar.{CVar}
use Rattle.c_tree.specs.declared.pieces.Piece.{Piece}
use Rattle.c_tree.specs.declared.pieces.Piece.TheVariants as piece
use Rattle.c_tree.specs.Code.{Code, done, assign, return, loop, Fun, Item, declared, defined}
use Rattle.c_tree.specs.Names.{local_name, label_name, function_name}
use Rattle.c_tree.specs.Pieces.{pieces}
use Rattle.plan_rules.specs.declared.rep.Rep.{Rep}
use Rattle.plan_rules.specs.declared.rep.Rep.TheVariants.{Obj, Bool as Truth_rep}
use Rattle.plan_rules.specs.Representation.{c_type_of, has_of, operation, call_of, local, condition, Step, Keep, Make, Refuse, step}
use Rattle.plan_rules.specs.Translation.{Name, Fresh, IsLocal, Target, Coerced, Fits, Refused, AllFit, Miscounted, haves, objects, is_counted, c_name_of, callees, into, back, deliver, TrAllUnused, TrForms}
use Rattle.code_gen.specs.Scopes.{words}
use Rattle.code_gen.specs.Settings.{Setting, scope_in, TrIn, TrUnusedIn, TrAllUnusedIn, TrArgumentsIn}
use Rattle.code_gen.specs.declared.coercions.Coercion.{Coercion}
use Rattle.code_gen.specs.declared.coercions.Coercion.TheVariants as coercion
use Rattle.code_gen.specs.declared.emitter.Emitter.{Emitter}
use Rattle.code_gen.specs.declared.emitter.Held.{Held}
use Rattle.code_gen.specs.declared.emitter.Target.{Target as NumberedTarget}
use Rattle.code_gen.specs.declared.emitter.Target.TheVariants.{Into, Back}
use Rattle.code_gen.specs.declared.wanted.Wanted.{Wanted}
use Rattle.code_gen.specs.declared.wanted.Wanted.TheVariants.{Words, Of}

abbrev pub step_of : Coercion → Step
step_of coercion.Keep = Keep
step_of (coercion.Make op) = Make op
step_of coercion.Refuse = Refuse

-- the types that a call wants of its arguments
abbrev pub types_of : Wanted → List Ty
types_of (Words n) = replicate n ty.Obj
types_of (Of p) = params_of p

-- types that parameters have
abbrev pub AreParameters : List Ty → Type 0
AreParameters types = IsTrue (list_all is_parameter_type types)

abbrev pub target_of : NumberedTarget → Target
target_of (Into x) = into (local_name x)
target_of Back = back

-- the statement by which a value goes to a target
abbrev pub piece_to : NumberedTarget → CExpr → Piece
piece_to (Into x) e = piece.Assign (local_name x) e
piece_to Back e = piece.Return e

-- Names -------------------------------------------------------------------------------------

-- names of locals below a number
unfoldable pub AreBelow : ℕ → List Name → Type 0
AreBelow n [] = Unit {0}
AreBelow n (x ∷ xs) = ((k : ℕ) × (k < n) × (x ≡ local_name k)) × AreBelow n xs

-- variables named in order, from the first number to before the second
unfoldable pub AreCounted : List CVar → ℕ → ℕ → Type 0
AreCounted [] n m = n ≡ m
AreCounted (v ∷ vs) n m = (v.name ≡ local_name n) × AreCounted vs (suc n) m

-- some of a function's variables
unfoldable pub AreLocals : List CVar → List CVar → Type 0
AreLocals vars [] = Unit {0}
AreLocals vars (v ∷ vs) = IsLocal vars v.name v.ty × AreLocals vars vs

abbrev pub held_names : List Held → List Name
held_names held = map (λ h. local_name h.local) held

-- Steps -------------------------------------------------------------------------------------

pub record IsFresh (s : Emitter) (next : ℕ) : Type 0 where
  pub pieces_are : s.pieces ≡ []
  pub locals : s.locals ≡ []
  pub next_is : s.next ≡ next

pub record AddsLocal (s t : Emitter) (h : Rep) (x : ℕ) : Type 0 where
  pub pieces_are : t.pieces ≡ s.pieces
  pub locals : t.locals ≡ s.locals ++ record { ty = c_type_of h; name = local_name x } ∷ []
  pub number : x ≡ s.next
  pub next_is : t.next ≡ suc x
  pub small : x < 2 ^ 32

pub record Puts (s t : Emitter) (one : Piece) : Type 0 where
  pub pieces_are : t.pieces ≡ s.pieces ++ one ∷ []
  pub locals : t.locals ≡ s.locals
  pub next_is : t.next ≡ s.next

-- locals are added, in order
pub record Grows (s t : Emitter) : Type 0 where
  pub later : s.next ≤ t.next
  pub small : s.next ≤ 2 ^ 32 → t.next ≤ 2 ^ 32
  pub counted : (first : ℕ) → AreCounted s.locals first s.next → AreCounted t.locals first t.next
  pub kept : (vars : List CVar) → AreLocals vars t.locals → AreLocals vars s.locals

-- code in front of a rest, which the pieces added since then are
pub record Written (before after : List Piece) (means : Code → Type 0) (rest : Code) : Type 0 where
  pub code : Code
  pub is : (out : List Piece) → before ++ pieces code out ≡ after ++ pieces rest out
  pub meant : means code

-- from one state to another, code that is related to what follows it
pub record Emits (s t : Emitter) (means : List CVar → Code → Code → Type 0) : Type 0 where
  pub grows : Grows s t
  pub code : (vars : List CVar) → AreLocals vars t.locals → (rest : Code) → Written s.pieces t.pieces (λ code. means vars code rest) rest

-- a value that is put into a new local
pub record Stores (s t : Emitter) (h : Rep) (e : CExpr) (held : Held) : Type 0 where
  pub rep : held.rep ≡ h
  pub number : held.local ≡ s.next
  pub small : held.local < 2 ^ 32
  pub next_is : t.next ≡ suc held.local
  pub emits : Emits s t (λ vars code rest. (code ≡ assign (local_name held.local) e rest) × IsLocal vars (local_name held.local) (c_type_of h))

-- a new local into which no value is put
pub record LeavesUnset (s t : Emitter) (h : Rep) (held : Held) : Type 0 where
  pub rep : held.rep ≡ h
  pub number : held.local ≡ s.next
  pub small : held.local < 2 ^ 32
  pub next_is : t.next ≡ suc held.local
  pub emits : Emits s t (λ vars code rest. (code ≡ rest) × IsLocal vars (local_name held.local) (c_type_of h))

-- Nodes -------------------------------------------------------------------------------------

-- a node's value in the local of a number
pub record Gives (w : Setting) (t : Tree) (h : Rep) (next x : ℕ) (vars : List CVar) (code rest : Code) : Type 0 where
  pub is_local : IsLocal vars (local_name x) (c_type_of h)
  pub fresh : (live : List Name) → AreBelow next live → Fresh (local_name x) live
  pub given : (live : List Name) → AreBelow next live → TrIn w vars t h live (into (local_name x)) code rest

pub record IsValue (w : Setting) (s t : Emitter) (n : Tree) (wanted : Rep) (held : Held) : Type 0 where
  pub rep : held.rep ≡ has_of (scope_in w) n wanted
  pub below : held.local < t.next
  pub emits : Emits s t (λ vars code rest. Gives w n (has_of (scope_in w) n wanted) s.next held.local vars code rest)

-- what a test's value is made, to choose by
pub record IsTested (w : Setting) (s t : Emitter) (n : Tree) (e : CExpr) : Type 0 where
  pub number : ℕ
  pub is : e ≡ condition (has_of (scope_in w) n Truth_rep) (local_name number)
  pub emits : Emits s t (λ vars code rest. Gives w n (has_of (scope_in w) n Truth_rep) s.next number vars code rest)

pub record AreArguments (w : Setting) (s t : Emitter) (types : List Ty) (ns : Trees) (held : List Held) : Type 0 where
  pub below : AreBelow t.next (held_names held)
  pub reps : haves (scope_in w) types ns ≡ map (λ h. h.rep) held
  pub emits : Emits s t (λ vars code rest. (live : List Name) → AreBelow s.next live → TrArgumentsIn w vars types ns live (held_names held) code rest)

-- the error of a type is raised
pub record IsRefused (s t : Emitter) (type : Ty) (made : ℕ) : Type 0 where
  pub below : made < t.next
  pub emits : Emits s t (λ vars code rest. (live : List Name) → AreBelow s.next live → Refused vars type live code (local_name made) rest)

pub record IsFitted (s t : Emitter) (type : Ty) (held : Held) (made : ℕ) : Type 0 where
  pub below : AreBelow t.next (local_name made ∷ [])
  pub emits : Emits s t (λ vars code rest. (live : List Name) → AreBelow s.next live → Fits vars type (step type held.rep) live (local_name held.local) code (local_name made) rest)

pub record AreFitted (s t : Emitter) (types : List Ty) (held : List Held) (made : List ℕ) : Type 0 where
  pub emits : Emits s t (λ vars code rest. (live : List Name) → AreBelow s.next live → AllFit vars types (map (λ h. h.rep) held) (held_names held) live code (map local_name made) rest)

-- arguments that are ready for a call
pub record AreReady (w : Setting) (types : List Ty) (ns : Trees) (live : List Name) (args : List CArg) (vars : List CVar) (code last : Code) : Type 0 where
  pub temporaries : List Name
  pub made : List Name
  pub middle : Code
  pub values : TrArgumentsIn w vars types ns live temporaries code middle
  pub fit : AllFit vars types (haves (scope_in w) types ns) temporaries (temporaries ++ live) middle made last
  pub args_are : args ≡ map local made

pub record IsReady (w : Setting) (s t : Emitter) (types : List Ty) (ns : Trees) (args : List CArg) : Type 0 where
  pub emits : Emits s t (λ vars code rest. (live : List Name) → AreBelow s.next live → AreReady w types ns live args vars code rest)

pub record IsPrimitiveCall (w : Setting) (s t : Emitter) (p : Builtin) (ns : Trees) (call : CCall) : Type 0 where
  pub args : List CArg
  pub is : call ≡ operation (primitive_op p) args
  pub ready : IsReady w s t (params_of p) ns args

pub record IsCounted (w : Setting) (s t : Emitter) (f : Callee) (ns : Trees) (call : CCall) : Type 0 where
  pub args : List CArg
  pub counted : is_counted f ns ≡ true
  pub is : call ≡ call_of (c_name_of f) args
  pub ready : IsReady w s t (objects ns) ns args

pub record IsMiscounted (w : Setting) (s t : Emitter) (f : Callee) (ns : Trees) : Type 0 where
  pub counted : is_counted f ns ≡ false
  pub emits : Emits s t (λ vars code rest. (live : List Name) → AreBelow s.next live
      → Miscounted vars (λ temporaries code middle. TrArgumentsIn w vars (objects ns) ns live temporaries code middle) f.params code rest)

-- a call, or the raising of an error in its place
abbrev pub IsCallOf : Setting → Emitter → Emitter → Callee → Trees → Option CCall → Type 0
IsCallOf w s t f ns None = IsMiscounted w s t f ns
IsCallOf w s t f ns (Some call) = IsCounted w s t f ns call

pub record IsFunctionCall (w : Setting) (s t : Emitter) (g : GlobalRef) (ns : Trees) (call : Option CCall) : Type 0 where
  pub callee : Callee
  pub found : callee_of w.in_module g ≡ Some callee
  pub written : IsCallOf w s t callee ns call

pub record IsUnused (w : Setting) (s t : Emitter) (n : Tree) : Type 0 where
  pub emits : Emits s t (λ vars code rest. (live : List Name) → AreBelow s.next live → TrUnusedIn w vars n live code rest)

pub record AreUnused (w : Setting) (s t : Emitter) (ns : Trees) : Type 0 where
  pub emits : Emits s t (λ vars code rest. (live : List Name) → AreBelow s.next live → TrAllUnusedIn w vars ns live code rest)

-- a node's value goes to a target, as a word
abbrev pub Delivered : Setting → Tree → List Name → List CVar → Target → Code → Code → Type 0
Delivered w n live vars target code rest = Coerced vars (has_of (scope_in w) n Obj) Obj (λ target code rest. TrIn w vars n (has_of (scope_in w) n Obj) live target code rest) live target code rest

pub record IsDelivered (w : Setting) (s t : Emitter) (n : Tree) (to : NumberedTarget) : Type 0 where
  pub emits : Emits s t (λ vars code rest. (live : List Name) → AreBelow s.next live → Delivered w n live vars (target_of to) code rest)

-- what a call gives goes to a target, as a word
pub record GivesWord (s t : Emitter) (h : Rep) (c : CCall) (to : NumberedTarget) : Type 0 where
  pub emits : Emits s t (λ vars code rest. (live : List Name) → AreBelow s.next live → Coerced vars h Obj (λ target code rest. code ≡ deliver target (expr.Call c) rest) live (target_of to) code rest)

pub record IsBodyOf (w : Setting) (s t : Emitter) (n : Tree) : Type 0 where
  pub emits : Emits s t (λ vars code rest. (live : List Name) → AreBelow s.next live → TrIn w vars n Obj live back code rest)

-- Functions ---------------------------------------------------------------------------------

-- what an initialisation gives
abbrev pub unspecified : CExpr
unspecified = expr.Atom Unspec

abbrev pub word_names : List VarId → List Name
word_names params = map (λ v. v.name) (words 0 params)

-- the parameters, and then the locals that were added
abbrev pub variables_with : List VarId → List CVar → List CVar
variables_with params locals = words 0 params ++ locals

-- all of a function's statements are there
pub record IsLooped (w : Setting) (n : Tree) (s : Emitter) : Type 0 where
  pub small : s.next ≤ 2 ^ 32
  pub counted : AreCounted s.locals (length w.params) s.next
  pub code : Code
  pub is : s.pieces ≡ pieces (loop (label_name 0) code done) []
  pub translated : TrIn w (variables_with w.params s.locals) n Obj (word_names w.params) back code done

-- all statements of an initialisation are there
pub record IsStraight (m : ModuleTree) (s : Emitter) : Type 0 where
  pub small : s.next ≤ 2 ^ 32
  pub counted : AreCounted s.locals 0 s.next
  pub code : Code
  pub is : s.pieces ≡ pieces code []
  pub translated : TrAllUnused m [] s.locals m.forms [] code (return unspecified done)

-- the pieces of some code
pub record ArePieces (ps : List Piece) : Type 0 where
  pub code : Code
  pub are : ps ≡ pieces code []

abbrev pub setting_of : ModuleTree → FunctionTree → Setting
setting_of m f = record { in_module = m; params = f.params }

pub record IsFunctionOf (m : ModuleTree) (f : FunctionTree) (g : Fun) : Type 0 where
  pub name_is : g.name ≡ function_name m.name f.name
  pub result : g.result ≡ c_ty.Obj
  pub params : g.params ≡ words 0 f.params
  pub last : ℕ
  pub small : last ≤ 2 ^ 32
  pub counted : AreCounted g.locals (length f.params) last
  pub code : Code
  pub looped : g.code ≡ loop (label_name 0) code done
  pub translated : TrIn (setting_of m f) (variables_with f.params g.locals) f.body Obj (word_names f.params) back code done

-- an initialisation, whose locals are numbered in order
pub record IsInitialization (m : ModuleTree) (g : Fun) : Type 0 where
  pub forms : TrForms m g
  pub last : ℕ
  pub small : last ≤ 2 ^ 32
  pub counted : AreCounted g.locals 0 last

-- Units -------------------------------------------------------------------------------------

-- a function that is called takes and gives words
abbrev pub declaration : Callee → Item
declaration f = declared c_ty.Obj (c_name_of f) (replicate f.params c_ty.Obj)

abbrev pub own_callees : ModuleTree → List Callee
own_callees m = map (own_callee m.name) m.functions

abbrev pub declarations_of : ModuleTree → List Item
declarations_of m = map declaration (callees m)

abbrev pub AreFunctionsOf : ModuleTree → List FunctionTree → List Fun → Type 0
AreFunctionsOf m [] [] = Unit {0}
AreFunctionsOf m (f ∷ fs) (g ∷ gs) = IsFunctionOf m f g × AreFunctionsOf m fs gs
AreFunctionsOf m [] (g ∷ gs) = ⊥
AreFunctionsOf m (f ∷ fs) [] = ⊥

pub record AddsFunctions (m : ModuleTree) (fs : List FunctionTree) (before after : List Item) : Type 0 where
  pub added : List Fun
  pub is : after ≡ before ++ map defined added
  pub are : AreFunctionsOf m fs added
