-- The statements of a translated body are named, and their types fit.
use Rattle.std.proofs.Common.{rules, ◌≡◌, ℕ, zero, suc, List, [], ◌∷◌, ◌++◌, map, replicate, Bool, true, false, Option, Some, None, refl, sym, ap, ◌∙◌, subst, arith}
use Rattle.std.specs.Prelude.{IsTrue, pos, ◌&&◌}
use Rattle.std.proofs.lemmas.Bool.{and_from, eqb-true}
use Rattle.std.specs.List.{AllZip}
use Rattle.built_table.specs.declared.primitives.Ty.{Ty}
use Rattle.built_table.specs.declared.primitives.Ty.TheVariants as ty
use Rattle.built_table.specs.declared.primitives.Primitive.{Primitive as Builtin}
use Rattle.built_table.specs.Table.{params_of, result_of}
use Rattle.core_tree.specs.declared.tree.Const.{Const}
use Rattle.core_tree.specs.declared.tree.Const.TheVariants as const
use Rattle.core_tree.specs.declared.tree.VarId.{VarId}
use Rattle.core_tree.specs.declared.tree.GlobalRef.{GlobalRef}
use Rattle.core_tree.specs.Tree.{Tree, Constant, Variable, If, Sequence, Call, Primitive, Trees, none, more, count, Callee, callee_of}
use Rattle.c_tree.specs.declared.op.Op.{Op}
use Rattle.c_tree.specs.declared.op.Op.TheVariants.{BoxLong, BoxBool, UnboxLong, Truth}
use Rattle.c_tree.specs.declared.tree.CTy.{CTy}
use Rattle.c_tree.specs.declared.tree.CTy.TheVariants as c_ty
use Rattle.c_tree.specs.declared.tree.CArg.{CArg}
use Rattle.c_tree.specs.declared.tree.CArg.TheVariants as arg
use Rattle.c_tree.specs.declared.tree.CAtom.TheVariants as atom
use Rattle.c_tree.specs.declared.tree.CCall.{CCall}
use Rattle.c_tree.specs.declared.tree.CExpr.{CExpr}
use Rattle.c_tree.specs.declared.tree.CExpr.TheVariants as expr
use Rattle.c_tree.specs.declared.tree.CVar.{CVar}
use Rattle.c_tree.specs.Code.{Code, done, assign, call, return, test, loop, ended, goto, catch, protect}
use Rattle.c_tree.specs.Names.{is_variable_name, is_function_name}
use Rattle.c_tree.specs.Spelling.{NamedArguments, NamedCall, NamedExpr, NamedCode}
use Rattle.c_tree.specs.declared.op.Wants.{Wants}
use Rattle.c_tree.specs.declared.op.Wants.TheVariants.{AType}
use Rattle.c_tree.specs.Operations.{wants_of, gives_of, primitive_op}
use Rattle.c_meaning.specs.Plain.{Signature, signature_named, same_type, is_typed, variable_named, arguments_fit, call_fits_signature, is_built_op, call_type, is_the_type, has_type, expr_fits, assigned_fits, code_fits, returns_last}
use Rattle.plan_rules.specs.declared.rep.Rep.{Rep}
use Rattle.plan_rules.specs.declared.rep.Rep.TheVariants.{Obj, Long, Bool as Truth_rep}
use Rattle.plan_rules.specs.Representation.{Slot, PlainAt, slot_of, rep_of, c_type_of, has_of, constant_expr, condition, operation, raise_count, raise_type, call_of, local, step}
use Rattle.plan_rules.specs.Translation.{Name, IsLocal, Target, into, back, deliver, Statements, Coerced, Fits, AllFit, Applied, Branches, haves, objects, is_counted, c_name_of, TrConstant, TrVariable, TrVariableUnused, TrCounted, TrCall, Tr, TrUnused, TrAllUnused, TrLast, TrArguments}
use Rattle.code_gen.proofs.Variables.{own_type}
use Rattle.code_gen.specs.Settings.{Setting, scope_in, IsNode, AreNodes, TrIn, TrUnusedIn, TrAllUnusedIn, TrLastIn, TrArgumentsIn}

same_c_type : (t u : CTy) → same_type t u ≡ true → t ≡ u
same_c_type c_ty.Obj c_ty.Obj e = refl
same_c_type c_ty.Obj c_ty.Long e = absurd (cc)
same_c_type c_ty.Obj c_ty.Char e = absurd (cc)
same_c_type c_ty.Obj c_ty.Int e = absurd (cc)
same_c_type c_ty.Long c_ty.Obj e = absurd (cc)
same_c_type c_ty.Long c_ty.Long e = refl
same_c_type c_ty.Long c_ty.Char e = absurd (cc)
same_c_type c_ty.Long c_ty.Int e = absurd (cc)
same_c_type c_ty.Char c_ty.Obj e = absurd (cc)
same_c_type c_ty.Char c_ty.Long e = absurd (cc)
same_c_type c_ty.Char c_ty.Char e = refl
same_c_type c_ty.Char c_ty.Int e = absurd (cc)
same_c_type c_ty.Int c_ty.Obj e = absurd (cc)
same_c_type c_ty.Int c_ty.Long e = absurd (cc)
same_c_type c_ty.Int c_ty.Char e = absurd (cc)
same_c_type c_ty.Int c_ty.Int e = refl

-- Signatures --------------------------------------------------------------------------------

-- a function takes and gives words
abbrev pub signature : Callee → Signature
signature f = record { name = c_name_of f; result = c_ty.Obj; params = replicate f.params c_ty.Obj }

-- what the statements of a function rest on: their variables are locals, and the functions that they may call are declared
pub record Grounds (w : Setting) (sigs : List Signature) (vars : List CVar) : Type 0 where
  pub locals_named : (x : Name) (t : CTy) → IsLocal vars x t → IsTrue (is_variable_name x)
  pub scoped : (x : VarId) (r : Rep) (y : Name) → slot_of x (scope_in w) ≡ Some (PlainAt r y) → IsLocal vars y (c_type_of r)
  pub signed : (g : GlobalRef) (f : Callee) → callee_of w.in_module g ≡ Some f → signature_named sigs (c_name_of f) ≡ Some (signature f)
  pub called_named : (g : GlobalRef) (f : Callee) → callee_of w.in_module g ≡ Some f → IsTrue (is_function_name (c_name_of f))

abbrev wanted : Ty → Wants
wanted t = AType (c_type_of (rep_of t))

-- as many words are wanted as there are parameters
objects_want : (ns : Trees) (params : ℕ) → count ns ≡ params → map wanted (objects ns) ≡ map AType (replicate params c_ty.Obj)
objects_want none zero e = refl
objects_want none (suc k) e = absurd (omega arith)
objects_want (more n ns) zero e = absurd (omega arith)
objects_want (more n ns) (suc k) e = ap (λ ws. AType c_ty.Obj ∷ ws) (objects_want ns k (omega arith))

-- what ends with `return` does so behind another
returns_over : (e : CExpr) (rest : Code) → returns_last rest ≡ true → returns_last (return e rest) ≡ true
returns_over e done h = refl
returns_over e (assign x f rest) h = h
returns_over e (call c rest) h = h
returns_over e (return f rest) h = h
returns_over e (test f a b rest) h = h
returns_over e (loop l body rest) h = h
returns_over e (ended body l rest) h = h
returns_over e (goto l rest) h = h
returns_over e (catch k r body rest) h = h
returns_over e (protect a b rest) h = h

module _ (w : Setting) (sigs : List Signature) (vars : List CVar) (grounds : Grounds w sigs vars) where
  -- the types of statements fit and their names are right, and if they are to, they end with `return`
  pub record Fine (last : Bool) (code : Code) : Type 0 where
    pub fits : code_fits sigs vars c_ty.Obj code ≡ true
    pub named : NamedCode code
    pub ends : last ≡ true → returns_last code ≡ true

  pub fine_done : Fine false done
  fine_done = record { fits = refl; named = tt; ends = λ e. absurd (cc) }

  pub fine_end : Fine true (return (expr.Atom atom.Unspec) done)
  fine_end = record { fits = refl; named = (tt, tt); ends = λ e. refl }

  -- Expressions -----------------------------------------------------------------------------

  record FineExpr (e : CExpr) (t : CTy) : Type 0 where
    fits : expr_fits sigs vars e t ≡ true
    named : NamedExpr e

  abbrev whole : ℕ → CExpr
  whole n = expr.Atom (atom.Int (pos n))

  fine_local : (y : Name) (t : CTy) → IsLocal vars y t → FineExpr (expr.Atom (atom.Name y)) t
  fine_local y t h = record { fits = h; named = grounds.locals_named y t h }

  record FineArgs (ws : List Wants) (args : List CArg) : Type 0 where
    fits : arguments_fit vars ws args ≡ true
    named : NamedArguments args

  record FineCall (c : CCall) (t : CTy) : Type 0 where
    typed : call_type sigs vars c.callee c.args ≡ Some t
    named : NamedCall c

  fine_operation : (op : Op) (args : List CArg) → is_built_op op ≡ true → FineArgs (wants_of op) args → FineCall (operation op args) (gives_of op)
  fine_operation op args built h = record { typed = rw (built, h.fits) refl; named = (tt, h.named) }

  -- the signature is found, and the arguments fit it
  fine_function : (g : GlobalRef) (f : Callee) (args : List CArg) → callee_of w.in_module g ≡ Some f → FineArgs (map AType (replicate f.params c_ty.Obj)) args
      → FineCall (call_of (c_name_of f) args) c_ty.Obj
  fine_function g f args found h = record {
    typed = ap (λ s. call_fits_signature vars s args) (grounds.signed g f found) ∙ rw h.fits refl;
    named = (grounds.called_named g f found, h.named);
  }

  fine_raise : (want : ℕ) → FineCall (raise_count want) c_ty.Int
  fine_raise want = record { typed = refl; named = (tt, (refl, (tt, tt))) }

  fine_call : (c : CCall) (t : CTy) → FineCall c t → FineExpr (expr.Call c) t
  fine_call c t h = record { fits = ap (is_the_type t) h.typed ∙ own_type t; named = h.named }

  fine_refusal : (t : Ty) → FineCall (raise_type t) c_ty.Int
  fine_refusal t = record { typed = refl; named = (tt, (refl, (tt, tt))) }

  -- an operation on a local
  fine_on : (op : Op) (x : Name) (t : CTy) → is_built_op op ≡ true → wants_of op ≡ AType t ∷ [] → IsLocal vars x t → FineExpr (expr.Call (operation op (local x ∷ []))) (gives_of op)
  fine_on op x t built wants h =
      let fits : FineArgs (AType t ∷ []) (local x ∷ []) =
      record { fits = and_from (is_typed t (variable_named vars x)) true h refl; named = (grounds.locals_named x t h, tt) } in
      fine_call (operation op (local x ∷ [])) (gives_of op) (fine_operation op (local x ∷ []) built (subst (λ ws. FineArgs ws (local x ∷ [])) (sym wants) fits))

  fine_constant : (k : Const) (h : Rep) (e : CExpr) → IsNode w (Constant k) → constant_expr k h ≡ Some e → FineExpr e (c_type_of h)
  fine_constant (const.Int n) Obj e x is =
      let number : FineExpr (expr.Call (operation BoxLong (arg.Atom (atom.Int n) ∷ []))) c_ty.Obj = record { fits = rw x refl; named = (tt, (x, tt)) } in
      subst (λ f. FineExpr f c_ty.Obj) (cc) number
  fine_constant (const.Int n) Long e x is = let number : FineExpr (expr.Atom (atom.Int n)) c_ty.Long = record { fits = x; named = x } in subst (λ f. FineExpr f c_ty.Long) (cc) number
  fine_constant (const.Int n) Truth_rep e x is = absurd (cc)
  fine_constant (const.Bool true) Obj e x is = let word : FineExpr (expr.Atom atom.True) c_ty.Obj = record { fits = refl; named = tt } in subst (λ f. FineExpr f c_ty.Obj) (cc) word
  fine_constant (const.Bool false) Obj e x is = let word : FineExpr (expr.Atom atom.False) c_ty.Obj = record { fits = refl; named = tt } in subst (λ f. FineExpr f c_ty.Obj) (cc) word
  fine_constant (const.Bool b) Long e x is = absurd (cc)
  fine_constant (const.Bool true) Truth_rep e x is = let one : FineExpr (whole 1) c_ty.Int = record { fits = refl; named = refl } in subst (λ f. FineExpr f c_ty.Int) (cc) one
  fine_constant (const.Bool false) Truth_rep e x is = let zero : FineExpr (whole 0) c_ty.Int = record { fits = refl; named = refl } in subst (λ f. FineExpr f c_ty.Int) (cc) zero

  -- what a test's local chooses by
  fine_condition : (h : Rep) (y : Name) → IsLocal vars y (c_type_of h) → FineExpr (condition h y) c_ty.Int
  fine_condition Obj y l = fine_on Truth y c_ty.Obj refl refl l
  fine_condition Long y l = record { fits = refl; named = refl }
  fine_condition Truth_rep y l = fine_local y c_ty.Int l

  -- Statements ------------------------------------------------------------------------------

  assigned : (o : Option CVar) (t : CTy) (e : CExpr) → is_typed t o ≡ true → expr_fits sigs vars e t ≡ true → assigned_fits sigs vars e o ≡ true
  assigned None t e h f = absurd (cc h)
  assigned (Some v) t e h f = subst (λ u. expr_fits sigs vars e u ≡ true) (same_c_type t v.ty h) f

  fine_assign : {last : Bool} (x : Name) (t : CTy) (e : CExpr) (rest : Code) → IsLocal vars x t → FineExpr e t → Fine last rest → Fine last (assign x e rest)
  fine_assign x t e rest l h f = record {
    fits = and_from (assigned_fits sigs vars e (variable_named vars x)) (code_fits sigs vars c_ty.Obj rest) (assigned (variable_named vars x) t e l h.fits) f.fits;
    named = (grounds.locals_named x t l, h.named, f.named);
    ends = f.ends;
  }

  fine_return : {last : Bool} (e : CExpr) (rest : Code) → FineExpr e c_ty.Obj → Fine last rest → Fine last (return e rest)
  fine_return e rest h f = record {
    fits = and_from (expr_fits sigs vars e c_ty.Obj) (code_fits sigs vars c_ty.Obj rest) h.fits f.fits;
    named = (h.named, f.named);
    ends = λ last. returns_over e rest (f.ends last);
  }

  fine_statement : {last : Bool} (c : CCall) (t : CTy) (rest : Code) → FineCall c t → Fine last rest → Fine last (call c rest)
  fine_statement c t rest h f = record {
    fits = and_from (has_type (call_type sigs vars c.callee c.args)) (code_fits sigs vars c_ty.Obj rest) (ap has_type h.typed) f.fits;
    named = (h.named, f.named);
    ends = f.ends;
  }

  fine_test : {last : Bool} (e : CExpr) (a b rest : Code) → FineExpr e c_ty.Int → Fine false a → Fine false b → Fine last rest → Fine last (test e a b rest)
  fine_test e a b rest h f g k =
      let fits : Code → Bool = code_fits sigs vars c_ty.Obj in
      record {
        fits = and_from (expr_fits sigs vars e c_ty.Int) (fits a && (fits b && fits rest)) h.fits (and_from (fits a) (fits b && fits rest) f.fits (and_from (fits b) (fits rest) g.fits k.fits));
        named = (h.named, f.named, g.named, k.named);
        ends = k.ends;
      }

  -- the target takes a value in this representation
  abbrev TargetFits : Target → Rep → Type 0
  TargetFits (into x) h = IsLocal vars x (c_type_of h)
  TargetFits back h = h ≡ Obj

  fine_deliver : {last : Bool} (target : Target) (h : Rep) (e : CExpr) (rest : Code) → TargetFits target h → FineExpr e (c_type_of h) → Fine last rest → Fine last (deliver target e rest)
  fine_deliver (into x) h e rest l f g = fine_assign x (c_type_of h) e rest l f g
  fine_deliver back h e rest l f g = fine_return e rest (subst (λ k. FineExpr e (c_type_of k)) l f) g

  -- Arguments -------------------------------------------------------------------------------

  abbrev AreTyped : List Name → List Rep → Type 0
  AreTyped ys hs = AllZip (λ y h. IsLocal vars y (c_type_of h)) ys hs

  abbrev AreMade : List Name → List Ty → Type 0
  AreMade ys ts = AllZip (λ y t. IsLocal vars y (c_type_of (rep_of t))) ys ts

  made_one : (t : Ty) (h : Rep) (live : List Name) (y : Name) (code : Code) (made : Name) (rest : Code) → Fits vars t (step t h) live y code made rest → IsLocal vars y (c_type_of h)
      → IsLocal vars made (c_type_of (rep_of t))
  made_one ty.Obj Obj live y code made rest f l = subst (λ x. IsLocal vars x c_ty.Obj) (sym f.1) l
  made_one ty.Obj Long live y code made rest f l = f.is_local
  made_one ty.Obj Truth_rep live y code made rest f l = f.is_local
  made_one ty.Long Obj live y code made rest f l = f.is_local
  made_one ty.Long Long live y code made rest f l = subst (λ x. IsLocal vars x c_ty.Long) (sym f.1) l
  made_one ty.Long Truth_rep live y code made rest f l = f.is_local
  made_one ty.Bool Obj live y code made rest f l = absurd f
  made_one ty.Bool Long live y code made rest f l = f.is_local
  made_one ty.Bool Truth_rep live y code made rest f l = subst (λ x. IsLocal vars x c_ty.Int) (sym f.1) l

  -- an operation on the value goes to a local
  fine_made_by : {last : Bool} (o : Op) (t u : CTy) (y made : Name) (code rest : Code) → is_built_op o ≡ true → wants_of o ≡ AType t ∷ [] → gives_of o ≡ u → IsLocal vars y t → IsLocal vars made u
      → code ≡ assign made (expr.Call (operation o (local y ∷ []))) rest → Fine last rest → Fine last code
  fine_made_by o t u y made code rest built wants gives l m is g =
      let e = expr.Call (operation o (local y ∷ [])) in
      subst (Fine _) (sym is) (fine_assign made u e rest m (subst (FineExpr e) gives (fine_on o y t built wants l)) g)

  -- an error, and then the number 0
  fine_zero : {last : Bool} (t : Ty) (u : CTy) (made : Name) (code rest : Code) → FineExpr (whole 0) u → IsLocal vars made u → code ≡ call (raise_type t) (assign made (whole 0) rest) → Fine last rest → Fine last code
  fine_zero t u made code rest h m is g = subst (Fine _) (sym is) (fine_statement (raise_type t) c_ty.Int (assign made (whole 0) rest) (fine_refusal t) (fine_assign made u (whole 0) rest m h g))

  fine_one : {last : Bool} (t : Ty) (h : Rep) (live : List Name) (y : Name) (code : Code) (made : Name) (rest : Code) → Fits vars t (step t h) live y code made rest → IsLocal vars y (c_type_of h) → Fine last rest → Fine last code
  fine_one ty.Obj Obj live y code made rest f l g = subst (Fine _) (sym f.0) g
  fine_one ty.Obj Long live y code made rest f l g = fine_made_by BoxLong c_ty.Long c_ty.Obj y made code rest refl refl refl l f.is_local f.is g
  fine_one ty.Obj Truth_rep live y code made rest f l g = fine_made_by BoxBool c_ty.Int c_ty.Obj y made code rest refl refl refl l f.is_local f.is g
  fine_one ty.Long Obj live y code made rest f l g = fine_made_by UnboxLong c_ty.Obj c_ty.Long y made code rest refl refl refl l f.is_local f.is g
  fine_one ty.Long Long live y code made rest f l g = subst (Fine _) (sym f.0) g
  fine_one ty.Long Truth_rep live y code made rest f l g = fine_zero ty.Long c_ty.Long made code rest (record { fits = refl; named = refl }) f.is_local f.is g
  fine_one ty.Bool Obj live y code made rest f l g = absurd f
  fine_one ty.Bool Long live y code made rest f l g = fine_zero ty.Bool c_ty.Int made code rest (record { fits = refl; named = refl }) f.is_local f.is g
  fine_one ty.Bool Truth_rep live y code made rest f l g = subst (Fine _) (sym f.0) g

  made_all : (ts : List Ty) (hs : List Rep) (ys live : List Name) (code : Code) (made : List Name) (rest : Code) → AllFit vars ts hs ys live code made rest → AreTyped ys hs → AreMade made ts
  made_all [] [] [] live code made rest f l = subst (λ m. AreMade m []) (sym f.1) tt
  made_all (t ∷ ts) (h ∷ hs) (y ∷ ys) live code made rest f l =
      subst (λ m. AreMade m (t ∷ ts)) (sym f.are) (made_one t h live y code f.first f.middle f.fits l.0, made_all ts hs ys (f.first ∷ live) f.middle f.rest rest f.all l.1)
  made_all [] [] (y ∷ ys) live code made rest f l = absurd f
  made_all [] (h ∷ hs) [] live code made rest f l = absurd f
  made_all [] (h ∷ hs) (y ∷ ys) live code made rest f l = absurd f
  made_all (t ∷ ts) [] [] live code made rest f l = absurd f
  made_all (t ∷ ts) [] (y ∷ ys) live code made rest f l = absurd f
  made_all (t ∷ ts) (h ∷ hs) [] live code made rest f l = absurd f

  fine_all : {last : Bool} (ts : List Ty) (hs : List Rep) (ys live : List Name) (code : Code) (made : List Name) (rest : Code) → AllFit vars ts hs ys live code made rest → AreTyped ys hs → Fine last rest → Fine last code
  fine_all [] [] [] live code made rest f l g = subst (Fine _) (sym f.0) g
  fine_all (t ∷ ts) (h ∷ hs) (y ∷ ys) live code made rest f l g =
      fine_one t h live y code f.first f.middle f.fits l.0 (fine_all ts hs ys (f.first ∷ live) f.middle f.rest rest f.all l.1 g)
  fine_all [] [] (y ∷ ys) live code made rest f l g = absurd f
  fine_all [] (h ∷ hs) [] live code made rest f l g = absurd f
  fine_all [] (h ∷ hs) (y ∷ ys) live code made rest f l g = absurd f
  fine_all (t ∷ ts) [] [] live code made rest f l g = absurd f
  fine_all (t ∷ ts) [] (y ∷ ys) live code made rest f l g = absurd f
  fine_all (t ∷ ts) (h ∷ hs) [] live code made rest f l g = absurd f

  typed_arguments : (ts : List Ty) (ns : Trees) (live ys : List Name) (code rest : Code) → TrArgumentsIn w vars ts ns live ys code rest → AreTyped ys (haves (scope_in w) ts ns)
  unfolding TrArguments
  typed_arguments [] none live ys code rest a = subst (λ zs. AreTyped zs []) (sym a.0) tt
  typed_arguments (t ∷ ts) (more n ns) live ys code rest a =
      subst (λ zs. AreTyped zs (has_of (scope_in w) n (rep_of t) ∷ haves (scope_in w) ts ns)) (sym a.are) (a.is_local, typed_arguments ts ns (a.first ∷ live) a.rest a.middle rest a.all)
  typed_arguments [] (more n ns) live ys code rest a = absurd a
  typed_arguments (t ∷ ts) none live ys code rest a = absurd a

  made_fit : (ts : List Ty) (made : List Name) → AreMade made ts → arguments_fit vars (map wanted ts) (map local made) ≡ true
  made_fit [] [] h = refl
  made_fit (t ∷ ts) (y ∷ ys) h = and_from (is_typed (c_type_of (rep_of t)) (variable_named vars y)) (arguments_fit vars (map wanted ts) (map local ys)) h.0 (made_fit ts ys h.1)
  made_fit [] (y ∷ ys) h = absurd h
  made_fit (t ∷ ts) [] h = absurd h

  made_named : (ts : List Ty) (made : List Name) → AreMade made ts → NamedArguments (map local made)
  made_named [] [] h = tt
  made_named (t ∷ ts) (y ∷ ys) h = (grounds.locals_named y (c_type_of (rep_of t)) h.0, made_named ts ys h.1)
  made_named [] (y ∷ ys) h = absurd h
  made_named (t ∷ ts) [] h = absurd h

  wants-params : (p : Builtin) → wants_of (primitive_op p) ≡ map wanted (params_of p)
  wants-params p = search rules

  gives-result : (p : Builtin) → gives_of (primitive_op p) ≡ c_type_of (rep_of (result_of p))
  gives-result p = search rules

  built-primitive : (p : Builtin) → is_built_op (primitive_op p) ≡ true
  built-primitive p = search rules

  fine_made : (ts : List Ty) (made : List Name) → AreMade made ts → FineArgs (map wanted ts) (map local made)
  fine_made ts made h = record { fits = made_fit ts made h; named = made_named ts made h }

  -- arguments are evaluated and made to fit, and the end is right for such arguments
  fine_applied : {last : Bool} (ts : List Ty) (ns : Trees) (live : List Name) (finish : List CArg → Code) (code : Code)
      → ((ys : List Name) (code middle : Code) → TrArgumentsIn w vars ts ns live ys code middle → Fine last middle → Fine last code)
      → ((args : List CArg) → FineArgs (map wanted ts) args → Fine last (finish args))
      → Applied vars (λ ys code middle. TrArgumentsIn w vars ts ns live ys code middle) ts (haves (scope_in w) ts ns) live finish code → Fine last code
  fine_applied ts ns live finish code evaluated finished a =
      let hs = haves (scope_in w) ts ns in
      let l = typed_arguments ts ns live a.temporaries code a.middle a.values in
      let m = made_all ts hs a.temporaries (a.temporaries ++ live) a.middle a.made a.last a.fit l in
      let end = subst (Fine _) (sym a.is) (finished (map local a.made) (fine_made ts a.made m)) in
      evaluated a.temporaries code a.middle a.values (fine_all ts hs a.temporaries (a.temporaries ++ live) a.middle a.made a.last a.fit l end)

  -- Calls -----------------------------------------------------------------------------------

  fine_primitive : (p : Builtin) (args : List CArg) → FineArgs (map wanted (params_of p)) args → FineCall (operation (primitive_op p) args) (c_type_of (rep_of (result_of p)))
  fine_primitive p args h =
      let fits : FineArgs (wants_of (primitive_op p)) args = subst (λ ws. FineArgs ws args) (sym (wants-params p)) h in
      subst (FineCall (operation (primitive_op p) args)) (gives-result p) (fine_operation (primitive_op p) args (built-primitive p) fits)

  fine_counted : {last : Bool} (right : Bool) (g : GlobalRef) (f : Callee) (ns : Trees) (live : List Name) (finish : CCall → Code) (code rest : Code)
      → is_counted f ns ≡ right → callee_of w.in_module g ≡ Some f
      → ((ys : List Name) (code middle : Code) → TrArgumentsIn w vars (objects ns) ns live ys code middle → Fine last middle → Fine last code)
      → ((c : CCall) → FineCall c c_ty.Obj → Fine last (finish c)) → Fine last rest
      → TrCounted w.in_module (scope_in w) vars right f (λ ys code middle. TrArgumentsIn w vars (objects ns) ns live ys code middle) ns live finish code rest → Fine last code
  fine_counted true g f ns live finish code rest counted found evaluated finished end t =
      fine_applied (objects ns) ns live (λ args. finish (call_of (c_name_of f) args)) code evaluated
      (λ args h. finished (call_of (c_name_of f) args)
      (fine_function g f args found (subst (λ ws. FineArgs ws args) (objects_want ns f.params (eqb-true (count ns) f.params counted)) h)))
      t
  fine_counted false g f ns live finish code rest counted found evaluated finished end t =
      evaluated t.temporaries code t.middle t.values (subst (Fine _) (sym t.is) (fine_statement (raise_count f.params) c_ty.Int rest (fine_raise f.params) end))

  fine_called : {last : Bool} (o : Option Callee) (g : GlobalRef) (ns : Trees) (live : List Name) (finish : CCall → Code) (code rest : Code) → callee_of w.in_module g ≡ o
      → ((ys : List Name) (code middle : Code) → TrArgumentsIn w vars (objects ns) ns live ys code middle → Fine last middle → Fine last code)
      → ((c : CCall) → FineCall c c_ty.Obj → Fine last (finish c)) → Fine last rest
      → TrCall w.in_module (scope_in w) vars o (λ ys code middle. TrArgumentsIn w vars (objects ns) ns live ys code middle) ns live finish code rest → Fine last code
  fine_called None g ns live finish code rest found evaluated finished end t = absurd t
  fine_called (Some f) g ns live finish code rest found evaluated finished end t = fine_counted (is_counted f ns) g f ns live finish code rest refl found evaluated finished end t

  -- Nodes -----------------------------------------------------------------------------------

  fine_literal : {last : Bool} (o : Option CExpr) (k : Const) (h : Rep) (target : Target) (code rest : Code) → constant_expr k h ≡ o → IsNode w (Constant k)
      → TrConstant w.in_module (scope_in w) vars o target code rest → TargetFits target h → Fine last rest → Fine last code
  fine_literal None k h target code rest is x t l g = absurd t
  fine_literal (Some e) k h target code rest is x t l g = subst (Fine _) (sym t) (fine_deliver target h e rest l (fine_constant k h e x is) g)

  fine_variable : {last : Bool} (o : Option Slot) (x : VarId) (h : Rep) (target : Target) (code rest : Code) → slot_of x (scope_in w) ≡ o
      → TrVariable w.in_module (scope_in w) vars o h target code rest → TargetFits target h → Fine last rest → Fine last code
  fine_variable None x h target code rest found t l g = absurd t
  fine_variable (Some (PlainAt r y)) x h target code rest found t l g =
      let there : IsLocal vars y (c_type_of h) = subst (λ k. IsLocal vars y (c_type_of k)) (sym t.0) (grounds.scoped x r y found) in
      subst (Fine _) (sym t.1) (fine_deliver target h (expr.Atom (atom.Name y)) rest l (fine_local y (c_type_of h) there) g)

  fine_variable_unused : {last : Bool} (o : Option Slot) (code rest : Code) → TrVariableUnused w.in_module (scope_in w) vars o code rest → Fine last rest → Fine last code
  fine_variable_unused None code rest t g = absurd t
  fine_variable_unused (Some slot) code rest t g = subst (Fine _) (sym t) g

  -- a value's statements are right before a right rest
  abbrev AllFine : Bool → Statements → Rep → Type 0
  AllFine last given h = (target : Target) (code rest : Code) → given target code rest → TargetFits target h → Fine last rest → Fine last code

  fine_coerced : {last : Bool} (h : Rep) (given : Statements) (live : List Name) (target : Target) (code rest : Code) → AllFine last given h → TargetFits target Obj → Coerced vars h Obj given live target code rest → Fine last rest → Fine last code
  fine_coerced Obj given live target code rest each l c g = each target code rest c l g
  fine_coerced Long given live target code rest each l c g =
      each (into c.temporary) code c.middle c.value c.is_local
      (subst (Fine _) (sym c.box) (fine_deliver target Obj (expr.Call (operation BoxLong (local c.temporary ∷ []))) rest l (fine_on BoxLong c.temporary c_ty.Long refl refl c.is_local) g))
  fine_coerced Truth_rep given live target code rest each l c g =
      each (into c.temporary) code c.middle c.value c.is_local
      (subst (Fine _) (sym c.box) (fine_deliver target Obj (expr.Call (operation BoxBool (local c.temporary ∷ []))) rest l (fine_on BoxBool c.temporary c_ty.Int refl refl c.is_local) g))

  fine_branches : {last : Bool} (h : Rep) (given : Statements) (live : List Name) (one other : Code → Type 0) (code rest : Code) → AllFine last given h → ((code : Code) → one code → Fine false code) → ((code : Code) → other code → Fine false code)
      → Branches vars h given live one other code rest → Fine last rest → Fine last code
  fine_branches h given live one other code rest each first second t g =
      each (into t.temporary) code t.middle t.given t.is_local
      (subst (Fine _) (sym t.is)
      (fine_test (condition h t.temporary) t.first t.second rest (fine_condition h t.temporary t.is_local) (first t.first t.taken) (second t.second t.else_taken) g))

  mutual
    unfolding Tr TrArguments

    fine_tr : {last : Bool} (n : Tree) → IsNode w n → (h : Rep) (live : List Name) (target : Target) (code rest : Code) → TrIn w vars n h live target code rest → TargetFits target h → Fine last rest → Fine last code
    fine_tr (Constant k) x h live target code rest t l g = fine_literal (constant_expr k h) k h target code rest refl x t l g
    fine_tr (Variable v) x h live target code rest t l g = fine_variable (slot_of v (scope_in w)) v h target code rest refl t l g
    fine_tr (If a b c) x h live target code rest t l g =
        let word : TargetFits target Obj = subst (TargetFits target) t.0 l in
        fine_branches (has_of (scope_in w) a Truth_rep) (λ target code rest. TrIn w vars a (has_of (scope_in w) a Truth_rep) live target code rest) live
        (λ code. Coerced vars (has_of (scope_in w) b Obj) Obj (λ target code rest. TrIn w vars b (has_of (scope_in w) b Obj) live target code rest) live target code done)
        (λ code. Coerced vars (has_of (scope_in w) c Obj) Obj (λ target code rest. TrIn w vars c (has_of (scope_in w) c Obj) live target code rest) live target code done) code rest
        (λ target code rest t l f. fine_tr a x.0 (has_of (scope_in w) a Truth_rep) live target code rest t l f)
        (λ code t. fine_coerced (has_of (scope_in w) b Obj) (λ target code rest. TrIn w vars b (has_of (scope_in w) b Obj) live target code rest) live target code done
        (λ target code rest t l f. fine_tr b x.1 (has_of (scope_in w) b Obj) live target code rest t l f) word t fine_done)
        (λ code t. fine_coerced (has_of (scope_in w) c Obj) (λ target code rest. TrIn w vars c (has_of (scope_in w) c Obj) live target code rest) live target code done
        (λ target code rest t l f. fine_tr c x.2 (has_of (scope_in w) c Obj) live target code rest t l f) word t fine_done)
        t.1 g
    fine_tr (Sequence ts) x h live target code rest t l g = absurd x
    fine_tr (Call f ns) x h live target code rest t l g =
        fine_called (callee_of w.in_module f) f ns live (λ c. deliver target (expr.Call c) rest) code rest refl
        (λ ys code middle a f. fine_arguments ns x.1 (objects ns) live ys code middle a f)
        (λ c f. fine_deliver target Obj (expr.Call c) rest (subst (TargetFits target) t.0 l) (fine_call c c_ty.Obj f) g) g t.1
    fine_tr (Primitive p ns) x h live target code rest t l g =
        fine_applied (params_of p) ns live (λ args. deliver target (expr.Call (operation (primitive_op p) args)) rest) code
        (λ ys code middle a f. fine_arguments ns x.1 (params_of p) live ys code middle a f)
        (λ args f. fine_deliver target h (expr.Call (operation (primitive_op p) args)) rest l
        (subst (λ k. FineExpr (expr.Call (operation (primitive_op p) args)) (c_type_of k)) (sym t.0) (fine_call (operation (primitive_op p) args) (c_type_of (rep_of (result_of p))) (fine_primitive p args f))) g)
        t.1

    fine_arguments : {last : Bool} (ns : Trees) → AreNodes w ns → (ts : List Ty) (live ys : List Name) (code rest : Code) → TrArgumentsIn w vars ts ns live ys code rest → Fine last rest → Fine last code
    fine_arguments none x [] live ys code rest a g = subst (Fine _) (sym a.1) g
    fine_arguments none x (t ∷ ts) live ys code rest a g = absurd a
    fine_arguments (more n ns) x [] live ys code rest a g = absurd a
    fine_arguments (more n ns) x (t ∷ ts) live ys code rest a g =
        fine_tr n x.0 (has_of (scope_in w) n (rep_of t)) live (into a.first) code a.middle a.given a.is_local (fine_arguments ns x.1 ts (a.first ∷ live) a.rest a.middle rest a.all g)

  fine_unused : {last : Bool} (n : Tree) → IsNode w n → (live : List Name) (code rest : Code) → TrUnusedIn w vars n live code rest → Fine last rest → Fine last code
  unfolding TrUnused
  fine_unused (Constant c) x live code rest t g = subst (Fine _) (sym t) g
  fine_unused (Variable v) x live code rest t g = fine_variable_unused (slot_of v (scope_in w)) code rest t g
  fine_unused (If a b c) x live code rest t g =
      fine_branches (has_of (scope_in w) a Truth_rep) (λ target code rest. TrIn w vars a (has_of (scope_in w) a Truth_rep) live target code rest) live
      (λ code. TrUnusedIn w vars b live code done) (λ code. TrUnusedIn w vars c live code done) code rest
      (λ target code rest t l f. fine_tr a x.0 (has_of (scope_in w) a Truth_rep) live target code rest t l f)
      (λ code t. fine_unused b x.1 live code done t fine_done) (λ code t. fine_unused c x.2 live code done t fine_done) t g
  fine_unused (Sequence ts) x live code rest t g = absurd x
  fine_unused (Call f ns) x live code rest t g =
      fine_called (callee_of w.in_module f) f ns live (λ c. call c rest) code rest refl
      (λ ys code middle a f. fine_arguments ns x.1 (objects ns) live ys code middle a f) (λ c f. fine_statement c c_ty.Obj rest f g) g t
  fine_unused (Primitive p ns) x live code rest t g =
      fine_applied (params_of p) ns live (λ args. call (operation (primitive_op p) args) rest) code (λ ys code middle a f. fine_arguments ns x.1 (params_of p) live ys code middle a f)
      (λ args f. fine_statement (operation (primitive_op p) args) (c_type_of (rep_of (result_of p))) rest (fine_primitive p args f) g) t

  pub fine_last : {last : Bool} (ts : Trees) → AreNodes w ts → (live : List Name) (code rest : Code) → TrLastIn w vars ts Obj live back code rest → Fine last rest → Fine last code
  unfolding TrLast
  fine_last none x live code rest t g = absurd t
  fine_last (more n none) x live code rest t g =
      fine_coerced (has_of (scope_in w) n Obj) (λ target code rest. TrIn w vars n (has_of (scope_in w) n Obj) live target code rest) live back code rest
      (λ target code rest t l f. fine_tr n x.0 (has_of (scope_in w) n Obj) live target code rest t l f) refl t g
  fine_last (more n (more u us)) x live code rest t g = fine_unused n x.0 live code t.middle t.one (fine_last (more u us) x.1 live t.middle rest t.all g)

  pub fine_all_unused : {last : Bool} (ts : Trees) → AreNodes w ts → (live : List Name) (code rest : Code) → TrAllUnusedIn w vars ts live code rest → Fine last rest → Fine last code
  unfolding TrAllUnused
  fine_all_unused none x live code rest t g = subst (Fine _) (sym t) g
  fine_all_unused (more n ns) x live code rest t g = fine_unused n x.0 live code t.middle t.one (fine_all_unused ns x.1 live t.middle rest t.all g)
