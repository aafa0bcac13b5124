-- Statements without a loop break no rule exactly where their types agree and each call may stand.
use Rattle.std.proofs.Common.{◌≡◌, ℕ, Bool, true, false, ◌&&◌, List, [], ◌∷◌, ◌++◌, Option, Some, None, refl, sym, ap, ◌∙◌, append_assoc}
use Rattle.std.specs.Prelude.{map, is_some, if◌then◌else◌}
use Rattle.std.specs.List.{list_all}
use Rattle.std.proofs.lemmas.Bool.{and_parts}
use Rattle.std.proofs.lemmas.List.{append-nil}
use Rattle.prim_table.specs.declared.types.Ty.{Ty}
use Rattle.prim_table.specs.Table.{row_of}
use Rattle.c_tree.specs.declared.op.Op.{Op}
use Rattle.c_tree.specs.declared.op.Op.TheVariants.{Primitive as Does, Call as Calls}
use Rattle.c_tree.specs.declared.op.Op.TheVariants as op
use Rattle.c_tree.specs.declared.op.Wants.{Wants}
use Rattle.c_tree.specs.declared.op.Wants.TheVariants.{AType, AnError, AText, AnEntry, AnArity, Slots, ASlot}
use Rattle.c_tree.specs.Operations.{wants_of, takes_more, gives_of, wanted}
use Rattle.c_tree.specs.declared.tree.CTy.{CTy}
use Rattle.c_tree.specs.declared.tree.CTy.TheVariants.{Obj, Int}
use Rattle.c_tree.specs.declared.tree.CAtom.{CAtom}
use Rattle.c_tree.specs.declared.tree.CAtom.TheVariants as atom
use Rattle.c_tree.specs.declared.tree.CArg.{CArg}
use Rattle.c_tree.specs.declared.tree.CArg.TheVariants as arg
use Rattle.c_tree.specs.declared.tree.Callee.{Callee}
use Rattle.c_tree.specs.declared.tree.Callee.TheVariants as callee
use Rattle.c_tree.specs.declared.tree.CCall.{CCall}
use Rattle.c_tree.specs.declared.tree.CExpr.{CExpr}
use Rattle.c_tree.specs.declared.tree.CExpr.TheVariants as expr
use Rattle.c_tree.specs.declared.tree.CVar.{CVar}
use Rattle.c_tree.specs.Code.{Code, done, assign, call, return, test, loop, ended, goto, catch, protect}
use Rattle.c_meaning.specs.declared.breach.BadCause.TheVariants.{Undeclared, Types, Label, Shape}
use Rattle.c_meaning.specs.Plain.{same_type, number_fits, is_typed, is_error, variable_named, atom_fits, argument_fits, arguments_fit, is_built_op, call_fits_signature, call_type, is_the_type, has_type, expr_fits, assigned_fits, code_fits, Signature, signature_named, Role, Maker, Entry, role_of}
use Rattle.c_meaning.specs.Runnable.{is_runnable_atom, is_runnable_argument, is_runnable_callee, is_runnable_call, is_runnable_expr, is_straight}
use Rattle.c_meaning.specs.Breaches.{unless, Open, Scope, Free, is_asked, type_of, name_breaches, variable_type, atom_breaches, misplaced, argument_breaches, arguments_breaches, may_call, may_do, result_asked, callee_breaches, params_asked, operands_breaches, expr_breaches, called_in, calls_of, after_expr, calls_in, labels_in, in_block, behind, after_code, may_return, code_breaches}
use Rattle.c_meaning.proofs.Tests.{and_true, and_false, associated, exchanged, is_none, none_both, none_unless}

-- Calls, in text order ----------------------------------------------------------------------

-- each of these calls may stand behind those in front of it
abbrev pub may_all : Role → List (List ℕ) → List (List ℕ) → Bool
may_all role called [] = true
may_all role called (n ∷ ns) = may_call role called n (role_of n) && may_all role (called ++ n ∷ []) ns

may_append : (role : Role) (called xs ys : List (List ℕ)) → may_all role called (xs ++ ys) ≡ (may_all role called xs && may_all role (called ++ xs) ys)
may_append role called [] ys = ap (λ l. may_all role l ys) (sym (append-nil called))
may_append role called (x ∷ xs) ys =
    ap (λ b. may_call role called x (role_of x) && b) (may_append role (called ++ x ∷ []) xs ys)
    ∙ ap (λ l. may_call role called x (role_of x) && (may_all role (called ++ x ∷ []) xs && may_all role l ys)) (append_assoc called (x ∷ []) xs)
    ∙ sym (associated (may_call role called x (role_of x)) (may_all role (called ++ x ∷ []) xs) (may_all role (called ++ x ∷ xs) ys))

joined : (role : Role) (called xs ys : List (List ℕ)) (a b : Bool) → ((a && may_all role called xs) && (b && may_all role (called ++ xs) ys)) ≡ ((a && b) && may_all role called (xs ++ ys))
joined role called xs ys a b = exchanged a (may_all role called xs) b (may_all role (called ++ xs) ys) ∙ ap (λ m. (a && b) && m) (sym (may_append role called xs ys))

-- Operations --------------------------------------------------------------------------------

-- what an operation of a plain program asks for
abbrev is_plain_want : Wants → Bool
is_plain_want (AType t) = true
is_plain_want AnError = true
is_plain_want AText = true
is_plain_want _ = false

types_plain : (ts : List CTy) → list_all is_plain_want (map AType ts) ≡ true
types_plain [] = refl
types_plain (t ∷ ts) = types_plain ts

wanted_plain : (ts : List Ty) → list_all is_plain_want (map wanted ts) ≡ true
wanted_plain [] = refl
wanted_plain (t ∷ ts) = wanted_plain ts

built_plain : (o : Op) → is_built_op o ≡ true → list_all is_plain_want (wants_of o) ≡ true
built_plain op.BoxLong h = refl
built_plain op.BoxBool h = refl
built_plain op.UnboxLong h = refl
built_plain op.Truth h = refl
built_plain op.Raise h = refl
built_plain op.Args h = refl
built_plain op.Status h = refl
built_plain (Does p) h = wanted_plain (row_of p).params
built_plain _ h = absurd (cc)

built_takes : (o : Op) → is_built_op o ≡ true → takes_more o ≡ false
built_takes Calls h = absurd (cc)
built_takes _ h = refl

built_may : (role : Role) (o : Op) → is_built_op o ≡ true → may_do role o ≡ true
built_may Maker Calls h = absurd (cc)
built_may Entry Calls h = absurd (cc)
built_may role o h = refl

-- Statements of one function ----------------------------------------------------------------

-- in a function of this role and result, behind these functions, labels and calls, in no block that takes a loop alone
abbrev pub free : Role → CTy → List Signature → List CVar → List (List ℕ) → List (List ℕ) → List Open → Scope
free role result functions vars labels called blocks = record {
  role = role;
  result = result;
  functions = functions;
  globals = [];
  variables = vars;
  labels = labels;
  called = called;
  blocks = blocks;
  room = Free;
}

-- where no type is asked for, any will do
abbrev asked_fits : Option CTy → Option CTy → Bool
asked_fits asked None = false
asked_fits asked (Some t) = is_asked asked t

none_asked : (o : Option CTy) → asked_fits None o ≡ has_type o
none_asked None = refl
none_asked (Some t) = refl

one_asked : (t : CTy) (o : Option CTy) → asked_fits (Some t) o ≡ is_the_type t o
one_asked t None = refl
one_asked t (Some u) = refl

asked_if : (asked : Option CTy) (b : Bool) (t : CTy) → asked_fits asked (if b then Some t else None) ≡ (b && is_asked asked t)
asked_if asked true t = refl
asked_if asked false t = refl

reordered : (a m f : Bool) → ((a && m) && f) ≡ ((f && a) && (m && true))
reordered true true true = refl
reordered true true false = refl
reordered true false true = refl
reordered true false false = refl
reordered false m true = refl
reordered false m false = refl

module _ (role : Role) (result : CTy) (functions : List Signature) (vars : List CVar) where
  module _ (labels called : List (List ℕ)) (blocks : List Open) where
    abbrev here : Scope
    here = free role result functions vars labels called blocks

    type_is : (x : List ℕ) → variable_type here x ≡ type_of (variable_named vars x)
    type_is x = ap (λ vs. type_of (variable_named vs x)) (append-nil vars)

    named_atom : (t : CTy) (o : Option CVar) → is_none (name_breaches (Some t) (type_of o)) ≡ is_typed t o
    named_atom t None = refl
    named_atom t (Some v) = none_unless Types (same_type t v.ty)

    atom_none : (t : CTy) (a : CAtom) → is_runnable_atom a ≡ true → is_none (atom_breaches here (Some t) a) ≡ atom_fits vars a t
    atom_none t (atom.Int n) h = none_unless Types (number_fits n t)
    atom_none t (atom.Name x) h = ap (λ u. is_none (name_breaches (Some t) u)) (type_is x) ∙ named_atom t (variable_named vars x)
    atom_none t (atom.Sym x) h = absurd (cc)
    atom_none t atom.False h = none_unless Types (same_type t Obj)
    atom_none t atom.True h = none_unless Types (same_type t Obj)
    atom_none t atom.Nil h = none_unless Types (same_type t Obj)
    atom_none t atom.Unspec h = none_unless Types (same_type t Obj)
    atom_none t atom.Eof h = none_unless Types (same_type t Obj)

    name_misplaced : (x : List ℕ) → is_none (unless Undeclared (is_some (variable_type here x)) ++ Types ∷ []) ≡ false
    name_misplaced x = none_both (unless Undeclared (is_some (variable_type here x))) (Types ∷ []) ∙ and_false (is_none (unless Undeclared (is_some (variable_type here x))))

    misplaced_some : (a : CArg) → is_none (misplaced here a) ≡ false
    misplaced_some (arg.Atom (atom.Name x)) = name_misplaced x
    misplaced_some (arg.Atom (atom.Int n)) = refl
    misplaced_some (arg.Atom (atom.Sym x)) = refl
    misplaced_some (arg.Atom atom.False) = refl
    misplaced_some (arg.Atom atom.True) = refl
    misplaced_some (arg.Atom atom.Nil) = refl
    misplaced_some (arg.Atom atom.Unspec) = refl
    misplaced_some (arg.Atom atom.Eof) = refl
    misplaced_some (arg.Str text) = refl
    misplaced_some (arg.Entry name) = refl

    error_none : (a : CAtom) → is_none (argument_breaches here (Some AnError) (arg.Atom a)) ≡ argument_fits vars AnError (arg.Atom a)
    error_none (atom.Int n) = none_unless Types (is_error n)
    error_none (atom.Name x) = name_misplaced x
    error_none (atom.Sym x) = refl
    error_none atom.False = refl
    error_none atom.True = refl
    error_none atom.Nil = refl
    error_none atom.Unspec = refl
    error_none atom.Eof = refl

    text_none : (a : CAtom) → is_none (argument_breaches here (Some AText) (arg.Atom a)) ≡ false
    text_none (atom.Int n) = refl
    text_none (atom.Name x) = name_misplaced x
    text_none (atom.Sym x) = refl
    text_none atom.False = refl
    text_none atom.True = refl
    text_none atom.Nil = refl
    text_none atom.Unspec = refl
    text_none atom.Eof = refl

    argument_none : (w : Wants) (a : CArg) → is_plain_want w ≡ true → is_runnable_argument a ≡ true → is_none (argument_breaches here (Some w) a) ≡ argument_fits vars w a
    argument_none (AType t) (arg.Atom a) p h = atom_none t a h
    argument_none (AType t) (arg.Str text) p h = refl
    argument_none AnError (arg.Atom a) p h = error_none a
    argument_none AnError (arg.Str text) p h = refl
    argument_none AText (arg.Atom a) p h = text_none a
    argument_none AText (arg.Str text) p h = refl
    argument_none w (arg.Entry name) p h = absurd (cc)
    argument_none AnEntry a p h = absurd (cc)
    argument_none AnArity a p h = absurd (cc)
    argument_none Slots a p h = absurd (cc)
    argument_none ASlot a p h = absurd (cc)

    arguments_none : (ws : List Wants) (args : List CArg) → list_all is_plain_want ws ≡ true → list_all is_runnable_argument args ≡ true → is_none (arguments_breaches here ws false args) ≡ arguments_fit vars ws args
    arguments_none [] [] p h = refl
    arguments_none (w ∷ ws) [] p h = refl
    arguments_none [] (a ∷ others) p h =
        none_both (misplaced here a) (arguments_breaches here [] false others)
        ∙ ap (λ b. b && is_none (arguments_breaches here [] false others)) (misplaced_some a)
    arguments_none (w ∷ ws) (a ∷ others) p h =
        let q = and_parts (is_plain_want w) (list_all is_plain_want ws) p in
        let r = and_parts (is_runnable_argument a) (list_all is_runnable_argument others) h in
        none_both (argument_breaches here (Some w) a) (arguments_breaches here ws false others)
        ∙ (λ i. argument_none w a q.0 r.0 i && arguments_none ws others q.1 r.1 i)

    function_none : (asked : Option CTy) (m : Bool) (o : Option Signature) (args : List CArg) → list_all is_runnable_argument args ≡ true
        → (is_none (unless Undeclared (is_some o) ++ (unless Types (result_asked asked o) ++ unless Shape m)) && is_none (arguments_breaches here (params_asked o) false args))
        ≡ (asked_fits asked (call_fits_signature vars o args) && (m && true))
    function_none asked m None args h = refl
    function_none asked m (Some f) args h =
        let fits = arguments_fit vars (map AType f.params) args in
        let first = none_both (unless Types (is_asked asked f.result)) (unless Shape m) ∙ (λ i. none_unless Types (is_asked asked f.result) i && none_unless Shape m i) in
        (λ i. first i && arguments_none (map AType f.params) args (types_plain f.params) h i)
        ∙ reordered (is_asked asked f.result) m fits
        ∙ ap (λ b. b && (m && true)) (sym (asked_if asked fits f.result))

    operation_none : (asked : Option CTy) (o : Op) (args : List CArg) → is_built_op o ≡ true → list_all is_runnable_argument args ≡ true
        → (is_none (unless Types (is_asked asked (gives_of o)) ++ unless Shape (may_do role o)) && is_none (arguments_breaches here (wants_of o) (takes_more o) args))
        ≡ (asked_fits asked (if is_built_op o && arguments_fit vars (wants_of o) args then Some (gives_of o) else None) && true)
    operation_none asked o args b h =
        let fits = arguments_fit vars (wants_of o) args in
        let t = is_asked asked (gives_of o) in
        let first : is_none (unless Types t ++ unless Shape (may_do role o)) ≡ (t && true) =
        none_both (unless Types t) (unless Shape (may_do role o)) ∙ (λ i. none_unless Types t i && (none_unless Shape (may_do role o) ∙ built_may role o b) i) in
        let second : is_none (arguments_breaches here (wants_of o) (takes_more o) args) ≡ fits =
        ap (λ m. is_none (arguments_breaches here (wants_of o) m args)) (built_takes o b) ∙ arguments_none (wants_of o) args (built_plain o b) h in
        (λ i. first i && second i)
        ∙ reordered t true fits
        ∙ ap (λ c. c && true) (sym (asked_if asked fits (gives_of o)) ∙ ap (λ c. asked_fits asked (if c && fits then Some (gives_of o) else None)) (sym b))

    callee_none : (asked : Option CTy) (c : CCall) (k : Callee) → is_runnable_callee k ≡ true → list_all is_runnable_argument c.args ≡ true
        → (is_none (callee_breaches here asked k) && is_none (operands_breaches here c k)) ≡ (asked_fits asked (call_type functions vars k c.args) && may_all role called (called_in k))
    callee_none asked c (callee.Fun name) b h = function_none asked (may_call role called name (role_of name)) (signature_named functions name) c.args h
    callee_none asked c (callee.Op o) b h = operation_none asked o c.args b h

    call_none : (asked : Option CTy) (c : CCall) → is_runnable_call c ≡ true
        → (is_none (callee_breaches here asked c.callee) && is_none (operands_breaches here c c.callee)) ≡ (asked_fits asked (call_type functions vars c.callee c.args) && may_all role called (called_in c.callee))
    call_none asked c h =
        let p = and_parts (is_runnable_callee c.callee) (list_all is_runnable_argument c.args) h in
        callee_none asked c c.callee p.0 p.1

    expr_none : (t : CTy) (e : CExpr) → is_runnable_expr e ≡ true → is_none (expr_breaches here (Some t) e) ≡ (expr_fits functions vars e t && may_all role called (calls_of e))
    expr_none t (expr.Atom a) h = none_both (atom_breaches here (Some t) a) [] ∙ ap (λ b. b && true) (atom_none t a h)
    expr_none t (expr.Call c) h =
        none_both (callee_breaches here (Some t) c.callee) (operands_breaches here c c.callee)
        ∙ call_none (Some t) c h
        ∙ ap (λ b. b && may_all role called (called_in c.callee)) (one_asked t (call_type functions vars c.callee c.args))

    -- an assignment and what follows it
    assign_none : (e : CExpr) (o : Option CVar) (rest : Bool) (ns : List (List ℕ)) (c : Bool) → is_runnable_expr e ≡ true → rest ≡ (c && may_all role (called ++ calls_of e) ns)
        → (is_none (name_breaches None (type_of o) ++ []) && (is_none (expr_breaches here (type_of o) e) && rest)) ≡ ((assigned_fits functions vars e o && c) && may_all role called (calls_of e ++ ns))
    assign_none e None rest ns c h r = refl
    assign_none e (Some v) rest ns c h r = (λ i. expr_none v.ty e h i && r i) ∙ joined role called (calls_of e) ns (expr_fits functions vars e v.ty) c

  pub code_none : (labels called : List (List ℕ)) (blocks : List Open) → may_return blocks ≡ true → (c : Code) → is_straight c ≡ true
      → is_none (code_breaches (free role result functions vars labels called blocks) c) ≡ (code_fits functions vars result c && may_all role called (calls_in c))
  code_none labels called blocks may done h = refl
  code_none labels called blocks may (assign x e rest) h =
      let s = free role result functions vars labels called blocks in
      let p = and_parts (is_runnable_expr e) (is_straight rest) h in
      let t = variable_type s x in
      let later = code_breaches (behind (after_expr e s)) rest in
      none_both (name_breaches None t ++ []) (expr_breaches s t e ++ later)
      ∙ ap (λ b. is_none (name_breaches None t ++ []) && b) (none_both (expr_breaches s t e) later)
      ∙ ap (λ u. is_none (name_breaches None u ++ []) && (is_none (expr_breaches s u e) && is_none later)) (type_is labels called blocks x)
      ∙ assign_none labels called blocks e (variable_named vars x) (is_none later) (calls_in rest) (code_fits functions vars result rest) p.0 (code_none labels (called ++ calls_of e) blocks may rest p.1)
  code_none labels called blocks may (call c rest) h =
      let s = free role result functions vars labels called blocks in
      let p = and_parts (is_runnable_call c) (is_straight rest) h in
      let first = callee_breaches s None c.callee in
      let second = operands_breaches s c c.callee in
      let later = code_breaches (behind (after_expr (expr.Call c) s)) rest in
      let here : (is_none first && is_none second) ≡ (has_type (call_type functions vars c.callee c.args) && may_all role called (called_in c.callee)) =
      call_none labels called blocks None c p.0 ∙ ap (λ b. b && may_all role called (called_in c.callee)) (none_asked (call_type functions vars c.callee c.args)) in
      none_both (first ++ []) (second ++ later)
      ∙ (λ i. (none_both first [] ∙ and_true (is_none first)) i && none_both second later i)
      ∙ sym (associated (is_none first) (is_none second) (is_none later))
      ∙ (λ i. here i && code_none labels (called ++ called_in c.callee) blocks may rest p.1 i)
      ∙ joined role called (called_in c.callee) (calls_in rest) (has_type (call_type functions vars c.callee c.args)) (code_fits functions vars result rest)
  code_none labels called blocks may (return e rest) h =
      let s = free role result functions vars labels called blocks in
      let p = and_parts (is_runnable_expr e) (is_straight rest) h in
      let later = code_breaches (behind (after_expr e s)) rest in
      none_both (unless Label (may_return blocks) ++ []) (expr_breaches s (Some result) e ++ later)
      ∙ (λ i. is_none (unless Label (may i) ++ []) && none_both (expr_breaches s (Some result) e) later i)
      ∙ (λ i. expr_none labels called blocks result e p.0 i && code_none labels (called ++ calls_of e) blocks may rest p.1 i)
      ∙ joined role called (calls_of e) (calls_in rest) (expr_fits functions vars e result) (code_fits functions vars result rest)
  code_none labels called blocks may (test e a b rest) h =
      let s = free role result functions vars labels called blocks in
      let p = and_parts (is_runnable_expr e) (is_straight a && (is_straight b && is_straight rest)) h in
      let q = and_parts (is_straight a) (is_straight b && is_straight rest) p.1 in
      let r = and_parts (is_straight b) (is_straight rest) q.1 in
      let fits = code_fits functions vars result in
      let s1 = after_expr e s in
      let s2 = after_code a s1 in
      let s3 = after_code b s2 in
      let called1 = called ++ calls_of e in
      let called2 = called1 ++ calls_in a in
      let first = code_breaches (in_block s1) a in
      let second = code_breaches (in_block s2) b in
      let later = code_breaches (behind s3) rest in
      let ends : is_none (second ++ later) ≡ ((fits b && fits rest) && may_all role called2 (calls_in b ++ calls_in rest)) =
      none_both second later
      ∙ (λ i. code_none (labels ++ labels_in a) called2 blocks may b r.0 i && code_none ((labels ++ labels_in a) ++ labels_in b) (called2 ++ calls_in b) blocks may rest r.1 i)
      ∙ joined role called2 (calls_in b) (calls_in rest) (fits b) (fits rest) in
      let blocks_end : is_none (first ++ (second ++ later)) ≡ ((fits a && (fits b && fits rest)) && may_all role called1 (calls_in a ++ (calls_in b ++ calls_in rest))) =
      none_both first (second ++ later)
      ∙ (λ i. code_none labels called1 blocks may a q.0 i && ends i)
      ∙ joined role called1 (calls_in a) (calls_in b ++ calls_in rest) (fits a) (fits b && fits rest) in
      none_both (expr_breaches s (Some Int) e) (first ++ (second ++ later))
      ∙ (λ i. expr_none labels called blocks Int e p.0 i && blocks_end i)
      ∙ joined role called (calls_of e) (calls_in a ++ (calls_in b ++ calls_in rest)) (expr_fits functions vars e Int) (fits a && (fits b && fits rest))
  code_none labels called blocks may (loop l body rest) h = absurd (cc)
  code_none labels called blocks may (ended body l rest) h = absurd (cc)
  code_none labels called blocks may (goto l rest) h = absurd (cc)
  code_none labels called blocks may (catch k r body rest) h = absurd (cc)
  code_none labels called blocks may (protect a b rest) h = absurd (cc)
