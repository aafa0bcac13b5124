-- What the statements of a plain program are: runnable, with calls of what is found, and with no name but those that are called and the variables.
use Rattle.std.proofs.Common.{◌≡◌, ℕ, Bool, true, false, ◌&&◌, ◌||◌, List, [], ◌∷◌, ◌++◌, Option, Some, None, refl, sym, ap, ◌∙◌}
use Rattle.std.specs.Prelude.{map, is_some, filter, if◌then◌else◌}
use Rattle.std.specs.List.{list_all, list_any, flat_map}
use Rattle.std.specs.Cmp.Lexicographic.{bytes_decides}
use Rattle.std.proofs.lemmas.Bool.{and_from, and_parts}
use Rattle.std.proofs.lemmas.List.Folds.{list_all-append, list_any-append}
use Rattle.std.proofs.lemmas.List.Elements.{filter-append}
use Rattle.scheme_data.specs.Names.{is_same}
use Rattle.c_tree.specs.declared.op.Wants.{Wants}
use Rattle.c_tree.specs.declared.op.Wants.TheVariants.{AType, AnError, AText, AnEntry, AnArity, Slots, ASlot}
use Rattle.c_tree.specs.Operations.{wants_of, gives_of}
use Rattle.c_tree.specs.declared.tree.CTy.{CTy}
use Rattle.c_tree.specs.declared.tree.CTy.TheVariants.{Int}
use Rattle.c_tree.specs.declared.tree.CAtom.{CAtom}
use Rattle.c_tree.specs.declared.tree.CAtom.TheVariants as atom
use Rattle.c_tree.specs.declared.tree.CArg.{CArg}
use Rattle.c_tree.specs.declared.tree.CArg.TheVariants as arg
use Rattle.c_tree.specs.declared.tree.Callee.{Callee}
use Rattle.c_tree.specs.declared.tree.Callee.TheVariants as callee
use Rattle.c_tree.specs.declared.tree.CCall.{CCall}
use Rattle.c_tree.specs.declared.tree.CExpr.{CExpr}
use Rattle.c_tree.specs.declared.tree.CExpr.TheVariants as expr
use Rattle.c_tree.specs.declared.tree.CVar.{CVar}
use Rattle.c_tree.specs.Code.{Code, done, assign, call, return, test, loop, ended, goto, catch, protect}
use Rattle.c_meaning.specs.Plain.{is_typed, variable_named, atom_fits, argument_fits, arguments_fit, is_built_op, call_fits_signature, call_type, is_the_type, has_type, expr_fits, assigned_fits, code_fits, Signature, signature_named, is_called_once, once_in_callee, once_in_expr, once_in}
use Rattle.c_meaning.specs.Runnable.{is_runnable_atom, is_runnable_argument, is_runnable_callee, is_runnable_call, is_runnable_expr, is_straight}
use Rattle.c_meaning.specs.Breaches.{called_in, calls_of, calls_in}
use Rattle.c_meaning.specs.Checked.{names_of_vars, used_in_atom, used_in_argument, used_in_call, used_in_expr, used_in}
use Rattle.c_meaning.proofs.Tests.{and_true, and_false, exchanged}

-- Signatures that are found in fewer places -------------------------------------------------

-- what may be called of some signatures, as a list and as a test
module _ (fewer more : List Signature) (p : List ℕ → Bool) (found : (n : List ℕ) → signature_named fewer n ≡ (if p n then signature_named more n else None)) (vars : List CVar) where
  joined : (a b : Bool) (xs ys : List (List ℕ)) → ((a && list_all p xs) && (b && list_all p ys)) ≡ ((a && b) && list_all p (xs ++ ys))
  joined a b xs ys = exchanged a (list_all p xs) b (list_all p ys) ∙ ap (λ c. (a && b) && c) (sym (list_all-append p xs ys))

  found_if : (strict : Option CTy → Bool) → strict None ≡ false → (b : Bool) (o : Option Signature) (args : List CArg)
      → strict (call_fits_signature vars (if b then o else None) args) ≡ (strict (call_fits_signature vars o args) && (b && true))
  found_if strict none true o args = sym (and_true (strict (call_fits_signature vars o args)))
  found_if strict none false o args = none ∙ sym (and_false (strict (call_fits_signature vars o args)))

  call_found : (strict : Option CTy → Bool) → strict None ≡ false → (k : Callee) (args : List CArg) → strict (call_type fewer vars k args) ≡ (strict (call_type more vars k args) && list_all p (called_in k))
  call_found strict none (callee.Fun name) args = ap (λ o. strict (call_fits_signature vars o args)) (found name) ∙ found_if strict none (p name) (signature_named more name) args
  call_found strict none (callee.Op op) args = sym (and_true (strict (call_type more vars (callee.Op op) args)))

  expr_found : (e : CExpr) (t : CTy) → expr_fits fewer vars e t ≡ (expr_fits more vars e t && list_all p (calls_of e))
  expr_found (expr.Atom a) t = sym (and_true (atom_fits vars a t))
  expr_found (expr.Call c) t = call_found (is_the_type t) refl c.callee c.args

  assigned_found : (e : CExpr) (o : Option CVar) → assigned_fits fewer vars e o ≡ (assigned_fits more vars e o && list_all p (calls_of e))
  assigned_found e None = refl
  assigned_found e (Some v) = expr_found e v.ty

  pub code_found : (result : CTy) (c : Code) → code_fits fewer vars result c ≡ (code_fits more vars result c && list_all p (calls_in c))
  code_found result done = refl
  code_found result (assign x e rest) =
      let o = variable_named vars x in
      (λ i. assigned_found e o i && code_found result rest i) ∙ joined (assigned_fits more vars e o) (code_fits more vars result rest) (calls_of e) (calls_in rest)
  code_found result (call c rest) =
      (λ i. call_found has_type refl c.callee c.args i && code_found result rest i)
      ∙ joined (has_type (call_type more vars c.callee c.args)) (code_fits more vars result rest) (called_in c.callee) (calls_in rest)
  code_found result (return e rest) =
      (λ i. expr_found e result i && code_found result rest i) ∙ joined (expr_fits more vars e result) (code_fits more vars result rest) (calls_of e) (calls_in rest)
  code_found result (test e a b rest) =
      let fits = code_fits more vars result in
      (λ i. expr_found e Int i && (code_found result a i && (code_found result b i && code_found result rest i)))
      ∙ ap (λ q. (expr_fits more vars e Int && list_all p (calls_of e)) && ((fits a && list_all p (calls_in a)) && q)) (joined (fits b) (fits rest) (calls_in b) (calls_in rest))
      ∙ ap (λ q. (expr_fits more vars e Int && list_all p (calls_of e)) && q) (joined (fits a) (fits b && fits rest) (calls_in a) (calls_in b ++ calls_in rest))
      ∙ joined (expr_fits more vars e Int) (fits a && (fits b && fits rest)) (calls_of e) (calls_in a ++ (calls_in b ++ calls_in rest))
  code_found result (loop l body rest) = refl
  code_found result (ended body l rest) = refl
  code_found result (goto l rest) = refl
  code_found result (catch k r body rest) = refl
  code_found result (protect a b rest) = refl

itself : (o : Option Signature) → o ≡ (if is_some o then o else None)
itself None = refl
itself (Some s) = refl

-- what is called is found
pub calls_found : (sigs : List Signature) (vars : List CVar) (result : CTy) (c : Code) → code_fits sigs vars result c ≡ true → list_all (λ n. is_some (signature_named sigs n)) (calls_in c) ≡ true
calls_found sigs vars result c h =
    let p = λ (n : List ℕ). is_some (signature_named sigs n) in
    (and_parts (code_fits sigs vars result c) (list_all p (calls_in c)) (sym (code_found sigs sigs p (λ n. itself (signature_named sigs n)) vars result c) ∙ h)).1

-- Forms -------------------------------------------------------------------------------------

module _ (sigs : List Signature) (vars : List CVar) where
  atom_runs : (a : CAtom) (t : CTy) → atom_fits vars a t ≡ true → is_runnable_atom a ≡ true
  atom_runs (atom.Sym x) t h = absurd (cc)
  atom_runs a t h = refl

  pub entry_fits : (w : Wants) (name : List ℕ) → argument_fits vars w (arg.Entry name) ≡ false
  entry_fits (AType t) name = refl
  entry_fits AnError name = refl
  entry_fits AText name = refl
  entry_fits AnEntry name = refl
  entry_fits AnArity name = refl
  entry_fits Slots name = refl
  entry_fits ASlot name = refl

  error_runs : (a : CAtom) → argument_fits vars AnError (arg.Atom a) ≡ true → is_runnable_atom a ≡ true
  error_runs (atom.Sym x) h = absurd (cc)
  error_runs a h = refl

  argument_runs : (w : Wants) (a : CArg) → argument_fits vars w a ≡ true → is_runnable_argument a ≡ true
  argument_runs (AType t) (arg.Atom a) h = atom_runs a t h
  argument_runs AnError (arg.Atom a) h = error_runs a h
  argument_runs AText (arg.Atom a) h = absurd (cc)
  argument_runs AnEntry (arg.Atom a) h = absurd (cc)
  argument_runs AnArity (arg.Atom a) h = absurd (cc)
  argument_runs Slots (arg.Atom a) h = absurd (cc)
  argument_runs ASlot (arg.Atom a) h = absurd (cc)
  argument_runs w (arg.Str text) h = refl
  argument_runs w (arg.Entry name) h = absurd (let e : false ≡ true = sym (entry_fits w name) ∙ h in cc)

  arguments_run : (ws : List Wants) (args : List CArg) → arguments_fit vars ws args ≡ true → list_all is_runnable_argument args ≡ true
  arguments_run [] [] h = refl
  arguments_run [] (a ∷ others) h = absurd (cc)
  arguments_run (w ∷ ws) [] h = absurd (cc)
  arguments_run (w ∷ ws) (a ∷ others) h =
      let p = and_parts (argument_fits vars w a) (arguments_fit vars ws others) h in
      and_from (is_runnable_argument a) (list_all is_runnable_argument others) (argument_runs w a p.0) (arguments_run ws others p.1)

  if_fits : {A : Type 0} (strict : Option A → Bool) → strict None ≡ false → (b : Bool) (o : Option A) → strict (if b then o else None) ≡ true → b ≡ true
  if_fits strict none true o h = refl
  if_fits strict none false o h = sym none ∙ h

  signature_run : (strict : Option CTy → Bool) → strict None ≡ false → (o : Option Signature) (args : List CArg) → strict (call_fits_signature vars o args) ≡ true → list_all is_runnable_argument args ≡ true
  signature_run strict none None args h = absurd (let e : false ≡ true = sym none ∙ h in cc)
  signature_run strict none (Some s) args h = arguments_run (map AType s.params) args (if_fits strict none (arguments_fit vars (map AType s.params) args) (Some s.result) h)

  call_runs : (strict : Option CTy → Bool) → strict None ≡ false → (k : Callee) (args : List CArg) → strict (call_type sigs vars k args) ≡ true → (is_runnable_callee k && list_all is_runnable_argument args) ≡ true
  call_runs strict none (callee.Fun name) args h = signature_run strict none (signature_named sigs name) args h
  call_runs strict none (callee.Op op) args h =
      let both = if_fits strict none (is_built_op op && arguments_fit vars (wants_of op) args) (Some (gives_of op)) h in
      let p = and_parts (is_built_op op) (arguments_fit vars (wants_of op) args) both in
      and_from (is_built_op op) (list_all is_runnable_argument args) p.0 (arguments_run (wants_of op) args p.1)

  expr_runs : (e : CExpr) (t : CTy) → expr_fits sigs vars e t ≡ true → is_runnable_expr e ≡ true
  expr_runs (expr.Atom a) t h = atom_runs a t h
  expr_runs (expr.Call c) t h = call_runs (is_the_type t) refl c.callee c.args h

  assigned_runs : (e : CExpr) (o : Option CVar) → assigned_fits sigs vars e o ≡ true → is_runnable_expr e ≡ true
  assigned_runs e None h = absurd (cc)
  assigned_runs e (Some v) h = expr_runs e v.ty h

  pub code_runs : (result : CTy) (c : Code) → code_fits sigs vars result c ≡ true → is_straight c ≡ true
  code_runs result done h = refl
  code_runs result (assign x e rest) h =
      let p = and_parts (assigned_fits sigs vars e (variable_named vars x)) (code_fits sigs vars result rest) h in
      and_from (is_runnable_expr e) (is_straight rest) (assigned_runs e (variable_named vars x) p.0) (code_runs result rest p.1)
  code_runs result (call c rest) h =
      let p = and_parts (has_type (call_type sigs vars c.callee c.args)) (code_fits sigs vars result rest) h in
      and_from (is_runnable_call c) (is_straight rest) (call_runs has_type refl c.callee c.args p.0) (code_runs result rest p.1)
  code_runs result (return e rest) h =
      let p = and_parts (expr_fits sigs vars e result) (code_fits sigs vars result rest) h in
      and_from (is_runnable_expr e) (is_straight rest) (expr_runs e result p.0) (code_runs result rest p.1)
  code_runs result (test e a b rest) h =
      let fits = code_fits sigs vars result in
      let p = and_parts (expr_fits sigs vars e Int) (fits a && (fits b && fits rest)) h in
      let q = and_parts (fits a) (fits b && fits rest) p.1 in
      let r = and_parts (fits b) (fits rest) q.1 in
      and_from (is_runnable_expr e) (is_straight a && (is_straight b && is_straight rest)) (expr_runs e Int p.0)
      (and_from (is_straight a) (is_straight b && is_straight rest) (code_runs result a q.0) (and_from (is_straight b) (is_straight rest) (code_runs result b r.0) (code_runs result rest r.1)))
  code_runs result (loop l body rest) h = absurd (cc)
  code_runs result (ended body l rest) h = absurd (cc)
  code_runs result (goto l rest) h = absurd (cc)
  code_runs result (catch k r body rest) h = absurd (cc)
  code_runs result (protect a b rest) h = absurd (cc)

-- Names that are used -----------------------------------------------------------------------

-- a name that no variable has is used where it is called
module _ (sigs : List Signature) (vars : List CVar) (n : List ℕ) (apart : list_any (is_same n) (names_of_vars vars) ≡ false) where
  or_parts : (a b : Bool) → (a || b) ≡ false → (a ≡ false) × (b ≡ false)
  or_parts true b h = absurd (cc)
  or_parts false b h = (refl, h)

  unnamed_if : (v : CVar) (x : List ℕ) (b : Bool) (o : Option CVar) → is_same v.name x ≡ b → is_same n v.name ≡ false → is_same n x ≡ true → o ≡ None → (if b then Some v else o) ≡ None
  unnamed_if v x true o e other same none =
      let q : true ≡ false = sym same ∙ ap (is_same n) (sym ((bytes_decides v.name x).0 e)) ∙ other in
      absurd (cc)
  unnamed_if v x false o e other same none = none

  unnamed : (vs : List CVar) (x : List ℕ) → list_any (is_same n) (names_of_vars vs) ≡ false → is_same n x ≡ true → variable_named vs x ≡ None
  unnamed [] x h e = refl
  unnamed (v ∷ vs) x h e =
      let p = or_parts (is_same n v.name) (list_any (is_same n) (names_of_vars vs)) h in
      unnamed_if v x (is_same v.name x) (variable_named vs x) refl p.0 e (unnamed vs x p.1 e)

  -- a variable that is there has another name
  other_name : (strict : Option CVar → Bool) → strict None ≡ false → (x : List ℕ) → strict (variable_named vars x) ≡ true → is_same n x ≡ false
  other_name strict none x h = go (is_same n x) refl
    where
      go : (b : Bool) → is_same n x ≡ b → is_same n x ≡ false
      go true e = absurd (let q : false ≡ true = sym none ∙ ap strict (sym (unnamed vars x apart e)) ∙ h in cc)
      go false e = e

  atom_unused : (a : CAtom) (t : CTy) → atom_fits vars a t ≡ true → list_any (is_same n) (used_in_atom a) ≡ false
  atom_unused (atom.Name x) t h = ap (λ b. b || false) (other_name (is_typed t) refl x h)
  atom_unused (atom.Int k) t h = refl
  atom_unused (atom.Sym x) t h = refl
  atom_unused atom.False t h = refl
  atom_unused atom.True t h = refl
  atom_unused atom.Nil t h = refl
  atom_unused atom.Unspec t h = refl
  atom_unused atom.Eof t h = refl

  error_unused : (a : CAtom) → argument_fits vars AnError (arg.Atom a) ≡ true → list_any (is_same n) (used_in_atom a) ≡ false
  error_unused (atom.Name x) h = absurd (cc)
  error_unused a h = refl

  argument_unused : (w : Wants) (a : CArg) → argument_fits vars w a ≡ true → list_any (is_same n) (used_in_argument a) ≡ false
  argument_unused (AType t) (arg.Atom a) h = atom_unused a t h
  argument_unused AnError (arg.Atom a) h = error_unused a h
  argument_unused AText (arg.Atom a) h = absurd (cc)
  argument_unused AnEntry (arg.Atom a) h = absurd (cc)
  argument_unused AnArity (arg.Atom a) h = absurd (cc)
  argument_unused Slots (arg.Atom a) h = absurd (cc)
  argument_unused ASlot (arg.Atom a) h = absurd (cc)
  argument_unused w (arg.Str text) h = refl
  argument_unused w (arg.Entry name) h = absurd (let e : false ≡ true = sym (entry_fits sigs vars w name) ∙ h in cc)

  arguments_unused : (ws : List Wants) (args : List CArg) → arguments_fit vars ws args ≡ true → list_any (is_same n) (flat_map used_in_argument args) ≡ false
  arguments_unused [] [] h = refl
  arguments_unused [] (a ∷ others) h = absurd (cc)
  arguments_unused (w ∷ ws) [] h = absurd (cc)
  arguments_unused (w ∷ ws) (a ∷ others) h =
      let p = and_parts (argument_fits vars w a) (arguments_fit vars ws others) h in
      list_any-append (is_same n) (used_in_argument a) (flat_map used_in_argument others)
      ∙ (λ i. argument_unused w a p.0 i || arguments_unused ws others p.1 i)

  signature_unused : (strict : Option CTy → Bool) → strict None ≡ false → (o : Option Signature) (args : List CArg) → strict (call_fits_signature vars o args) ≡ true → list_any (is_same n) (flat_map used_in_argument args) ≡ false
  signature_unused strict none None args h = absurd (let e : false ≡ true = sym none ∙ h in cc)
  signature_unused strict none (Some s) args h = arguments_unused (map AType s.params) args (if_fits sigs vars strict none (arguments_fit vars (map AType s.params) args) (Some s.result) h)

  arguments_of : (strict : Option CTy → Bool) → strict None ≡ false → (k : Callee) (args : List CArg) → strict (call_type sigs vars k args) ≡ true → list_any (is_same n) (flat_map used_in_argument args) ≡ false
  arguments_of strict none (callee.Fun name) args h = signature_unused strict none (signature_named sigs name) args h
  arguments_of strict none (callee.Op op) args h =
      let both = if_fits sigs vars strict none (is_built_op op && arguments_fit vars (wants_of op) args) (Some (gives_of op)) h in
      arguments_unused (wants_of op) args (and_parts (is_built_op op) (arguments_fit vars (wants_of op) args) both).1

  or_none : (a : Bool) → (a || false) ≡ a
  or_none true = refl
  or_none false = refl

  call_uses : (strict : Option CTy → Bool) → strict None ≡ false → (c : CCall) → strict (call_type sigs vars c.callee c.args) ≡ true → list_any (is_same n) (used_in_call c) ≡ list_any (is_same n) (called_in c.callee)
  call_uses strict none c h =
      list_any-append (is_same n) (called_in c.callee) (flat_map used_in_argument c.args)
      ∙ ap (λ b. list_any (is_same n) (called_in c.callee) || b) (arguments_of strict none c.callee c.args h)
      ∙ or_none (list_any (is_same n) (called_in c.callee))

  expr_uses : (e : CExpr) (t : CTy) → expr_fits sigs vars e t ≡ true → list_any (is_same n) (used_in_expr e) ≡ list_any (is_same n) (calls_of e)
  expr_uses (expr.Atom a) t h = atom_unused a t h
  expr_uses (expr.Call c) t h = call_uses (is_the_type t) refl c h

  assigned_uses : (e : CExpr) (o : Option CVar) → assigned_fits sigs vars e o ≡ true → list_any (is_same n) (used_in_expr e) ≡ list_any (is_same n) (calls_of e)
  assigned_uses e None h = absurd (cc)
  assigned_uses e (Some v) h = expr_uses e v.ty h

  both : (us vs xs ys : List (List ℕ)) → list_any (is_same n) us ≡ list_any (is_same n) xs → list_any (is_same n) vs ≡ list_any (is_same n) ys → list_any (is_same n) (us ++ vs) ≡ list_any (is_same n) (xs ++ ys)
  both us vs xs ys e h = list_any-append (is_same n) us vs ∙ (λ i. e i || h i) ∙ sym (list_any-append (is_same n) xs ys)

  assigned_there : (e : CExpr) (o : Option CVar) → assigned_fits sigs vars e o ≡ true → is_some o ≡ true
  assigned_there e None h = h
  assigned_there e (Some v) h = refl

  pub code_uses : (result : CTy) (c : Code) → code_fits sigs vars result c ≡ true → list_any (is_same n) (used_in c) ≡ list_any (is_same n) (calls_in c)
  code_uses result done h = refl
  code_uses result (assign x e rest) h =
      let o = variable_named vars x in
      let p = and_parts (assigned_fits sigs vars e o) (code_fits sigs vars result rest) h in
      ap (λ b. b || list_any (is_same n) (used_in_expr e ++ used_in rest)) (other_name is_some refl x (assigned_there e o p.0))
      ∙ both (used_in_expr e) (used_in rest) (calls_of e) (calls_in rest) (assigned_uses e o p.0) (code_uses result rest p.1)
  code_uses result (call c rest) h =
      let p = and_parts (has_type (call_type sigs vars c.callee c.args)) (code_fits sigs vars result rest) h in
      both (used_in_call c) (used_in rest) (called_in c.callee) (calls_in rest) (call_uses has_type refl c p.0) (code_uses result rest p.1)
  code_uses result (return e rest) h =
      let p = and_parts (expr_fits sigs vars e result) (code_fits sigs vars result rest) h in
      both (used_in_expr e) (used_in rest) (calls_of e) (calls_in rest) (expr_uses e result p.0) (code_uses result rest p.1)
  code_uses result (test e a b rest) h =
      let fits = code_fits sigs vars result in
      let p = and_parts (expr_fits sigs vars e Int) (fits a && (fits b && fits rest)) h in
      let q = and_parts (fits a) (fits b && fits rest) p.1 in
      let r = and_parts (fits b) (fits rest) q.1 in
      both (used_in_expr e) (used_in a ++ (used_in b ++ used_in rest)) (calls_of e) (calls_in a ++ (calls_in b ++ calls_in rest)) (expr_uses e Int p.0)
      (both (used_in a) (used_in b ++ used_in rest) (calls_in a) (calls_in b ++ calls_in rest) (code_uses result a q.0)
      (both (used_in b) (used_in rest) (calls_in b) (calls_in rest) (code_uses result b r.0) (code_uses result rest r.1)))
  code_uses result (loop l body rest) h = absurd (cc)
  code_uses result (ended body l rest) h = absurd (cc)
  code_uses result (goto l rest) h = absurd (cc)
  code_uses result (catch k r body rest) h = absurd (cc)
  code_uses result (protect a b rest) h = absurd (cc)

-- Calls of makers and initialisations -------------------------------------------------------

once_callee : (k : Callee) → once_in_callee k ≡ filter is_called_once (called_in k)
once_callee (callee.Fun name) = refl
once_callee (callee.Op op) = refl

once_expr : (e : CExpr) → once_in_expr e ≡ filter is_called_once (calls_of e)
once_expr (expr.Atom a) = refl
once_expr (expr.Call c) = once_callee c.callee

once_both : (us vs xs ys : List (List ℕ)) → us ≡ filter is_called_once xs → vs ≡ filter is_called_once ys → us ++ vs ≡ filter is_called_once (xs ++ ys)
once_both us vs xs ys e h = (λ i. e i ++ h i) ∙ sym (filter-append is_called_once xs ys)

pub once_code : (c : Code) → once_in c ≡ filter is_called_once (calls_in c)
once_code done = refl
once_code (assign x e rest) = once_both (once_in_expr e) (once_in rest) (calls_of e) (calls_in rest) (once_expr e) (once_code rest)
once_code (call c rest) = once_both (once_in_callee c.callee) (once_in rest) (called_in c.callee) (calls_in rest) (once_callee c.callee) (once_code rest)
once_code (return e rest) = once_both (once_in_expr e) (once_in rest) (calls_of e) (calls_in rest) (once_expr e) (once_code rest)
once_code (test e a b rest) =
    once_both (once_in_expr e) (once_in a ++ (once_in b ++ once_in rest)) (calls_of e) (calls_in a ++ (calls_in b ++ calls_in rest)) (once_expr e)
    (once_both (once_in a) (once_in b ++ once_in rest) (calls_in a) (calls_in b ++ calls_in rest) (once_code a)
    (once_both (once_in b) (once_in rest) (calls_in b) (calls_in rest) (once_code b) (once_code rest)))
once_code (loop l body rest) = once_both (once_in body) (once_in rest) (calls_in body) (calls_in rest) (once_code body) (once_code rest)
once_code (ended body l rest) = once_both (once_in body) (once_in rest) (calls_in body) (calls_in rest) (once_code body) (once_code rest)
once_code (goto l rest) = once_code rest
once_code (catch k r body rest) = once_both (once_in body) (once_in rest) (calls_in body) (calls_in rest) (once_code body) (once_code rest)
once_code (protect a b rest) =
    once_both (once_in a) (once_in b ++ once_in rest) (calls_in a) (calls_in b ++ calls_in rest) (once_code a)
    (once_both (once_in b) (once_in rest) (calls_in b) (calls_in rest) (once_code b) (once_code rest))
