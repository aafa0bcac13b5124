-- Bodies of functions: those of a plain program break no rule, and those that break none and are runnable are those of a plain program.
use Rattle.std.proofs.Common.{◌≡◌, ℕ, true, false, ◌&&◌, ◌||◌, List, [], ◌∷◌, ◌++◌, Some, None, refl, sym, ap, ◌∙◌, subst}
use Rattle.std.specs.Prelude.{map, filter, is_some, if◌then◌else◌}
use Rattle.std.specs.List.{list_all, list_any}
use Rattle.std.specs.Cmp.Lexicographic.{bytes_decides}
use Rattle.std.proofs.lemmas.Bool.{and_from, and_parts}
use Rattle.std.proofs.lemmas.List.{append-nil}
use Rattle.scheme_data.specs.Names.{are_distinct, is_same}
use Rattle.c_tree.specs.declared.tree.CTy.{CTy}
use Rattle.c_tree.specs.declared.tree.CTy.TheVariants.{Obj, Int}
use Rattle.c_tree.specs.declared.tree.CVar.{CVar}
use Rattle.c_tree.specs.Code.{Code, done, assign, call, return, test, loop, ended, goto, catch, protect, Fun, defined}
use Rattle.c_meaning.specs.declared.breach.BadCause.{BadCause}
use Rattle.c_meaning.specs.declared.breach.BadCause.TheVariants.{Shape, Label}
use Rattle.c_meaning.specs.Plain.{Signature, signature_of, signature_named, same_type, same_types, code_fits, returns_last, variables_of, is_looped, Role, Main, Maker, Initializer, Entry, Function, takes_nothing, head_fits, is_straight as straight_fits, has_shape, callable, is_called_once, once_in}
use Rattle.c_meaning.specs.Runnable.{is_straight, is_runnable_code, is_local}
use Rattle.c_meaning.specs.Breaches.{unless, Within, Scope, variable_type, name_breaches, callee_breaches, expr_breaches, may_return, calls_in, after_expr, behind, code_breaches, is_complete, room_of}
use Rattle.c_meaning.specs.Checked.{names_of_vars, used_in}
use Rattle.c_meaning.proofs.Tests.{and_true, and_false, is_none, none_both, all_within, all_at}
use Rattle.c_meaning.proofs.CodeBreaches.{may_all, free, code_none}
use Rattle.c_meaning.proofs.CodePlain.{code_found, calls_found, code_runs, code_uses, once_code}
use Rattle.c_meaning.proofs.Roles.{may, steady_calls, is_main_role, is_entry_role, main_calls_at}
use Rattle.c_meaning.proofs.Heads.{same_type_is, no_params, SameFound, may_and_defined, callable_found}

-- Forms -------------------------------------------------------------------------------------

-- what ends with `return` is no loop
runnable_straight : (c : Code) → is_runnable_code c ≡ true → returns_last c ≡ true → is_straight c ≡ true
runnable_straight done h r = h
runnable_straight (assign x e rest) h r = h
runnable_straight (call c rest) h r = h
runnable_straight (return e rest) h r = h
runnable_straight (test e a b rest) h r = h
runnable_straight (loop l body done) h r = absurd (cc)
runnable_straight (loop l body (assign x e rest)) h r = absurd (cc)
runnable_straight (loop l body (call c rest)) h r = absurd (cc)
runnable_straight (loop l body (return e rest)) h r = absurd (cc)
runnable_straight (loop l body (test e a b rest)) h r = absurd (cc)
runnable_straight (loop l body (loop m c rest)) h r = absurd (cc)
runnable_straight (loop l body (ended c m rest)) h r = absurd (cc)
runnable_straight (loop l body (goto m rest)) h r = absurd (cc)
runnable_straight (loop l body (catch k m c rest)) h r = absurd (cc)
runnable_straight (loop l body (protect a b rest)) h r = absurd (cc)
runnable_straight (ended c m rest) h r = absurd (cc)
runnable_straight (goto m rest) h r = absurd (cc)
runnable_straight (catch k m c rest) h r = absurd (cc)
runnable_straight (protect a b rest) h r = absurd (cc)

straight_runnable : (c : Code) → is_straight c ≡ true → is_runnable_code c ≡ true
straight_runnable done h = h
straight_runnable (assign x e rest) h = h
straight_runnable (call c rest) h = h
straight_runnable (return e rest) h = h
straight_runnable (test e a b rest) h = h
straight_runnable (loop l body rest) h = absurd (cc)
straight_runnable (ended c m rest) h = absurd (cc)
straight_runnable (goto m rest) h = absurd (cc)
straight_runnable (catch k m c rest) h = absurd (cc)
straight_runnable (protect a b rest) h = absurd (cc)

-- statements are one loop
record IsLoop (c : Code) : Type 0 where
  label : List ℕ
  body : Code
  is : c ≡ loop label body done

looped_loop : (sigs : List Signature) (vars : List CVar) (t : CTy) (c : Code) → is_looped sigs vars t c ≡ true → IsLoop c
looped_loop sigs vars t (loop l body done) h = record { label = l; body = body; is = refl }
looped_loop sigs vars t done h = absurd (cc)
looped_loop sigs vars t (assign x e rest) h = absurd (cc)
looped_loop sigs vars t (call c rest) h = absurd (cc)
looped_loop sigs vars t (return e rest) h = absurd (cc)
looped_loop sigs vars t (test e a b rest) h = absurd (cc)
looped_loop sigs vars t (ended c m rest) h = absurd (cc)
looped_loop sigs vars t (goto m rest) h = absurd (cc)
looped_loop sigs vars t (catch k m c rest) h = absurd (cc)
looped_loop sigs vars t (protect a b rest) h = absurd (cc)
looped_loop sigs vars t (loop l body (assign x e rest)) h = absurd (cc)
looped_loop sigs vars t (loop l body (call c rest)) h = absurd (cc)
looped_loop sigs vars t (loop l body (return e rest)) h = absurd (cc)
looped_loop sigs vars t (loop l body (test e a b rest)) h = absurd (cc)
looped_loop sigs vars t (loop l body (loop m c rest)) h = absurd (cc)
looped_loop sigs vars t (loop l body (ended c m rest)) h = absurd (cc)
looped_loop sigs vars t (loop l body (goto m rest)) h = absurd (cc)
looped_loop sigs vars t (loop l body (catch k m c rest)) h = absurd (cc)
looped_loop sigs vars t (loop l body (protect a b rest)) h = absurd (cc)

-- where a loop alone may stand
misplaced : (cause : BadCause) (xs ys : List BadCause) → is_none ((xs ++ cause ∷ []) ++ ys) ≡ false
misplaced cause xs ys =
    none_both (xs ++ cause ∷ []) ys
    ∙ ap (λ b. b && is_none ys) (none_both xs (cause ∷ []) ∙ and_false (is_none xs))

abbrev pub looping : CTy → List Signature → List CVar → Scope
looping result functions vars = record {
  role = Function;
  result = result;
  functions = functions;
  globals = [];
  variables = vars;
  labels = [];
  called = [];
  blocks = [];
  room = room_of Function;
}

checked_loop : (result : CTy) (functions : List Signature) (vars : List CVar) (c : Code) → is_runnable_code c ≡ true → is_complete Function c ≡ true → is_none (code_breaches (looping result functions vars) c) ≡ true → IsLoop c
checked_loop result functions vars (loop l body done) h k n = record { label = l; body = body; is = refl }
checked_loop result functions vars done h k n = absurd (cc)
checked_loop result functions vars (assign x e rest) h k n =
    let s = looping result functions vars in
    absurd (let q : false ≡ true = sym (misplaced Shape (name_breaches None (variable_type s x)) (expr_breaches s (variable_type s x) e ++ code_breaches (behind (after_expr e s)) rest)) ∙ n in cc)
checked_loop result functions vars (call c rest) h k n =
    let s = looping result functions vars in
    absurd (let q : false ≡ true = sym (misplaced Shape (callee_breaches s None c.callee) _) ∙ n in cc)
checked_loop result functions vars (return e rest) h k n =
    let s = looping result functions vars in
    absurd (let q : false ≡ true = sym (misplaced Shape (unless Label (may_return [])) (expr_breaches s (Some result) e ++ code_breaches (behind (after_expr e s)) rest)) ∙ n in cc)
checked_loop result functions vars (test e a b rest) h k n = absurd (cc)
checked_loop result functions vars (ended c m rest) h k n = absurd (cc)
checked_loop result functions vars (goto m rest) h k n = absurd (cc)
checked_loop result functions vars (catch x m c rest) h k n = absurd (cc)
checked_loop result functions vars (protect a b rest) h k n = absurd (cc)
checked_loop result functions vars (loop l body (assign x e rest)) h k n = absurd (cc)
checked_loop result functions vars (loop l body (call c rest)) h k n = absurd (cc)
checked_loop result functions vars (loop l body (return e rest)) h k n = absurd (cc)
checked_loop result functions vars (loop l body (test e a b rest)) h k n = absurd (cc)
checked_loop result functions vars (loop l body (loop m c rest)) h k n = absurd (cc)
checked_loop result functions vars (loop l body (ended c m rest)) h k n = absurd (cc)
checked_loop result functions vars (loop l body (goto m rest)) h k n = absurd (cc)
checked_loop result functions vars (loop l body (catch x m c rest)) h k n = absurd (cc)
checked_loop result functions vars (loop l body (protect a b rest)) h k n = absurd (cc)

-- Variables ---------------------------------------------------------------------------------

-- a name that no local has
abbrev pub IsApart : List ℕ → Type 0
IsApart n = (v : CVar) → is_local v ≡ true → is_same n v.name ≡ false

pub apart_of : (n : List ℕ) → IsApart n → (vs : List CVar) → list_all is_local vs ≡ true → list_any (is_same n) (names_of_vars vs) ≡ false
apart_of n apart [] h = refl
apart_of n apart (v ∷ vs) h =
    let p = and_parts (is_local v) (list_all is_local vs) h in
    ap (λ b. b || list_any (is_same n) (names_of_vars vs)) (apart v p.0) ∙ apart_of n apart vs p.1

-- a name that is used is called, and may be
pub record Uses (role : Role) (names : List (List ℕ)) (n : List ℕ) (c : Code) : Type 0 where
  pub called : list_any (is_same n) (calls_in c) ≡ true
  pub may_be : may_and_defined role names n ≡ true

-- One function ------------------------------------------------------------------------------

module _ (names : List (List ℕ)) (sigs functions : List Signature) (f : Fun) (same : SameFound (signature_of (defined f) ∷ sigs) (functions ++ signature_of (defined f) ∷ [])) where
  abbrev more : List Signature
  more = functions ++ signature_of (defined f) ∷ []

  abbrev fewer : Role → List Signature
  fewer role = callable role names (signature_of (defined f) ∷ sigs)

  found : (role : Role) (n : List ℕ) → signature_named (fewer role) n ≡ (if may_and_defined role names n then signature_named more n else None)
  found role n = callable_found role names (signature_of (defined f) ∷ sigs) n ∙ ap (λ o. if may_and_defined role names n then o else None) (same n)

  -- types and calls
  record Fits (role : Role) (vars : List CVar) (t : CTy) (c : Code) : Type 0 where
    types : code_fits more vars t c ≡ true
    calls : list_all (may_and_defined role names) (calls_in c) ≡ true
    straight : is_straight c ≡ true

  fits : (role : Role) (vars : List CVar) (t : CTy) (c : Code) → code_fits (fewer role) vars t c ≡ true → Fits role vars t c
  fits role vars t c h =
      let p = and_parts (code_fits more vars t c) (list_all (may_and_defined role names) (calls_in c)) (sym (code_found (fewer role) more (may_and_defined role names) (found role) vars t c) ∙ h) in
      record { types = p.0; calls = p.1; straight = code_runs (fewer role) vars t c h }

  may_those : (role : Role) (ns : List (List ℕ)) → list_all (may_and_defined role names) ns ≡ true → list_all (may role) ns ≡ true
  may_those role ns h = all_within (may_and_defined role names) (may role) ns h (λ n e m. (and_parts (may role n) (list_any (is_same n) names) e).0)

  -- statements of a plain program
  code_checked : (role : Role) (vars : List CVar) (t : CTy) (labels : List (List ℕ)) (l : List ℕ) (c : Code) → Fits role vars t c → (list_all (may role) (calls_in c) ≡ true → may_all role [] (calls_in c) ≡ true)
      → (is_none (code_breaches (free role t more vars labels [] []) c) ≡ true) × (is_none (code_breaches (free role t more vars labels [] (Within l ∷ [])) c) ≡ true)
  code_checked role vars t labels l c h go =
      let both = and_from (code_fits more vars t c) (may_all role [] (calls_in c)) h.types (go (may_those role (calls_in c) h.calls)) in
      (code_none role t more vars labels [] [] refl c h.straight ∙ both, code_none role t more vars labels [] (Within l ∷ []) refl c h.straight ∙ both)

  -- what is known of statements that break no rule
  record Kept (role : Role) (vars : List CVar) (t : CTy) (c : Code) : Type 0 where
    types : code_fits more vars t c ≡ true
    may_be : may_all role [] (calls_in c) ≡ true

  -- where what is called is defined, they are those of a plain program
  code_plain : (role : Role) (vars : List CVar) (t : CTy) (c : Code) → Kept role vars t c → (may_all role [] (calls_in c) ≡ true → list_all (may role) (calls_in c) ≡ true)
      → ((n : List ℕ) → is_some (signature_named more n) ≡ true → list_any (is_same n) (calls_in c) ≡ true → list_any (is_same n) names ≡ true) → code_fits (fewer role) vars t c ≡ true
  code_plain role vars t c h go wants =
      let allowed = go h.may_be in
      let there = calls_found more vars t c h.types in
      let ones = all_within (λ n. is_some (signature_named more n)) (λ n. list_any (is_same n) names) (calls_in c) there wants in
      let both = all_within (λ n. list_any (is_same n) names) (may_and_defined role names) (calls_in c) ones
      (λ n e m. and_from (may role n) (list_any (is_same n) names) (all_at (may role) n (calls_in c) allowed m (λ k q. ap (may role) (sym ((bytes_decides n k).0 q)))) e) in
      code_found (fewer role) more (may_and_defined role names) (found role) vars t c ∙ and_from (code_fits more vars t c) (list_all (may_and_defined role names) (calls_in c)) h.types both

  uses : (role : Role) (vars : List CVar) (t : CTy) (c : Code) (n : List ℕ) → list_any (is_same n) (names_of_vars vars) ≡ false → Fits role vars t c → list_any (is_same n) (used_in c) ≡ true → Uses role names n c
  uses role vars t c n apart h used =
      let called = sym (code_uses more vars n apart t c h.types) ∙ used in
      record { called = called; may_be = all_at (may_and_defined role names) n (calls_in c) h.calls called (λ k q. ap (may_and_defined role names) (sym ((bytes_decides n k).0 q))) }

  -- Functions without a loop ----------------------------------------------------------------

  abbrev types : List CTy
  types = map (λ v. v.ty) f.params

  -- no parameters, and this result
  record Straight (t : CTy) : Type 0 where
    params : f.params ≡ []
    result : f.result ≡ t

  straight_of : (t : CTy) → takes_nothing t f.result types ≡ true → Straight t
  straight_of t h =
      let p = and_parts (same_type f.result t) (same_types types []) h in
      record { params = no_params f.params p.1; result = same_type_is f.result t p.0 }

  -- the types by all variables and the result, or by the locals alone
  same_fits : (t : CTy) (sigs : List Signature) → Straight t → code_fits sigs (variables_of f) f.result f.code ≡ code_fits sigs f.locals t f.code
  same_fits t sigs s i = code_fits sigs (s.params i ++ f.locals) (s.result i) f.code

  abbrev scope : Role → Scope
  scope role = free role f.result more (variables_of f) [] [] []

  straight_checked : (role : Role) (t : CTy) → straight_fits (fewer role) t f ≡ true → (list_all (may role) (calls_in f.code) ≡ true → may_all role [] (calls_in f.code) ≡ true) → (is_none (code_breaches (scope role) f.code) && returns_last f.code) ≡ true
  straight_checked role t h go =
      let p = and_parts (takes_nothing t f.result types) (code_fits (fewer role) f.locals t f.code && returns_last f.code) h in
      let q = and_parts (code_fits (fewer role) f.locals t f.code) (returns_last f.code) p.1 in
      let fit = fits role (variables_of f) f.result f.code (same_fits t (fewer role) (straight_of t p.0) ∙ q.0) in
      and_from (is_none (code_breaches (scope role) f.code)) (returns_last f.code) (code_checked role (variables_of f) f.result [] [] f.code fit go).0 q.1

  straight_kept : (role : Role) → is_runnable_code f.code ≡ true → (is_none (code_breaches (scope role) f.code) && returns_last f.code) ≡ true → Kept role (variables_of f) f.result f.code
  straight_kept role runs h =
      let p = and_parts (is_none (code_breaches (scope role) f.code)) (returns_last f.code) h in
      let straight = runnable_straight f.code runs p.1 in
      let q = and_parts (code_fits more (variables_of f) f.result f.code) (may_all role [] (calls_in f.code)) (sym (code_none role f.result more (variables_of f) [] [] [] refl f.code straight) ∙ p.0) in
      record { types = q.0; may_be = q.1 }

  abbrev Wanted : Code → Type 0
  Wanted c = (n : List ℕ) → is_some (signature_named more n) ≡ true → list_any (is_same n) (calls_in c) ≡ true → list_any (is_same n) names ≡ true

  straight_plain : (role : Role) (t : CTy) → takes_nothing t f.result types ≡ true → is_runnable_code f.code ≡ true → (is_none (code_breaches (scope role) f.code) && returns_last f.code) ≡ true → Wanted f.code
      → (may_all role [] (calls_in f.code) ≡ true → list_all (may role) (calls_in f.code) ≡ true) → straight_fits (fewer role) t f ≡ true
  straight_plain role t head runs h wants go =
      let p = and_parts (is_none (code_breaches (scope role) f.code)) (returns_last f.code) h in
      let all = code_plain role (variables_of f) f.result f.code (straight_kept role runs h) go wants in
      and_from (takes_nothing t f.result types) (code_fits (fewer role) f.locals t f.code && returns_last f.code) head
      (and_from (code_fits (fewer role) f.locals t f.code) (returns_last f.code) (sym (same_fits t (fewer role) (straight_of t head)) ∙ all) p.1)

  straight_uses : (role : Role) (t : CTy) (n : List ℕ) → straight_fits (fewer role) t f ≡ true → list_any (is_same n) (names_of_vars (variables_of f)) ≡ false → list_any (is_same n) (used_in f.code) ≡ true → Uses role names n f.code
  straight_uses role t n h apart used =
      let p = and_parts (takes_nothing t f.result types) (code_fits (fewer role) f.locals t f.code && returns_last f.code) h in
      let q = and_parts (code_fits (fewer role) f.locals t f.code) (returns_last f.code) p.1 in
      uses role (variables_of f) f.result f.code n apart (fits role (variables_of f) f.result f.code (same_fits t (fewer role) (straight_of t p.0) ∙ q.0)) used

  straight_runs : (role : Role) (t : CTy) → straight_fits (fewer role) t f ≡ true → is_runnable_code f.code ≡ true
  straight_runs role t h =
      let p = and_parts (takes_nothing t f.result types) (code_fits (fewer role) f.locals t f.code && returns_last f.code) h in
      straight_runnable f.code (code_runs (fewer role) f.locals t f.code (and_parts (code_fits (fewer role) f.locals t f.code) (returns_last f.code) p.1).0)

  -- Functions of modules --------------------------------------------------------------------

  abbrev vars : List CVar
  vars = variables_of f

  -- the breaches of one loop are those of its block
  loop_none : (l : List ℕ) (body : Code) → is_none (code_breaches (looping f.result more vars) (loop l body done)) ≡ is_none (code_breaches (free Function f.result more vars (l ∷ []) [] (Within l ∷ [])) body)
  loop_none l body = let inner = code_breaches (free Function f.result more vars (l ∷ []) [] (Within l ∷ [])) body in none_both inner [] ∙ and_true (is_none inner)

  looped_checked : (c : Code) → is_looped (fewer Function) vars f.result c ≡ true → (is_none (code_breaches (looping f.result more vars) c) && is_complete Function c) ≡ true
  looped_checked c h =
      let l = looped_loop (fewer Function) vars f.result c h in
      subst (λ (d : Code). (is_none (code_breaches (looping f.result more vars) d) && is_complete Function d) ≡ true) (sym l.is)
      (inner l.label l.body (subst (λ (d : Code). is_looped (fewer Function) vars f.result d ≡ true) l.is h))
    where
      inner : (l : List ℕ) (body : Code) → code_fits (fewer Function) vars f.result body ≡ true → (is_none (code_breaches (looping f.result more vars) (loop l body done)) && true) ≡ true
      inner l body k =
          and_true (is_none (code_breaches (looping f.result more vars) (loop l body done)))
          ∙ loop_none l body
          ∙ (code_checked Function vars f.result (l ∷ []) l body (fits Function vars f.result body k) (λ e. steady_calls Function [] (calls_in body) refl ∙ e)).1

  looped_plain : (c : Code) → is_runnable_code c ≡ true → (is_none (code_breaches (looping f.result more vars) c) && is_complete Function c) ≡ true → Wanted c → is_looped (fewer Function) vars f.result c ≡ true
  looped_plain c runs h wants =
      let p = and_parts (is_none (code_breaches (looping f.result more vars) c)) (is_complete Function c) h in
      let l = checked_loop f.result more vars c runs p.1 p.0 in
      subst (λ (d : Code). is_looped (fewer Function) vars f.result d ≡ true) (sym l.is)
      (inner l.label l.body (subst (λ (d : Code). is_runnable_code d ≡ true) l.is runs) (subst (λ (d : Code). is_none (code_breaches (looping f.result more vars) d) ≡ true) l.is p.0) (subst Wanted l.is wants))
    where
      inner : (l : List ℕ) (body : Code) → is_straight body ≡ true → is_none (code_breaches (looping f.result more vars) (loop l body done)) ≡ true → Wanted (loop l body done) → code_fits (fewer Function) vars f.result body ≡ true
      inner l body straight k all =
          let q = and_parts (code_fits more vars f.result body) (may_all Function [] (calls_in body)) (sym (code_none Function f.result more vars (l ∷ []) [] (Within l ∷ []) refl body straight) ∙ sym (loop_none l body) ∙ k) in
          code_plain Function vars f.result body (record { types = q.0; may_be = q.1 }) (λ e. sym (steady_calls Function [] (calls_in body) refl) ∙ e)
          (λ n e m. all n e (ap (list_any (is_same n)) (append-nil (calls_in body)) ∙ m))

  looped_uses : (c : Code) (n : List ℕ) → is_looped (fewer Function) vars f.result c ≡ true → list_any (is_same n) (names_of_vars vars) ≡ false → list_any (is_same n) (used_in c) ≡ true → Uses Function names n c
  looped_uses c n h apart used =
      let l = looped_loop (fewer Function) vars f.result c h in
      subst (Uses Function names n) (sym l.is) (inner l.label l.body (subst (λ (d : Code). is_looped (fewer Function) vars f.result d ≡ true) l.is h) (subst (λ (d : Code). list_any (is_same n) (used_in d) ≡ true) l.is used))
    where
      inner : (l : List ℕ) (body : Code) → code_fits (fewer Function) vars f.result body ≡ true → list_any (is_same n) (used_in (loop l body done)) ≡ true → Uses Function names n (loop l body done)
      inner l body k m =
          let u = uses Function vars f.result body n apart (fits Function vars f.result body k) (sym (ap (list_any (is_same n)) (append-nil (used_in body))) ∙ m) in
          record { called = ap (list_any (is_same n)) (append-nil (calls_in body)) ∙ u.called; may_be = u.may_be }

  looped_runs : (c : Code) → is_looped (fewer Function) vars f.result c ≡ true → is_runnable_code c ≡ true
  looped_runs c h =
      let l = looped_loop (fewer Function) vars f.result c h in
      subst (λ (d : Code). is_runnable_code d ≡ true) (sym l.is) (code_runs (fewer Function) vars f.result l.body (subst (λ (d : Code). is_looped (fewer Function) vars f.result d ≡ true) l.is h))

  -- By the role -----------------------------------------------------------------------------

  abbrev pub scope_of : Role → Scope
  scope_of role = record {
    role = role;
    result = f.result;
    functions = more;
    globals = [];
    variables = vars;
    labels = [];
    called = [];
    blocks = [];
    room = room_of role;
  }

  main_may : are_distinct (once_in f.code) ≡ true → list_all (may Main) (calls_in f.code) ≡ true → may_all Main [] (calls_in f.code) ≡ true
  main_may distinct h = main_calls_at (calls_in f.code) ∙ and_from (list_all (may Main) (calls_in f.code)) (are_distinct (filter is_called_once (calls_in f.code))) h (ap are_distinct (sym (once_code f.code)) ∙ distinct)

  main_parts : may_all Main [] (calls_in f.code) ≡ true → (list_all (may Main) (calls_in f.code) ≡ true) × (are_distinct (once_in f.code) ≡ true)
  main_parts h =
      let p = and_parts (list_all (may Main) (calls_in f.code)) (are_distinct (filter is_called_once (calls_in f.code))) (sym (main_calls_at (calls_in f.code)) ∙ h) in
      (p.0, ap are_distinct (once_code f.code) ∙ p.1)

  pub body_checked : (role : Role) → has_shape (fewer role) role f ≡ true → (is_main_role role ≡ true → are_distinct (once_in f.code) ≡ true) → (is_none (code_breaches (scope_of role) f.code) && is_complete role f.code) ≡ true
  body_checked Main h distinct = straight_checked Main Int h (main_may (distinct refl))
  body_checked Maker h distinct = straight_checked Maker Obj h (λ e. steady_calls Maker [] (calls_in f.code) refl ∙ e)
  body_checked Initializer h distinct = straight_checked Initializer Obj h (λ e. steady_calls Initializer [] (calls_in f.code) refl ∙ e)
  body_checked Entry h distinct = absurd (cc)
  body_checked Function h distinct = looped_checked f.code h

  pub body_plain : (role : Role) → is_entry_role role ≡ false → head_fits role f.result types ≡ true → is_runnable_code f.code ≡ true → (is_none (code_breaches (scope_of role) f.code) && is_complete role f.code) ≡ true → Wanted f.code → has_shape (fewer role) role f ≡ true
  body_plain Main e head runs h wants = straight_plain Main Int head runs h wants (λ k. (main_parts k).0)
  body_plain Maker e head runs h wants = straight_plain Maker Obj head runs h wants (λ k. sym (steady_calls Maker [] (calls_in f.code) refl) ∙ k)
  body_plain Initializer e head runs h wants = straight_plain Initializer Obj head runs h wants (λ k. sym (steady_calls Initializer [] (calls_in f.code) refl) ∙ k)
  body_plain Entry e head runs h wants = absurd (cc)
  body_plain Function e head runs h wants = looped_plain f.code runs h wants

  pub body_distinct : (role : Role) → is_runnable_code f.code ≡ true → (is_none (code_breaches (scope_of role) f.code) && is_complete role f.code) ≡ true → is_main_role role ≡ true → are_distinct (once_in f.code) ≡ true
  body_distinct Main runs h e = (main_parts (straight_kept Main runs h).may_be).1
  body_distinct Maker runs h e = absurd (cc)
  body_distinct Initializer runs h e = absurd (cc)
  body_distinct Entry runs h e = absurd (cc)
  body_distinct Function runs h e = absurd (cc)

  pub body_head : (role : Role) → has_shape (fewer role) role f ≡ true → head_fits role f.result types ≡ true
  body_head Main h = (and_parts (takes_nothing Int f.result types) (code_fits (fewer Main) f.locals Int f.code && returns_last f.code) h).0
  body_head Maker h = (and_parts (takes_nothing Obj f.result types) (code_fits (fewer Maker) f.locals Obj f.code && returns_last f.code) h).0
  body_head Initializer h = (and_parts (takes_nothing Obj f.result types) (code_fits (fewer Initializer) f.locals Obj f.code && returns_last f.code) h).0
  body_head Entry h = h
  body_head Function h = refl

  pub body_runs : (role : Role) → has_shape (fewer role) role f ≡ true → is_runnable_code f.code ≡ true
  body_runs Main h = straight_runs Main Int h
  body_runs Maker h = straight_runs Maker Obj h
  body_runs Initializer h = straight_runs Initializer Obj h
  body_runs Entry h = absurd (cc)
  body_runs Function h = looped_runs f.code h

  pub body_uses : (role : Role) (n : List ℕ) → has_shape (fewer role) role f ≡ true → list_any (is_same n) (names_of_vars vars) ≡ false → list_any (is_same n) (used_in f.code) ≡ true → Uses role names n f.code
  body_uses Main n h apart used = straight_uses Main Int n h apart used
  body_uses Maker n h apart used = straight_uses Maker Obj n h apart used
  body_uses Initializer n h apart used = straight_uses Initializer Obj n h apart used
  body_uses Entry n h apart used = absurd (cc)
  body_uses Function n h apart used = looped_uses f.code n h apart used
