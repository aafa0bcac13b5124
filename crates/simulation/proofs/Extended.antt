-- A function whose calls are typed stays typed where more functions can be called.
use Rattle.std.proofs.Common.{◌≡◌, List, [], ◌∷◌, ◌++◌, Bool, true, false, Option, Some, None, refl, sym, ap, ◌∙◌}
use Rattle.std.specs.Prelude.{find, filter, map, ◌&&◌, if◌then◌else◌}
use Rattle.std.specs.List.{list_any}
use Rattle.std.specs.Option.{option_or}
use Rattle.std.proofs.lemmas.Bool.{and_from, and_parts}
use Rattle.std.proofs.lemmas.List.Folds.{find-append}
use Rattle.std.specs.Cmp.Lexicographic.{bytes_decides}
use Rattle.scheme_data.specs.Names.{are_distinct, is_same}
use Rattle.c_tree.specs.declared.tree.CTy.{CTy}
use Rattle.c_tree.specs.declared.tree.CTy.TheVariants.{Obj, Int}
use Rattle.c_tree.specs.declared.tree.CArg.{CArg}
use Rattle.c_tree.specs.declared.tree.Callee.{Callee}
use Rattle.c_tree.specs.declared.tree.Callee.TheVariants as callee
use Rattle.c_tree.specs.declared.tree.CExpr.{CExpr}
use Rattle.c_tree.specs.declared.tree.CExpr.TheVariants as expr
use Rattle.c_tree.specs.declared.tree.CVar.{CVar}
use Rattle.c_tree.specs.Code.{Code, done, assign, call, return, test, loop, ended, goto, catch, protect, Fun, Item, external, global, declared, defined}
use Rattle.c_meaning.specs.Plain.{Signature, signature_named, variable_named, call_fits_signature, call_type, is_the_type, has_type, expr_fits, assigned_fits, code_fits, returns_last, variables_of, is_looped, Role, Main, Maker, Initializer, Entry, Function, role_of, same_type, same_types, is_straight, has_shape, function_fits, may_call, callable, item_fits}
use Rattle.plan_rules.specs.Translation.{Name}

-- what is found among the fewer is found among the more
unfoldable Extends : List Signature → List Signature → Type 0
Extends fewer more = (n : Name) (s : Signature) → signature_named fewer n ≡ Some s → signature_named more n ≡ Some s

both : (x y x1 y1 : Bool) → (x ≡ true → x1 ≡ true) → (y ≡ true → y1 ≡ true) → (x && y) ≡ true → (x1 && y1) ≡ true
both x y x1 y1 first second e = let parts = and_parts x y e in and_from x1 y1 (first parts.0) (second parts.1)

-- Statements --------------------------------------------------------------------------------

module _ (fewer more : List Signature) (extends : Extends fewer more) (vars : List CVar) where
  call_kept : (strict : Option CTy → Bool) → strict None ≡ false → (c : Callee) (args : List CArg) → strict (call_type fewer vars c args) ≡ true → strict (call_type more vars c args) ≡ true
  unfolding Extends
  call_kept strict not_none (callee.Op op) args e = e
  call_kept strict not_none (callee.Fun name) args e = go (signature_named fewer name) refl e
    where
      go : (o : Option Signature) → signature_named fewer name ≡ o → strict (call_fits_signature vars o args) ≡ true → strict (call_fits_signature vars (signature_named more name) args) ≡ true
      go None q e1 = absurd (let bad : false ≡ true = sym not_none ∙ e1 in cc)
      go (Some s) q e1 = ap (λ o. strict (call_fits_signature vars o args)) (extends name s q) ∙ e1

  expr_kept : (e : CExpr) (t : CTy) → expr_fits fewer vars e t ≡ true → expr_fits more vars e t ≡ true
  expr_kept (expr.Atom a) t h = h
  expr_kept (expr.Call c) t h = call_kept (is_the_type t) refl c.callee c.args h

  assigned_kept : (e : CExpr) (v : Option CVar) → assigned_fits fewer vars e v ≡ true → assigned_fits more vars e v ≡ true
  assigned_kept e None h = absurd (cc)
  assigned_kept e (Some v) h = expr_kept e v.ty h

  code_kept : (result : CTy) (c : Code) → code_fits fewer vars result c ≡ true → code_fits more vars result c ≡ true
  code_kept result done h = refl
  code_kept result (assign x e rest) h =
      both (assigned_fits fewer vars e (variable_named vars x)) (code_fits fewer vars result rest) (assigned_fits more vars e (variable_named vars x)) (code_fits more vars result rest)
      (assigned_kept e (variable_named vars x)) (λ q. code_kept result rest q) h
  code_kept result (call c rest) h =
      both (has_type (call_type fewer vars c.callee c.args)) (code_fits fewer vars result rest) (has_type (call_type more vars c.callee c.args)) (code_fits more vars result rest)
      (call_kept has_type refl c.callee c.args) (λ q. code_kept result rest q) h
  code_kept result (return e rest) h =
      both (expr_fits fewer vars e result) (code_fits fewer vars result rest) (expr_fits more vars e result) (code_fits more vars result rest)
      (expr_kept e result) (λ q. code_kept result rest q) h
  code_kept result (test e a b rest) h =
      let parts = and_parts (expr_fits fewer vars e Int) (code_fits fewer vars result a && (code_fits fewer vars result b && code_fits fewer vars result rest)) h in
      let others = and_parts (code_fits fewer vars result a) (code_fits fewer vars result b && code_fits fewer vars result rest) parts.1 in
      let last = and_parts (code_fits fewer vars result b) (code_fits fewer vars result rest) others.1 in
      and_from (expr_fits more vars e Int) (code_fits more vars result a && (code_fits more vars result b && code_fits more vars result rest)) (expr_kept e Int parts.0)
      (and_from (code_fits more vars result a) (code_fits more vars result b && code_fits more vars result rest) (code_kept result a others.0)
      (and_from (code_fits more vars result b) (code_fits more vars result rest) (code_kept result b last.0) (code_kept result rest last.1)))
  code_kept result (loop l body rest) h = absurd (cc)
  code_kept result (ended body l rest) h = absurd (cc)
  code_kept result (goto l rest) h = absurd (cc)
  code_kept result (catch k r body rest) h = absurd (cc)
  code_kept result (protect a b rest) h = absurd (cc)

  looped_kept : (result : CTy) (c : Code) → is_looped fewer vars result c ≡ true → is_looped more vars result c ≡ true
  looped_kept result (loop l body done) h = code_kept result body h
  looped_kept result (loop l body (assign x e rest)) h = absurd (cc)
  looped_kept result (loop l body (call c rest)) h = absurd (cc)
  looped_kept result (loop l body (return e rest)) h = absurd (cc)
  looped_kept result (loop l body (test e a b rest)) h = absurd (cc)
  looped_kept result (loop l body (loop k c rest)) h = absurd (cc)
  looped_kept result (loop l body (ended c k rest)) h = absurd (cc)
  looped_kept result (loop l body (goto k rest)) h = absurd (cc)
  looped_kept result (loop l body (catch k r c rest)) h = absurd (cc)
  looped_kept result (loop l body (protect a b rest)) h = absurd (cc)
  looped_kept result done h = absurd (cc)
  looped_kept result (assign x e rest) h = absurd (cc)
  looped_kept result (call c rest) h = absurd (cc)
  looped_kept result (return e rest) h = absurd (cc)
  looped_kept result (test e a b rest) h = absurd (cc)
  looped_kept result (ended body l rest) h = absurd (cc)
  looped_kept result (goto l rest) h = absurd (cc)
  looped_kept result (catch k r body rest) h = absurd (cc)
  looped_kept result (protect a b rest) h = absurd (cc)

-- Functions ---------------------------------------------------------------------------------

straight_kept : (fewer more : List Signature) → Extends fewer more → (t : CTy) (f : Fun) → is_straight fewer t f ≡ true → is_straight more t f ≡ true
straight_kept fewer more extends t f h =
    let shape = same_type f.result t && same_types (map (λ v. v.ty) f.params) [] in
    both shape (code_fits fewer f.locals t f.code && returns_last f.code) shape (code_fits more f.locals t f.code && returns_last f.code) (λ q. q)
    (both (code_fits fewer f.locals t f.code) (returns_last f.code) (code_fits more f.locals t f.code) (returns_last f.code) (code_kept fewer more extends f.locals t f.code) (λ q. q)) h

shape_kept : (fewer more : List Signature) → Extends fewer more → (role : Role) (f : Fun) → has_shape fewer role f ≡ true → has_shape more role f ≡ true
shape_kept fewer more extends Main f h = straight_kept fewer more extends Int f h
shape_kept fewer more extends Maker f h = straight_kept fewer more extends Obj f h
shape_kept fewer more extends Initializer f h = straight_kept fewer more extends Obj f h
shape_kept fewer more extends Entry f h = absurd (cc)
shape_kept fewer more extends Function f h = looped_kept fewer more extends (variables_of f) f.result f.code h

function_kept : (fewer more : List Signature) → Extends fewer more → (f : Fun) → function_fits fewer f ≡ true → function_fits more f ≡ true
function_kept fewer more extends f h =
    let named = are_distinct (map (λ v. v.name) (variables_of f)) in
    both named (has_shape fewer (role_of f.name) f) named (has_shape more (role_of f.name) f) (λ q. q) (shape_kept fewer more extends (role_of f.name) f) h

-- What can be called ------------------------------------------------------------------------

find_kept : {X : Type 0} (p q : X → Bool) → ((x : X) → p x ≡ true → q x ≡ true) → (xs : List X) → find p (filter q xs) ≡ find p xs
find_kept p q so [] = refl
find_kept p q so (x ∷ xs) = go (p x) (q x) refl refl (find_kept p q so xs)
  where
    go : (a b : Bool) → p x ≡ a → q x ≡ b → find p (filter q xs) ≡ find p xs → find p (if b then x ∷ filter q xs else filter q xs) ≡ (if a then Some x else find p xs)
    go true true ea eb later = ap (λ z. if z then Some x else find p (filter q xs)) ea
    go true false ea eb later = absurd (let bad : false ≡ true = sym eb ∙ so x ea in cc)
    go false true ea eb later = ap (λ z. if z then Some x else find p (filter q xs)) ea ∙ later
    go false false ea eb later = later

find_none : {X : Type 0} (p q : X → Bool) → ((x : X) → p x ≡ true → q x ≡ false) → (xs : List X) → find p (filter q xs) ≡ None
find_none p q so [] = refl
find_none p q so (x ∷ xs) = go (p x) (q x) refl refl (find_none p q so xs)
  where
    go : (a b : Bool) → p x ≡ a → q x ≡ b → find p (filter q xs) ≡ None → find p (if b then x ∷ filter q xs else filter q xs) ≡ None
    go true true ea eb later = absurd (let bad : true ≡ false = sym eb ∙ so x ea in cc)
    go false true ea eb later = ap (λ z. if z then Some x else find p (filter q xs)) ea ∙ later
    go true false ea eb later = later
    go false false ea eb later = later

-- whether a function of this name can be called
abbrev pub may_name : Role → List Name → Name → Bool
may_name role names n = may_call role (role_of n) && list_any (is_same n) names

-- the test that `callable` makes depends on the name alone
same_answer : (role : Role) (names : List Name) (n : Name) (b : Bool) → may_name role names n ≡ b → (s : Signature) → is_same s.name n ≡ true → may_name role names s.name ≡ b
same_answer role names n b e s same = ap (may_name role names) ((bytes_decides s.name n).0 same) ∙ e

pub callable_found : (role : Role) (names : List Name) (sigs : List Signature) (n : Name) → may_name role names n ≡ true → signature_named (callable role names sigs) n ≡ signature_named sigs n
callable_found role names sigs n may = find_kept (λ s. is_same s.name n) (λ s. may_name role names s.name) (same_answer role names n true may) sigs

callable_none : (role : Role) (names : List Name) (sigs : List Signature) (n : Name) → may_name role names n ≡ false → signature_named (callable role names sigs) n ≡ None
callable_none role names sigs n never = find_none (λ s. is_same s.name n) (λ s. may_name role names s.name) (same_answer role names n false never) sigs

-- each of these names is among the others
abbrev pub AreAmong : List Name → List Name → Type 0
AreAmong names more = (n : Name) → list_any (is_same n) names ≡ true → list_any (is_same n) more ≡ true

callable_extends : (role : Role) (names more : List Name) (sigs before : List Signature) → AreAmong names more → Extends (callable role names sigs) (callable role more (sigs ++ before))
unfolding Extends
callable_extends role names more sigs before among n s at = go (may_name role names n) refl
  where
    go : (b : Bool) → may_name role names n ≡ b → signature_named (callable role more (sigs ++ before)) n ≡ Some s
    go false e = absurd (let bad : None ≡ Some s = sym (callable_none role names sigs n e) ∙ at in cc)
    go true e =
        let parts = and_parts (may_call role (role_of n)) (list_any (is_same n) names) e in
        let here : signature_named sigs n ≡ Some s = sym (callable_found role names sigs n e) ∙ at in
        callable_found role more (sigs ++ before) n (and_from (may_call role (role_of n)) (list_any (is_same n) more) parts.0 (among n parts.1))
        ∙ find-append (λ t. is_same t.name n) sigs before
        ∙ ap (λ o. option_or o (signature_named before n)) here

-- with more names and older signatures, an item still fits
pub item_kept : (names more : List Name) (sigs before : List Signature) → AreAmong names more → (i : Item) → item_fits names sigs i ≡ true → item_fits more (sigs ++ before) i ≡ true
item_kept names more sigs before among (external v) h = absurd (cc)
item_kept names more sigs before among (global v) h = absurd (cc)
item_kept names more sigs before among (declared t n ps) h = h
item_kept names more sigs before among (defined g) h =
    function_kept (callable (role_of g.name) names sigs) (callable (role_of g.name) more (sigs ++ before)) (callable_extends (role_of g.name) names more sigs before among) g h
