-- Heads break no rule exactly where declarations of one name agree, their types fit the role, and the names of variables are distinct. What is found among signatures.
use Rattle.std.proofs.Common.{◌≡◌, ℕ, Bool, true, false, not, ◌&&◌, ◌||◌, List, [], ◌∷◌, ◌++◌, Option, Some, None, refl, sym, ap, ◌∙◌}
use Rattle.std.specs.Prelude.{map, if◌then◌else◌}
use Rattle.std.specs.Option.{option_or}
use Rattle.std.specs.List.{list_all, list_any}
use Rattle.std.specs.Cmp.Lexicographic.{bytes_decides}
use Rattle.std.proofs.lemmas.Bool.{and_from, and_parts}
use Rattle.std.proofs.lemmas.List.{map-append}
use Rattle.std.proofs.lemmas.List.Folds.{find-append}
use Rattle.scheme_data.specs.Names.{are_distinct, is_same}
use Rattle.c_tree.specs.declared.tree.CTy.{CTy}
use Rattle.c_tree.specs.declared.tree.CTy.TheVariants.{Obj, Long, Char, Int}
use Rattle.c_tree.specs.declared.tree.CVar.{CVar}
use Rattle.c_meaning.specs.declared.breach.BadCause.TheVariants.{Clash, Twice, Shape}
use Rattle.c_meaning.specs.Plain.{same_type, same_types, same_signature, Signature, signature_named, Role, Main, Maker, Initializer, Entry, Function, callable, head_fits, agrees}
use Rattle.c_meaning.specs.Breaches.{unless}
use Rattle.c_meaning.specs.Checked.{result_fits, param_fits, result_agrees, params_before, params_behind, are_all, param_breaches, types_breaches, params_breaches, locals_breaches, result_breaches, names_of_vars}
use Rattle.c_meaning.proofs.Tests.{and_true, exchanged, is_none, none_both, none_unless, same_self, are_fresh, fresh_distinct, fresh_append}
use Rattle.c_meaning.proofs.Roles.{may, is_entry_role}

-- Types -------------------------------------------------------------------------------------

same_type_self : (t : CTy) → same_type t t ≡ true
same_type_self Obj = refl
same_type_self Long = refl
same_type_self Char = refl
same_type_self Int = refl

pub same_type_is : (t u : CTy) → same_type t u ≡ true → t ≡ u
same_type_is Obj Obj h = refl
same_type_is Long Long h = refl
same_type_is Char Char h = refl
same_type_is Int Int h = refl
same_type_is Obj Long h = absurd (cc)
same_type_is Obj Char h = absurd (cc)
same_type_is Obj Int h = absurd (cc)
same_type_is Long Obj h = absurd (cc)
same_type_is Long Char h = absurd (cc)
same_type_is Long Int h = absurd (cc)
same_type_is Char Obj h = absurd (cc)
same_type_is Char Long h = absurd (cc)
same_type_is Char Int h = absurd (cc)
same_type_is Int Obj h = absurd (cc)
same_type_is Int Long h = absurd (cc)
same_type_is Int Char h = absurd (cc)

same_types_self : (ts : List CTy) → same_types ts ts ≡ true
same_types_self [] = refl
same_types_self (t ∷ ts) = and_from (same_type t t) (same_types ts ts) (same_type_self t) (same_types_self ts)

same_types_is : (ts us : List CTy) → same_types ts us ≡ true → ts ≡ us
same_types_is [] [] h = refl
same_types_is [] (u ∷ us) h = absurd (cc)
same_types_is (t ∷ ts) [] h = absurd (cc)
same_types_is (t ∷ ts) (u ∷ us) h =
    let p = and_parts (same_type t u) (same_types ts us) h in
    λ i. same_type_is t u p.0 i ∷ same_types_is ts us p.1 i

same_type_sym : (t u : CTy) → same_type t u ≡ same_type u t
same_type_sym Obj Obj = refl
same_type_sym Long Long = refl
same_type_sym Char Char = refl
same_type_sym Int Int = refl
same_type_sym Obj Long = refl
same_type_sym Obj Char = refl
same_type_sym Obj Int = refl
same_type_sym Long Obj = refl
same_type_sym Long Char = refl
same_type_sym Long Int = refl
same_type_sym Char Obj = refl
same_type_sym Char Long = refl
same_type_sym Char Int = refl
same_type_sym Int Obj = refl
same_type_sym Int Long = refl
same_type_sym Int Char = refl

pub no_params : (vs : List CVar) → same_types (map (λ v. v.ty) vs) [] ≡ true → vs ≡ []
no_params [] h = refl
no_params (v ∷ vs) h = absurd (cc)

-- Heads -------------------------------------------------------------------------------------

-- a signature beside an earlier one of its name
abbrev pub agrees_with : Option Signature → CTy → List CTy → Bool
agrees_with None t params = true
agrees_with (Some f) t params = same_type f.result t && same_types f.params params

abbrev types_agree : Option (List CTy) → List CTy → Bool
types_agree None ts = true
types_agree (Some us) ts = same_types us ts

types_none : (role : Role) (before : Option (List CTy)) (ts : List CTy) → is_none (types_breaches role before ts) ≡ (types_agree before ts && list_all (param_fits role) ts)
types_none role None [] = refl
types_none role (Some []) [] = refl
types_none role (Some (u ∷ us)) [] = refl
types_none role None (t ∷ ts) =
    none_both (unless Shape (param_fits role t)) (types_breaches role None ts) ∙ (λ i. none_unless Shape (param_fits role t) i && types_none role None ts i)
types_none role (Some []) (t ∷ ts) = refl
types_none role (Some (u ∷ us)) (t ∷ ts) =
    none_both (param_breaches role (Some (u ∷ us)) t) (types_breaches role (Some us) ts)
    ∙ (λ i. none_both (unless Clash (same_type u t)) (unless Shape (param_fits role t)) i && types_none role (Some us) ts i)
    ∙ (λ i. (none_unless Clash (same_type u t) i && none_unless Shape (param_fits role t) i) && (same_types us ts && list_all (param_fits role) ts))
    ∙ exchanged (same_type u t) (param_fits role t) (same_types us ts) (list_all (param_fits role) ts)

-- the parameters of a definition are those of a declaration, with names
params_none : (role : Role) (before : Option (List CTy)) (names : List (List ℕ)) (vs : List CVar) → is_none (params_breaches role before names vs) ≡ (is_none (types_breaches role before (map (λ v. v.ty) vs)) && are_fresh names (names_of_vars vs))
params_none role before names [] = sym (and_true (is_none (unless Clash (are_all before))))
params_none role before names (v ∷ vs) =
    let new = not (list_any (is_same v.name) names) in
    let here = param_breaches role before v.ty in
    let later = params_breaches role (params_behind before) (names ++ v.name ∷ []) vs in
    let types = types_breaches role (params_behind before) (map (λ w. w.ty) vs) in
    none_both here (unless Twice new ++ later)
    ∙ ap (λ b. is_none here && b) (none_both (unless Twice new) later)
    ∙ (λ i. is_none here && (none_unless Twice new i && params_none role (params_behind before) (names ++ v.name ∷ []) vs i))
    ∙ regrouped (is_none here) new (is_none types) (are_fresh (names ++ v.name ∷ []) (names_of_vars vs))
    ∙ ap (λ b. b && (new && are_fresh (names ++ v.name ∷ []) (names_of_vars vs))) (sym (none_both here types))
  where
    regrouped : (a b c d : Bool) → (a && (b && (c && d))) ≡ ((a && c) && (b && d))
    regrouped true true c d = refl
    regrouped true false true d = refl
    regrouped true false false d = refl
    regrouped false b c d = refl

locals_none : (names : List (List ℕ)) (vs : List CVar) → is_none (locals_breaches names vs) ≡ are_fresh names (names_of_vars vs)
locals_none names [] = refl
locals_none names (v ∷ vs) =
    none_both (unless Twice (not (list_any (is_same v.name) names))) (locals_breaches (names ++ v.name ∷ []) vs)
    ∙ (λ i. none_unless Twice (not (list_any (is_same v.name) names)) i && locals_none (names ++ v.name ∷ []) vs i)

result_none : (role : Role) (before : Option Signature) (t : CTy) → is_none (result_breaches role before t) ≡ (result_agrees before t && result_fits role t)
result_none role before t =
    none_both (unless Clash (result_agrees before t)) (unless Shape (result_fits role t)) ∙ (λ i. none_unless Clash (result_agrees before t) i && none_unless Shape (result_fits role t) i)

both_agree : (before : Option Signature) (t : CTy) (ts : List CTy) → (result_agrees before t && types_agree (params_before before) ts) ≡ agrees_with before t ts
both_agree None t ts = refl
both_agree (Some f) t ts = refl

all_true : (ts : List CTy) → list_all (param_fits Function) ts ≡ true
all_true [] = refl
all_true (t ∷ ts) = all_true ts

-- the shape of a head, but of an entry's
head_is : (role : Role) (t : CTy) (ts : List CTy) → is_entry_role role ≡ false → (result_fits role t && list_all (param_fits role) ts) ≡ head_fits role t ts
head_is Main t [] h = ap (λ b. b && true) (same_type_sym Int t)
head_is Main t (u ∷ us) h = ap (λ b. b && false) (same_type_sym Int t)
head_is Maker t [] h = ap (λ b. b && true) (same_type_sym Obj t)
head_is Maker t (u ∷ us) h = ap (λ b. b && false) (same_type_sym Obj t)
head_is Initializer t [] h = ap (λ b. b && true) (same_type_sym Obj t)
head_is Initializer t (u ∷ us) h = ap (λ b. b && false) (same_type_sym Obj t)
head_is Function t ts h = all_true ts
head_is Entry t ts h = absurd (cc)

-- a declaration
pub declared_none : (role : Role) (before : Option Signature) (t : CTy) (ts : List CTy) → is_entry_role role ≡ false
    → (is_none (result_breaches role before t) && is_none (types_breaches role (params_before before) ts)) ≡ (agrees_with before t ts && head_fits role t ts)
declared_none role before t ts h =
    (λ i. result_none role before t i && types_none role (params_before before) ts i)
    ∙ exchanged (result_agrees before t) (result_fits role t) (types_agree (params_before before) ts) (list_all (param_fits role) ts)
    ∙ (λ i. both_agree before t ts i && head_is role t ts h i)

-- the head of a definition
pub defined_none : (role : Role) (before : Option Signature) (t : CTy) (params locals : List CVar) → is_entry_role role ≡ false
    → (is_none (result_breaches role before t) && (is_none (params_breaches role (params_before before) [] params) && is_none (locals_breaches (names_of_vars params) locals)))
    ≡ ((agrees_with before t (map (λ v. v.ty) params) && head_fits role t (map (λ v. v.ty) params)) && are_distinct (map (λ v. v.name) (params ++ locals)))
defined_none role before t params locals h =
    let types = map (λ (v : CVar). v.ty) params in
    let first = is_none (result_breaches role before t) in
    let second = is_none (types_breaches role (params_before before) types) in
    let names : (are_fresh [] (names_of_vars params) && are_fresh (names_of_vars params) (names_of_vars locals)) ≡ are_distinct (map (λ v. v.name) (params ++ locals)) =
    sym (fresh_append [] (names_of_vars params) (names_of_vars locals)) ∙ ap (are_fresh []) (sym (map-append (λ (v : CVar). v.name) params locals)) ∙ fresh_distinct (map (λ v. v.name) (params ++ locals)) in
    (λ i. first && (params_none role (params_before before) [] params i && locals_none (names_of_vars params) locals i))
    ∙ grouped first second (are_fresh [] (names_of_vars params)) (are_fresh (names_of_vars params) (names_of_vars locals))
    ∙ (λ i. declared_none role before t types h i && names i)
  where
    grouped : (a b c d : Bool) → (a && ((b && c) && d)) ≡ ((a && b) && (c && d))
    grouped true true c d = refl
    grouped true false c d = refl
    grouped false b c d = refl

-- Signatures that are found -----------------------------------------------------------------

-- the newest and the oldest are the same
abbrev pub SameFound : List Signature → List Signature → Type 0
SameFound sigs functions = (n : List ℕ) → signature_named sigs n ≡ signature_named functions n

-- each of these is what is found
abbrev pub AreFound : List Signature → List Signature → Type 0
AreFound functions [] = Unit {0}
AreFound functions (s ∷ sigs) = (signature_named functions s.name ≡ Some s) × AreFound functions sigs

abbrev pub agrees_signature : Option Signature → Signature → Bool
agrees_signature before s = agrees_with before s.result s.params

found_named : (functions : List Signature) (n : List ℕ) (f : Signature) → signature_named functions n ≡ Some f → f.name ≡ n
found_named [] n f h = absurd (cc)
found_named (s ∷ functions) n f h = go (is_same s.name n) refl h (found_named functions n f)
  where
    go : (b : Bool) → is_same s.name n ≡ b → (if b then Some s else signature_named functions n) ≡ Some f → (signature_named functions n ≡ Some f → f.name ≡ n) → f.name ≡ n
    go true e q later = let same : s ≡ f = cc in ap (λ (x : Signature). x.name) (sym same) ∙ (bytes_decides s.name n).0 e
    go false e q later = later q

-- what is found under its name and agrees is the same
found_same : (functions : List Signature) (s f : Signature) → signature_named functions s.name ≡ Some f → agrees_signature (Some f) s ≡ true → f ≡ s
found_same functions s f e h =
    let p = and_parts (same_type f.result s.result) (same_types f.params s.params) h in
    let name = found_named functions s.name f e in
    let result = same_type_is f.result s.result p.0 in
    let params = same_types_is f.params s.params p.1 in
    λ i. record { name = name i; result = result i; params = params i }

pub found_append : (functions : List Signature) (s : Signature) (n : List ℕ) → signature_named (functions ++ s ∷ []) n ≡ option_or (signature_named functions n) (if is_same s.name n then Some s else None)
found_append functions s n = find-append (λ (x : Signature). is_same x.name n) functions (s ∷ [])

-- one more, which agrees
module _ (functions : List Signature) (s : Signature) (agree : agrees_signature (signature_named functions s.name) s ≡ true) where
  pub found_last : signature_named (functions ++ s ∷ []) s.name ≡ Some s
  found_last = found_append functions s s.name ∙ go (signature_named functions s.name) refl agree
    where
      go : (o : Option Signature) → signature_named functions s.name ≡ o → agrees_signature o s ≡ true → option_or o (if is_same s.name s.name then Some s else None) ≡ Some s
      go None e h = ap (λ b. if b then Some s else None) (same_self s.name)
      go (Some f) e h = ap Some (found_same functions s f e h)

  pub found_before : (n : List ℕ) (f : Signature) → signature_named functions n ≡ Some f → signature_named (functions ++ s ∷ []) n ≡ Some f
  found_before n f e = found_append functions s n ∙ ap (λ o. option_or o (if is_same s.name n then Some s else None)) e

  pub same_more : (sigs : List Signature) → SameFound sigs functions → SameFound (s ∷ sigs) (functions ++ s ∷ [])
  same_more sigs same n = go (is_same s.name n) refl
    where
      go : (b : Bool) → is_same s.name n ≡ b → (if b then Some s else signature_named sigs n) ≡ signature_named (functions ++ s ∷ []) n
      go true e = sym found_last ∙ ap (signature_named (functions ++ s ∷ [])) ((bytes_decides s.name n).0 e)
      go false e = same n ∙ sym (found_append functions s n ∙ ap (λ b. option_or (signature_named functions n) (if b then Some s else None)) e ∙ none_after (signature_named functions n))
        where
          none_after : (o : Option Signature) → option_or o None ≡ o
          none_after None = refl
          none_after (Some f) = refl

  pub are_more : (sigs : List Signature) → AreFound functions sigs → AreFound (functions ++ s ∷ []) (s ∷ sigs)
  are_more sigs are = (found_last, kept sigs are)
    where
      kept : (ts : List Signature) → AreFound functions ts → AreFound (functions ++ s ∷ []) ts
      kept [] h = tt
      kept (t ∷ ts) h = (found_before t.name t h.0, kept ts h.1)

-- Agreement ---------------------------------------------------------------------------------

-- all of the name agree, so the one that is found does
pub agree_found : (sigs : List Signature) (s : Signature) → agrees sigs s ≡ true → agrees_signature (signature_named sigs s.name) s ≡ true
agree_found [] s h = refl
agree_found (t ∷ sigs) s h =
    let p = and_parts (not (is_same t.name s.name) || same_signature t s) (agrees sigs s) h in
    go (is_same t.name s.name) p.0 (agree_found sigs s p.1)
  where
    go : (b : Bool) → (not b || same_signature t s) ≡ true → agrees_signature (signature_named sigs s.name) s ≡ true → agrees_signature (if b then Some t else signature_named sigs s.name) s ≡ true
    go true e later = e
    go false e later = later

-- where each is what is found, all agree with one that agrees with what is found
pub found_agree : (functions sigs : List Signature) (s : Signature) → AreFound functions sigs → agrees_signature (signature_named functions s.name) s ≡ true → agrees sigs s ≡ true
found_agree functions [] s are h = refl
found_agree functions (t ∷ sigs) s are h = and_from (not (is_same t.name s.name) || same_signature t s) (agrees sigs s) (go (is_same t.name s.name) refl) (found_agree functions sigs s are.1 h)
  where
    go : (b : Bool) → is_same t.name s.name ≡ b → (not b || same_signature t s) ≡ true
    go false e = refl
    go true e = ap (λ o. agrees_signature o s) (sym are.0 ∙ ap (signature_named functions) ((bytes_decides t.name s.name).0 e)) ∙ h

-- What may be called ------------------------------------------------------------------------

abbrev pub may_and_defined : Role → List (List ℕ) → List ℕ → Bool
may_and_defined role names n = may role n && list_any (is_same n) names

none_if : (b : Bool) (o : Option Signature) → o ≡ None → o ≡ (if b then o else None)
none_if true o e = refl
none_if false o e = e

-- the first, where it may be called, and else one of the others
first_or_later : (s : Signature) (b c d : Bool) (fewer more : Option Signature) → (c ≡ true → b ≡ d) → fewer ≡ (if d then more else None) → (if b then (if c then Some s else fewer) else fewer) ≡ (if d then (if c then Some s else more) else None)
first_or_later s true true true fewer more same h = refl
first_or_later s false true false fewer more same h = h
first_or_later s true true false fewer more same h = absurd (let q = same refl in cc)
first_or_later s false true true fewer more same h = absurd (let q = same refl in cc)
first_or_later s true false true fewer more same h = h
first_or_later s true false false fewer more same h = h
first_or_later s false false true fewer more same h = h
first_or_later s false false false fewer more same h = h

find_if : (s : Signature) (sigs : List Signature) (n : List ℕ) (b : Bool) → signature_named (if b then s ∷ sigs else sigs) n ≡ (if b then (if is_same s.name n then Some s else signature_named sigs n) else signature_named sigs n)
find_if s sigs n true = refl
find_if s sigs n false = refl

pub callable_found : (role : Role) (names : List (List ℕ)) (sigs : List Signature) (n : List ℕ) → signature_named (callable role names sigs) n ≡ (if may_and_defined role names n then signature_named sigs n else None)
callable_found role names [] n = none_if (may_and_defined role names n) None refl
callable_found role names (s ∷ sigs) n =
    find_if s (callable role names sigs) n (may_and_defined role names s.name)
    ∙ first_or_later s (may_and_defined role names s.name) (is_same s.name n) (may_and_defined role names n) (signature_named (callable role names sigs) n) (signature_named sigs n)
    (λ e. ap (may_and_defined role names) ((bytes_decides s.name n).0 e)) (callable_found role names sigs n)
