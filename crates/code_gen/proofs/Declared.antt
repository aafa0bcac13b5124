-- The functions that a module may call and their signatures: each C name is found with the signature of its function.
use Rattle.std.proofs.Common.{◌≡◌, ℕ, zero, suc, List, [], ◌∷◌, ◌++◌, map, replicate, Bool, true, false, ◌⊎◌, inl, inr, Some, refl, sym, ap, ◌∙◌, subst, arith}
use Rattle.std.specs.Prelude.{not, ◌&&◌, ◌||◌, IsTrue, cond, slice_get, Contains}
use Rattle.std.specs.List.{list_any}
use Rattle.std.proofs.lemmas.Bool.{and_from, and_parts, not-true}
use Rattle.std.proofs.lemmas.List.{map-append}
use Rattle.std.proofs.lemmas.List.Folds.{list_any-append}
use Rattle.std.specs.Cmp.Lexicographic.{bytes_decides, nat_list_eq_equiv}
use Rattle.std.proofs.Math.Bool.{or-true}
use Rattle.scheme_data.specs.Names.{are_distinct, is_same}
use Rattle.scheme_data.specs.Symbols.{IsSymbol}
use Rattle.core_tree.specs.declared.tree.GlobalRef.{GlobalRef}
use Rattle.core_tree.specs.declared.tree.GlobalRef.TheVariants.{Own, Used}
use Rattle.core_tree.specs.declared.tree.Use.{Use}
use Rattle.core_tree.specs.declared.tree.Use.TheVariants.{From, Need}
use Rattle.core_tree.specs.Tree.{FunctionTree, ModuleTree, Callee, own_callee, row_callee, found_own, found_use, callee_of, used_callees}
use Rattle.core_tree.specs.WellFormed.{IsFunction, AreFunctions, AreUses, module_of, row_of, same_use, each_once, IsWellFormed}
use Rattle.c_tree.specs.declared.tree.CTy.{CTy}
use Rattle.c_tree.specs.declared.tree.CTy.TheVariants.{Obj}
use Rattle.c_tree.specs.Names.{function_name, is_function_name}
use Rattle.c_tree.proofs.CNames.{named_function, function_name_parts}
use Rattle.c_meaning.specs.Plain.{Role, Function, role_of, may_call, signature_named, same_types, same_signature, callable, agrees}
use Rattle.plan_rules.specs.Translation.{Name, c_name_of, callees}
use Rattle.plan_rules.proofs.NameKinds.{function_role, last_names, last_other, last_distinct, other_name}
use Rattle.code_gen.proofs.Variables.{own_type}
use Rattle.code_gen.proofs.Soundness.{signature}

-- Members of a list -------------------------------------------------------------------------

abbrev pub Has : {X : Type 0} → X → List X → Type 0
Has x [] = ⊥
Has x (y ∷ ys) = (x ≡ y) ⊎ Has x ys

abbrev pub Within : {X : Type 0} → List X → List X → Type 0
Within {X} xs ys = (x : X) → Has x xs → Has x ys

pub has_before : {X : Type 0} (x : X) (xs ys : List X) → Has x xs → Has x (xs ++ ys)
has_before x [] ys h = absurd h
has_before x (z ∷ zs) ys h = elim h [
  | inl e ↦ inl e
  | inr j ↦ inr (has_before x zs ys j)
]

pub has_after : {X : Type 0} (x : X) (xs ys : List X) → Has x ys → Has x (xs ++ ys)
has_after x [] ys h = h
has_after x (z ∷ zs) ys h = inr (has_after x zs ys h)

has_cases : {X : Type 0} (x : X) (xs ys : List X) → Has x (xs ++ ys) → Has x xs ⊎ Has x ys
has_cases x [] ys h = inr h
has_cases x (z ∷ zs) ys h = elim h [
  | inl e ↦ inl (inl e)
  | inr j ↦ elim (has_cases x zs ys j) [
    | inl k ↦ inl (inr k)
    | inr k ↦ inr k
  ]
]

pub has_turned : {X : Type 0} (x : X) (xs ys : List X) → Has x (xs ++ ys) → Has x (ys ++ xs)
has_turned x xs ys h = elim (has_cases x xs ys h) [
  | inl k ↦ has_after x ys xs k
  | inr k ↦ has_before x ys xs k
]

pub contained : {X : Type 0} (x : X) (xs : List X) → Has x xs → Contains xs x
contained x [] h = absurd h
contained x (y ∷ ys) h = elim h [
  | inl e ↦ (0, omega arith, sym e)
  | inr j ↦ let at = contained x ys j in (suc at.0, omega (arith, at.1), at.2)
]

pub is_function : (m : ModuleTree) (fs : List FunctionTree) (f : FunctionTree) → AreFunctions m fs → Has f fs → IsFunction m f
is_function m [] f all h = absurd h
is_function m (g ∷ gs) f all h = elim h [
  | inl e ↦ subst (IsFunction m) (sym e) all.0
  | inr j ↦ is_function m gs f all.1 j
]

-- What is called ----------------------------------------------------------------------------

own_got : (m : Name) (fs : List FunctionTree) (n : ℕ) (c : Callee) → found_own m (slice_get fs n) ≡ Some c → Has c (map (own_callee m) fs)
own_got m [] n c e = absurd (cc)
own_got m (f ∷ fs) zero c e = inl (sym (let same : own_callee m f ≡ c = cc in same))
own_got m (f ∷ fs) (suc n) c e = inr (own_got m fs n c e)

used_got : (us : List Use) (n : ℕ) (c : Callee) → found_use (slice_get us n) ≡ Some c → Has c (used_callees us)
used_got [] n c e = absurd (cc)
used_got (From k r ∷ us) zero c e = inl (sym (let same : row_callee k r ≡ c = cc in same))
used_got (Need k r ∷ us) zero c e = absurd (cc)
used_got (From k r ∷ us) (suc n) c e = inr (used_got us n c e)
used_got (Need k r ∷ us) (suc n) c e = used_got us n c e

-- a function that is called is one that may be called
pub called : (m : ModuleTree) (g : GlobalRef) (c : Callee) → callee_of m g ≡ Some c → Has c (callees m)
called m (Own n) c e = has_before c (map (own_callee m.name) m.functions) (used_callees m.uses) (own_got m.name m.functions n c e)
called m (Used n) c e = has_after c (map (own_callee m.name) m.functions) (used_callees m.uses) (used_got m.uses n c e)

pub own_has : (m : Name) (fs : List FunctionTree) (f : FunctionTree) → Has f fs → Has (own_callee m f) (map (own_callee m) fs)
own_has m [] f h = absurd h
own_has m (g ∷ gs) f h = elim h [
  | inl e ↦ inl (ap (own_callee m) e)
  | inr j ↦ inr (own_has m gs f j)
]

-- Names -------------------------------------------------------------------------------------

abbrev pub names_of : List Callee → List Name
names_of cs = map c_name_of cs

abbrev pub IsNamed : Callee → Type 0
IsNamed c = IsTrue (is_function_name (c_name_of c))

abbrev pub AreNamed : List Callee → Type 0
AreNamed [] = Unit {0}
AreNamed (c ∷ cs) = IsNamed c × AreNamed cs

used_named : (m : ModuleTree) (us : List Use) → AreUses m us → AreNamed (used_callees us)
used_named m [] all = tt
used_named m (From k r ∷ us) all = (named_function k r.name all.0.module_name all.0.name, used_named m us all.1)
used_named m (Need k r ∷ us) all = used_named m us all.1

all_named : (m : ModuleTree) (fs : List FunctionTree) (cs : List Callee) → IsSymbol m.name → AreFunctions m fs → AreNamed cs → AreNamed (map (own_callee m.name) fs ++ cs)
all_named m [] cs name all others = others
all_named m (f ∷ fs) cs name all others = (named_function m.name f.name name all.0.name, all_named m fs cs name all.1 others)

pub callees_named : (m : ModuleTree) → IsWellFormed m → AreNamed (callees m)
callees_named m w = all_named m m.functions (used_callees m.uses) w.name w.functions (used_named m m.uses w.uses)

pub named_at : (cs : List Callee) (c : Callee) → AreNamed cs → Has c cs → IsNamed c
named_at [] c all h = absurd h
named_at (d ∷ ds) c all h = elim h [
  | inl e ↦ subst IsNamed (sym e) all.0
  | inr j ↦ named_at ds c all.1 j
]

pub has_name : (cs : List Callee) (c : Callee) → Has c cs → list_any (is_same (c_name_of c)) (names_of cs) ≡ true
has_name [] c h = absurd h
has_name (d ∷ ds) c h = elim h [
  | inl e ↦ ap (λ k. is_same (c_name_of c) (c_name_of k) || list_any (is_same (c_name_of c)) (names_of ds)) (sym e)
      ∙ ap (λ b. b || list_any (is_same (c_name_of c)) (names_of ds)) (nat_list_eq_equiv.refl (c_name_of c))
  | inr j ↦ ap (λ b. is_same (c_name_of c) (c_name_of d) || b) (has_name ds c j) ∙ or-true (is_same (c_name_of c) (c_name_of d))
]

-- Names that differ -------------------------------------------------------------------------

same_test : (a b c d : Name) → (a ≡ b → c ≡ d) → (c ≡ d → a ≡ b) → is_same a b ≡ is_same c d
same_test a b c d to from = go (is_same a b) refl
  where
    go : (x : Bool) → is_same a b ≡ x → is_same a b ≡ is_same c d
    go true e = e ∙ sym (ap (λ x. is_same c x) (sym (to ((bytes_decides a b).0 e))) ∙ nat_list_eq_equiv.refl c)
    go false e = e ∙ sym (other_name c d (λ q. let bad : false ≡ true = sym e ∙ ap (λ x. is_same a x) (sym (from q)) ∙ nat_list_eq_equiv.refl a in absurd (cc)))

-- names in one module
own_test : (m a b : Name) → is_same (function_name m a) (function_name m b) ≡ is_same a b
own_test m a b = same_test (function_name m a) (function_name m b) a b (λ e. (function_name_parts m a m b e).1) (λ e. ap (function_name m) e)

-- names in two modules
other_module : (m k a b : Name) → is_same k m ≡ false → is_same (function_name m a) (function_name k b) ≡ false
other_module m k a b e =
    other_name (function_name m a) (function_name k b)
    (λ q. let bad : false ≡ true = sym e ∙ ap (is_same k) (function_name_parts m a k b q).0 ∙ nat_list_eq_equiv.refl k in absurd (cc))

other_pair : (m k a b : Name) → (is_same m k && is_same a b) ≡ false → is_same (function_name m a) (function_name k b) ≡ false
other_pair m k a b e =
    other_name (function_name m a) (function_name k b)
    (λ q.
    let s = function_name_parts m a k b q in
    let bad : true ≡ false = sym (and_from (is_same m k) (is_same a b) (ap (is_same m) (sym s.0) ∙ nat_list_eq_equiv.refl m) (ap (is_same a) (sym s.1) ∙ nat_list_eq_equiv.refl a)) ∙ e in absurd (cc))

none_of : (a b : Bool) → (a || b) ≡ false → (a ≡ false) × (b ≡ false)
none_of true b e = absurd (cc)
none_of false b e = (refl, e)

any_from : (a b : Bool) → a ≡ false → b ≡ false → (a || b) ≡ false
any_from a b e f = ap (λ x. x || b) e ∙ f

-- no function of the module has the name of one of another module
none_own : (m : ModuleTree) (name : Name) (us : List Use) → AreUses m us → list_any (is_same (function_name m.name name)) (names_of (used_callees us)) ≡ false
none_own m name [] all = refl
none_own m name (From k r ∷ us) all =
    any_from (is_same (function_name m.name name) (function_name k r.name)) (list_any (is_same (function_name m.name name)) (names_of (used_callees us)))
    (other_module m.name k name r.name all.0.foreign) (none_own m name us all.1)
none_own m name (Need k r ∷ us) all = none_own m name us all.1

none_used : (u : Use) (us : List Use) → list_any (same_use u) us ≡ false → list_any (is_same (function_name (module_of u) (row_of u).name)) (names_of (used_callees us)) ≡ false
none_used u [] e = refl
none_used u (From k r ∷ us) e =
    let name = function_name (module_of u) (row_of u).name in
    let parts = none_of (same_use u (From k r)) (list_any (same_use u) us) e in
    any_from (is_same name (function_name k r.name)) (list_any (is_same name) (names_of (used_callees us))) (other_pair (module_of u) k (row_of u).name r.name parts.0) (none_used u us parts.1)
none_used u (Need k r ∷ us) e = none_used u us (none_of (same_use u (Need k r)) (list_any (same_use u) us) e).1

used_distinct : (us : List Use) → each_once us ≡ true → are_distinct (names_of (used_callees us)) ≡ true
used_distinct [] e = refl
used_distinct (From k r ∷ us) e =
    let u = From k r in
    let parts = and_parts (not (list_any (same_use u) us)) (each_once us) e in
    let alone = none_used u us (not-true (list_any (same_use u) us) parts.0) in
    and_from (not (list_any (is_same (function_name k r.name)) (names_of (used_callees us)))) (are_distinct (names_of (used_callees us))) (ap not alone) (used_distinct us parts.1)
used_distinct (Need k r ∷ us) e = used_distinct us (and_parts (not (list_any (same_use (Need k r)) us)) (each_once us) e).1

any_name : (m x : Name) (fs : List FunctionTree) (others : List Name) → list_any (is_same (function_name m x)) others ≡ false
    → list_any (is_same (function_name m x)) (names_of (map (own_callee m) fs) ++ others) ≡ list_any (is_same x) (map (λ f. f.name) fs)
any_name m x [] others none = none
any_name m x (f ∷ fs) others none =
    ap (λ b. b || list_any (is_same (function_name m x)) (names_of (map (own_callee m) fs) ++ others)) (own_test m x f.name) ∙ ap (λ b. is_same x f.name || b) (any_name m x fs others none)

-- names of the module's functions, and others behind them
all_distinct : (m : Name) (fs : List FunctionTree) (others : List Name) → ((x : Name) → list_any (is_same (function_name m x)) others ≡ false) → are_distinct others ≡ true
    → are_distinct (names_of (map (own_callee m) fs) ++ others) ≡ are_distinct (map (λ f. f.name) fs)
all_distinct m [] others none distinct = distinct
all_distinct m (f ∷ fs) others none distinct =
    ap (λ b. not b && are_distinct (names_of (map (own_callee m) fs) ++ others)) (any_name m f.name fs others (none f.name))
    ∙ ap (λ b. not (list_any (is_same f.name) (map (λ f. f.name) fs)) && b) (all_distinct m fs others none distinct)

-- each function that may be called has a name of its own
pub callees_distinct : (m : ModuleTree) → IsWellFormed m → are_distinct (names_of (callees m)) ≡ true
callees_distinct m w =
    ap are_distinct (map-append c_name_of (map (own_callee m.name) m.functions) (used_callees m.uses))
    ∙ all_distinct m.name m.functions (names_of (used_callees m.uses)) (λ x. none_own m x m.uses w.uses) (used_distinct m.uses w.once) ∙ w.distinct

-- and so has each that is defined
pub defined_distinct : (m : ModuleTree) → IsWellFormed m → are_distinct (names_of (map (own_callee m.name) m.functions) ++ last_names m.name) ≡ true
defined_distinct m w = all_distinct m.name m.functions (last_names m.name) (λ x. last_other m.name x) (last_distinct m.name) ∙ w.distinct

any_here : (cs : List Callee) (x : Name) (c : Callee) → Has c cs → x ≡ c_name_of c → list_any (is_same x) (names_of cs) ≡ true
any_here cs x c has e = ap (λ y. list_any (is_same y) (names_of cs)) e ∙ has_name cs c has

pub same_callee : (cs : List Callee) (c d : Callee) → are_distinct (names_of cs) ≡ true → Has c cs → Has d cs → c_name_of c ≡ c_name_of d → c ≡ d
same_callee [] c d distinct a b e = absurd a
same_callee (g ∷ gs) c d distinct a b e =
    let parts = and_parts (not (list_any (is_same (c_name_of g)) (names_of gs))) (are_distinct (names_of gs)) distinct in
    elim a [
      | inl p ↦ elim b [
        | inl q ↦ p ∙ sym q
        | inr k ↦
            let here : c_name_of g ≡ c_name_of d = ap c_name_of (sym p) ∙ e in
            let bad : false ≡ true = ap not (sym (any_here gs (c_name_of g) d k here)) ∙ parts.0 in absurd (cc)
      ]
      | inr j ↦ elim b [
        | inl q ↦
            let here : c_name_of g ≡ c_name_of c = ap c_name_of (sym q) ∙ sym e in
            let bad : false ≡ true = ap not (sym (any_here gs (c_name_of g) c j here)) ∙ parts.0 in absurd (cc)
        | inr k ↦ same_callee gs c d parts.1 j k e
      ]
    ]

-- Signatures --------------------------------------------------------------------------------

own_types : (ts : List CTy) → same_types ts ts ≡ true
own_types [] = refl
own_types (t ∷ ts) = ap (λ b. b && same_types ts ts) (own_type t) ∙ own_types ts

-- Where functions with C names of their own may be called.
module _ (cs : List Callee) (distinct : are_distinct (names_of cs) ≡ true) where
  agrees_one : (c d : Callee) → Has c cs → Has d cs → (x : Bool) → is_same (c_name_of d) (c_name_of c) ≡ x
      → (not (is_same (c_name_of d) (c_name_of c)) || same_signature (signature d) (signature c)) ≡ true
  agrees_one c d a b false e = ap (λ x. not x || same_signature (signature d) (signature c)) e
  agrees_one c d a b true e =
      let same : d ≡ c = same_callee cs d c distinct b a ((bytes_decides (c_name_of d) (c_name_of c)).0 e) in
      ap (λ x. not x || same_signature (signature d) (signature c)) e ∙ ap (λ k. same_signature (signature k) (signature c)) same
      ∙ own_types (replicate c.params Obj)

  pub agree : (c : Callee) (ds : List Callee) → Has c cs → Within ds cs → agrees (map signature ds) (signature c) ≡ true
  agree c [] a within = refl
  agree c (d ∷ ds) a within =
      and_from (not (is_same (c_name_of d) (c_name_of c)) || same_signature (signature d) (signature c)) (agrees (map signature ds) (signature c))
      (agrees_one c d a (within d (inl refl)) (is_same (c_name_of d) (c_name_of c)) refl)
      (agree c ds a (λ k j. within k (inr j)))

  found_at : (c d : Callee) (ds : List Callee) → Has c cs → Has d cs → (x : Bool) → is_same (c_name_of d) (c_name_of c) ≡ x
      → (c ≡ d) ⊎ Has c ds → (Has c ds → signature_named (map signature ds) (c_name_of c) ≡ Some (signature c))
      → signature_named (map signature (d ∷ ds)) (c_name_of c) ≡ Some (signature c)
  found_at c d ds a b true e among others =
      let same : d ≡ c = same_callee cs d c distinct b a ((bytes_decides (c_name_of d) (c_name_of c)).0 e) in
      ap (λ x. cond x (Some (signature d)) (signature_named (map signature ds) (c_name_of c))) e ∙ ap (λ k. Some (signature k)) same
  found_at c d ds a b false e among others =
      ap (λ x. cond x (Some (signature d)) (signature_named (map signature ds) (c_name_of c))) e
      ∙ elim among [
        | inl q ↦ let bad : false ≡ true = sym e ∙ ap (λ k. is_same (c_name_of k) (c_name_of c)) (sym q) ∙ nat_list_eq_equiv.refl (c_name_of c) in absurd (cc)
        | inr j ↦ others j
      ]

  pub signed : (c : Callee) (ds : List Callee) → Has c cs → Within ds cs → Has c ds → signature_named (map signature ds) (c_name_of c) ≡ Some (signature c)
  signed c [] a within among = absurd among
  signed c (d ∷ ds) a within among =
      found_at c d ds a (within d (inl refl)) (is_same (c_name_of d) (c_name_of c)) refl among (λ j. signed c ds a (λ k i. within k (inr i)) j)

has_name_before : (cs : List Callee) (others : List Name) (c : Callee) → Has c cs → list_any (is_same (c_name_of c)) (names_of cs ++ others) ≡ true
has_name_before cs others c has = list_any-append (is_same (c_name_of c)) (names_of cs) others ∙ ap (λ b. b || list_any (is_same (c_name_of c)) others) (has_name cs c has)

-- what may call functions of modules may call all that are declared so far, where these and others are defined somewhere
pub all_callable : (r : Role) → may_call r Function ≡ true → (cs : List Callee) (others : List Name) (ds : List Callee) → Within ds cs → callable r (names_of cs ++ others) (map signature ds) ≡ map signature ds
all_callable r may_functions cs others [] within = refl
all_callable r may_functions cs others (d ∷ ds) within =
    let s = signature d in
    let names = names_of cs ++ others in
    let more = callable r names (map signature ds) in
    let may : (may_call r (role_of s.name) && list_any (is_same s.name) names) ≡ true =
    and_from (may_call r (role_of s.name)) (list_any (is_same s.name) names) (ap (may_call r) (function_role d.module_name d.name) ∙ may_functions) (has_name_before cs others d (within d (inl refl))) in
    ap (λ b. cond b (s ∷ more) more) may ∙ ap (λ ss. s ∷ ss) (all_callable r may_functions cs others ds (λ k j. within k (inr j)))
