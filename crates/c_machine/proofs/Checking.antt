-- What a check tells of a program.
use Rattle.std.proofs.Common.{◌≡◌, ℕ, zero, suc, Bool, true, false, not, ◌&&◌, ◌||◌, cond, List, [], ◌∷◌, ◌++◌, Some, slice_get, map, refl, sym, ap, subst, ◌∙◌, if◌then◌else◌, ◌⊎◌, inl, inr}
use Rattle.std.specs.Prelude.{codes, find}
use Rattle.std.specs.List.{list_any, list_all}
use Rattle.std.specs.Cmp.Lexicographic.{nat_list_eq_equiv, same_text}
use Rattle.std.proofs.lemmas.Bool.{and_parts, and_from}
use Rattle.scheme_data.specs.Names.{are_distinct, is_same}
use Rattle.c_tree.specs.declared.tree.CTy.{CTy}
use Rattle.c_tree.specs.declared.tree.CTy.TheVariants.{Obj, Int}
use Rattle.c_tree.specs.declared.tree.CVar.{CVar}
use Rattle.c_tree.specs.declared.function.CFun.{CFun}
use Rattle.c_tree.specs.declared.function.CItem.{CItem}
use Rattle.c_tree.specs.declared.function.CItem.TheVariants.{Extern, Global, Declared, Defined}
use Rattle.c_tree.specs.Code.{Code, done, assign, call, return, test, loop, ended, goto, catch, protect, Item, external, global, declared, defined}
use Rattle.c_tree.specs.Functions.{fun_of, item_of, items_of}
use Rattle.c_tree.specs.Names.{is_main, is_maker, is_initializer, is_entry}
use Rattle.c_meaning.specs.Execution.{position_of, fun_named}
use Rattle.c_meaning.specs.Program.{functions_of}
use Rattle.c_meaning.specs.Plain.{Role, Main as Main_role, Maker, Initializer, Entry, Function, role_of, Signature, signature_of, signature_named, same_type, same_types, same_signature, code_fits, returns_last, is_looped, takes_nothing, is_straight, has_shape, function_fits, may_call, callable, item_fits, agrees, items_fit, defined_names, calls_each_once, is_sound, is_plain, IsPlain}
use Rattle.c_machine.specs.Decoded.{variables_of, variable_names, definitions, function_names, has_distinct, HasNames}
use Rattle.c_machine.proofs.Means.{meant, Shape, Straight, shape_of, statements_of, statements_in, shape_in, Inner, Outer, level_by, level_in, ShapeFits, Callable, Callee, Typed, AllTyped}
use Rattle.c_machine.proofs.Leading.{straight}
use Rattle.c_machine.proofs.Typing.{same_type_is}
use Rattle.c_machine.proofs.Sound.{place_in}

-- Definitions -------------------------------------------------------------------------------

-- an item that fits is a function
fits_after : (names : List (List ℕ)) (sigs : List Signature) (i : Item) (is : List Item) → items_fit names sigs (i ∷ is) ≡ true → items_fit names (signature_of i ∷ sigs) is ≡ true
fits_after names sigs i is h = (and_parts (agrees sigs (signature_of i) && item_fits names (signature_of i ∷ sigs) i) (items_fit names (signature_of i ∷ sigs) is) h).1

fits_first : (names : List (List ℕ)) (sigs : List Signature) (i : Item) (is : List Item) → items_fit names sigs (i ∷ is) ≡ true → (agrees sigs (signature_of i) ≡ true) × (item_fits names (signature_of i ∷ sigs) i ≡ true)
fits_first names sigs i is h =
    let s = signature_of i in
    let p = and_parts (agrees sigs s && item_fits names (s ∷ sigs) i) (items_fit names (s ∷ sigs) is) h in
    and_parts (agrees sigs s) (item_fits names (s ∷ sigs) i) p.0

no_extern : (names : List (List ℕ)) (sigs : List Signature) (v : CVar) (is : List Item) → items_fit names sigs (external v ∷ is) ≡ true → ⊥
no_extern names sigs v is h = let q = (fits_first names sigs (external v) is h).1 in absurd (cc)

no_global : (names : List (List ℕ)) (sigs : List Signature) (v : CVar) (is : List Item) → items_fit names sigs (global v ∷ is) ≡ true → ⊥
no_global names sigs v is h = let q = (fits_first names sigs (global v) is h).1 in absurd (cc)

names_defined : (names : List (List ℕ)) (sigs : List Signature) (is : List CItem) → items_fit names sigs (items_of is) ≡ true → defined_names (items_of is) ≡ function_names (definitions is)
unfolding definitions
names_defined names sigs [] h = refl
names_defined names sigs (Extern v ∷ is) h = absurd (no_extern names sigs v (items_of is) h)
names_defined names sigs (Global v ∷ is) h = absurd (no_global names sigs v (items_of is) h)
names_defined names sigs (Declared t n ps ∷ is) h = names_defined names _ is (fits_after names sigs (declared t n ps) (items_of is) h)
names_defined names sigs (Defined f ∷ is) h = ap (λ l. f.name ∷ l) (names_defined names _ is (fits_after names sigs (defined (fun_of f)) (items_of is) h))

pub functions_meant : (is : List CItem) → functions_of (items_of is) ≡ meant (definitions is)
unfolding definitions
functions_meant [] = refl
functions_meant (Extern v ∷ is) = functions_meant is
functions_meant (Global v ∷ is) = functions_meant is
functions_meant (Declared t n ps ∷ is) = functions_meant is
functions_meant (Defined f ∷ is) = ap (λ l. fun_of f ∷ l) (functions_meant is)

-- Signatures --------------------------------------------------------------------------------

abbrev Member : Signature → List Signature → Type 0
Member s [] = ⊥
Member s (t ∷ ts) = (s ≡ t) ⊎ Member s ts

-- the same types
record Same (a b : Signature) : Type 0 where
  result : a.result ≡ b.result
  params : a.params ≡ b.params

abbrev all_agree : List Signature → Bool
all_agree [] = true
all_agree (s ∷ sigs) = agrees sigs s && all_agree sigs

same_types_are : (ts us : List CTy) → same_types ts us ≡ true → ts ≡ us
same_types_are [] [] h = refl
same_types_are [] (u ∷ us) h = absurd (cc)
same_types_are (t ∷ ts) [] h = absurd (cc)
same_types_are (t ∷ ts) (u ∷ us) h =
    let p = and_parts (same_type t u) (same_types ts us) h in
    ap (λ x. x ∷ ts) (same_type_is t u p.0) ∙ ap (λ l. u ∷ l) (same_types_are ts us p.1)

same_if : (t s : Signature) (b : Bool) → (not b || same_signature t s) ≡ true → b ≡ true → Same t s
same_if t s true h e =
    let p = and_parts (same_type t.result s.result) (same_types t.params s.params) h in
    record { result = same_type_is t.result s.result p.0; params = same_types_are t.params s.params p.1 }
same_if t s false h e = absurd (cc)

agree_with : (sigs : List Signature) (s t : Signature) → agrees sigs s ≡ true → Member t sigs → is_same t.name s.name ≡ true → Same t s
agree_with [] s t h m e = absurd m
agree_with (u ∷ sigs) s t h m e =
    let p = and_parts (not (is_same u.name s.name) || same_signature u s) (agrees sigs s) h in
    elim m [ inl q ↦ same_if t s (is_same t.name s.name) (subst (λ (x : Signature). (not (is_same x.name s.name) || same_signature x s) ≡ true) (sym q) p.0) e | inr q ↦ agree_with sigs s t p.1 q e ]

flipped : (a b : Signature) → Same a b → Same b a
flipped a b h = record { result = sym h.result; params = sym h.params }

pair_same : (sigs : List Signature) (a b : Signature) → all_agree sigs ≡ true → Member a sigs → Member b sigs → is_same a.name b.name ≡ true → Same a b
pair_same [] a b h m n e = absurd m
pair_same (s ∷ sigs) a b h m n e =
    let p = and_parts (agrees sigs s) (all_agree sigs) h in
    let back : is_same b.name a.name ≡ true = nat_list_eq_equiv.symm b.name a.name ∙ e in
    elim m [
      | inl q ↦ elim n [
        | inl r ↦ record { result = ap (λ (x : Signature). x.result) (q ∙ sym r); params = ap (λ (x : Signature). x.params) (q ∙ sym r) }
        | inr r ↦ flipped b a (subst (λ (x : Signature). Same b x) (sym q) (agree_with sigs s b p.0 r (ap (λ (x : Signature). is_same b.name x.name) (sym q) ∙ back)))
      ]
      | inr q ↦ elim n [
        | inl r ↦ subst (λ (x : Signature). Same a x) (sym r) (agree_with sigs s a p.0 q (ap (λ (x : Signature). is_same a.name x.name) (sym r) ∙ e))
        | inr r ↦ pair_same sigs a b p.1 q r e
      ]
    ]

-- the signatures after these items
abbrev ends : List Signature → List CItem → List Signature
ends sigs [] = sigs
ends sigs (i ∷ is) = ends (signature_of (item_of i) ∷ sigs) is

abbrev signature_in : CFun → Signature
signature_in f = signature_of (defined (fun_of f))

ends_agree : (names : List (List ℕ)) (sigs : List Signature) (is : List CItem) → items_fit names sigs (items_of is) ≡ true → all_agree sigs ≡ true → all_agree (ends sigs is) ≡ true
ends_agree names sigs [] h a = a
ends_agree names sigs (i ∷ is) h a =
    let s = signature_of (item_of i) in
    let q = fits_first names sigs (item_of i) (items_of is) h in
    ends_agree names (s ∷ sigs) is (fits_after names sigs (item_of i) (items_of is) h) (and_from (agrees sigs s) (all_agree sigs) q.0 a)

ends_keep : (t : Signature) (sigs : List Signature) (is : List CItem) → Member t sigs → Member t (ends sigs is)
ends_keep t sigs [] m = m
ends_keep t sigs (i ∷ is) m = ends_keep t (signature_of (item_of i) ∷ sigs) is (inr m)

ends_have : (sigs : List Signature) (is : List CItem) (k : ℕ) (h : CFun) → slice_get (definitions is) k ≡ Some h → Member (signature_in h) (ends sigs is)
unfolding definitions
ends_have sigs [] k h e = absurd (cc)
ends_have sigs (Extern v ∷ is) k h e = ends_have (signature_of (item_of (Extern v)) ∷ sigs) is k h e
ends_have sigs (Global v ∷ is) k h e = ends_have (signature_of (item_of (Global v)) ∷ sigs) is k h e
ends_have sigs (Declared t n ps ∷ is) k h e = ends_have (signature_of (item_of (Declared t n ps)) ∷ sigs) is k h e
ends_have sigs (Defined f ∷ is) zero h e =
    let same : f ≡ h = cc in
    ends_keep (signature_in h) (signature_in f ∷ sigs) is (inl (ap signature_in (sym same)))
ends_have sigs (Defined f ∷ is) (suc k) h e = ends_have (signature_in f ∷ sigs) is k h e

-- a function, checked with the signatures up to its own
record CheckedAt (names : List (List ℕ)) (all : List Signature) (f : CFun) : Type 0 where
  sigs : List Signature
  fits : function_fits (callable (role_of f.name) names sigs) (fun_of f) ≡ true
  among : (t : Signature) → Member t sigs → Member t all

checked_at : (names : List (List ℕ)) (sigs : List Signature) (is : List CItem) (k : ℕ) (f : CFun) → items_fit names sigs (items_of is) ≡ true → slice_get (definitions is) k ≡ Some f → CheckedAt names (ends sigs is) f
unfolding definitions
checked_at names sigs [] k f h e = absurd (cc)
checked_at names sigs (Extern v ∷ is) k f h e = absurd (no_extern names sigs v (items_of is) h)
checked_at names sigs (Global v ∷ is) k f h e = absurd (no_global names sigs v (items_of is) h)
checked_at names sigs (Declared t n ps ∷ is) k f h e = checked_at names (signature_of (item_of (Declared t n ps)) ∷ sigs) is k f (fits_after names sigs (declared t n ps) (items_of is) h) e
checked_at names sigs (Defined g ∷ is) zero f h e =
    let s = signature_in g in
    let q = fits_first names sigs (item_of (Defined g)) (items_of is) h in
    let same : g ≡ f = cc in
    record {
      sigs = s ∷ sigs;
      fits = subst (λ (x : CFun). function_fits (callable (role_of x.name) names (s ∷ sigs)) (fun_of x) ≡ true) same q.1;
      among = λ t m. ends_keep t (s ∷ sigs) is m;
    }
checked_at names sigs (Defined g ∷ is) (suc k) f h e = checked_at names (signature_in g ∷ sigs) is k f (fits_after names sigs (item_of (Defined g)) (items_of is) h) e

all_distinct : (names : List (List ℕ)) (sigs : List Signature) (is : List CItem) → items_fit names sigs (items_of is) ≡ true → list_all has_distinct (definitions is) ≡ true
unfolding definitions
all_distinct names sigs [] h = refl
all_distinct names sigs (Extern v ∷ is) h = absurd (no_extern names sigs v (items_of is) h)
all_distinct names sigs (Global v ∷ is) h = absurd (no_global names sigs v (items_of is) h)
all_distinct names sigs (Declared t n ps ∷ is) h = all_distinct names _ is (fits_after names sigs (declared t n ps) (items_of is) h)
all_distinct names sigs (Defined g ∷ is) h =
    let s = signature_in g in
    let q = fits_first names sigs (item_of (Defined g)) (items_of is) h in
    let r = and_parts (are_distinct (variable_names (variables_of g))) (has_shape (callable (role_of g.name) names (s ∷ sigs)) (role_of g.name) (fun_of g)) q.1 in
    and_from (has_distinct g) (list_all has_distinct (definitions is)) r.0 (all_distinct names (s ∷ sigs) is (fits_after names sigs (item_of (Defined g)) (items_of is) h))

-- Functions by name -------------------------------------------------------------------------

-- the first function of a name
record Found (fs : List CFun) (g : List ℕ) : Type 0 where
  fun : CFun
  there : slice_get fs (position_of g (function_names fs)) ≡ Some fun
  found : fun_named (meant fs) g ≡ Some (fun_of fun)
  named : is_same fun.name g ≡ true

found_next : (f : CFun) (fs : List CFun) (g : List ℕ) (b : Bool) → is_same f.name g ≡ b → (b ≡ false → Found fs g) → Found (f ∷ fs) g
found_next f fs g true e rest =
    let back : is_same g f.name ≡ true = nat_list_eq_equiv.symm g f.name ∙ e in
    record {
      fun = f;
      there = ap (λ (c : Bool). slice_get (f ∷ fs) (if c then 0 else suc (position_of g (function_names fs)))) back;
      found = ap (λ (c : Bool). cond c (Some (fun_of f)) (fun_named (meant fs) g)) e;
      named = e;
    }
found_next f fs g false e rest =
    let back : is_same g f.name ≡ false = nat_list_eq_equiv.symm g f.name ∙ e in
    let r = rest refl in
    record {
      fun = r.fun;
      there = ap (λ (c : Bool). slice_get (f ∷ fs) (if c then 0 else suc (position_of g (function_names fs)))) back ∙ r.there;
      found = ap (λ (c : Bool). cond c (Some (fun_of f)) (fun_named (meant fs) g)) e ∙ r.found;
      named = r.named;
    }

found_at : (fs : List CFun) (g : List ℕ) → list_any (λ y. is_same y g) (function_names fs) ≡ true → Found fs g
found_at [] g h = absurd (cc)
found_at (f ∷ fs) g h = found_next f fs g (is_same f.name g) refl (λ e. found_at fs g (ap (λ b. b || list_any (λ y. is_same y g) (function_names fs)) (sym e) ∙ h))

any_flipped : (g : List ℕ) (names : List (List ℕ)) → list_any (λ y. is_same y g) names ≡ list_any (is_same g) names
any_flipped g [] = refl
any_flipped g (n ∷ names) = ap (λ b. b || list_any (λ y. is_same y g) names) (nat_list_eq_equiv.symm n g) ∙ ap (λ b. is_same g n || b) (any_flipped g names)

-- Callees -----------------------------------------------------------------------------------

-- a signature that a function may call
record Called (role : Role) (names : List (List ℕ)) (sigs : List Signature) (g : List ℕ) (s : Signature) : Type 0 where
  among : Member s sigs
  is_there : list_any (is_same s.name) names ≡ true
  may : may_call role (role_of s.name) ≡ true
  named : is_same s.name g ≡ true

abbrev is_callable : Role → List (List ℕ) → Signature → Bool
is_callable role names s = may_call role (role_of s.name) && list_any (is_same s.name) names

module _ (role : Role) (names : List (List ℕ)) where
  called_more : (t : Signature) (sigs : List Signature) (g : List ℕ) (s : Signature) → Called role names sigs g s → Called role names (t ∷ sigs) g s
  called_more t sigs g s c = record { among = inr c.among; is_there = c.is_there; may = c.may; named = c.named }

  called_in : (t : Signature) (sigs : List Signature) (g : List ℕ) (s : Signature) (b c : Bool) → is_callable role names t ≡ b → is_same t.name g ≡ c → (signature_named (callable role names sigs) g ≡ Some s → Called role names sigs g s) → find (λ (x : Signature). is_same x.name g) (cond b (t ∷ callable role names sigs) (callable role names sigs)) ≡ Some s → Called role names (t ∷ sigs) g s
  called_in t sigs g s true true eb ec rest h =
      let first : Some t ≡ Some s = ap (λ (c : Bool). cond c (Some t) (signature_named (callable role names sigs) g)) (sym ec) ∙ h in
      let same : t ≡ s = cc in
      let p = and_parts (may_call role (role_of t.name)) (list_any (is_same t.name) names) eb in
      record {
        among = inl (sym same);
        is_there = subst (λ (x : Signature). list_any (is_same x.name) names ≡ true) same p.1;
        may = subst (λ (x : Signature). may_call role (role_of x.name) ≡ true) same p.0;
        named = subst (λ (x : Signature). is_same x.name g ≡ true) same ec;
      }
  called_in t sigs g s true false eb ec rest h = called_more t sigs g s (rest (ap (λ (c : Bool). cond c (Some t) (signature_named (callable role names sigs) g)) (sym ec) ∙ h))
  called_in t sigs g s false c eb ec rest h = called_more t sigs g s (rest h)

  called : (sigs : List Signature) (g : List ℕ) (s : Signature) → signature_named (callable role names sigs) g ≡ Some s → Called role names sigs g s
  called [] g s h = absurd (cc)
  called (t ∷ sigs) g s h = called_in t sigs g s (is_callable role names t) (is_same t.name g) refl refl (called sigs g s) h

-- Functions ---------------------------------------------------------------------------------

-- statements are one loop
record IsLoop (c : Code) : Type 0 where
  label : List ℕ
  block : Code
  is : c ≡ loop label block done

loop_of : (sigs : List Signature) (vars : List CVar) (t : CTy) (c : Code) → is_looped sigs vars t c ≡ true → IsLoop c
loop_of sigs vars t (loop l body done) h = record { label = l; block = body; is = refl }
loop_of sigs vars t done h = absurd (cc)
loop_of sigs vars t (assign x e rest) h = absurd (cc)
loop_of sigs vars t (call c rest) h = absurd (cc)
loop_of sigs vars t (return e rest) h = absurd (cc)
loop_of sigs vars t (test e a b rest) h = absurd (cc)
loop_of sigs vars t (loop l body (assign x e rest)) h = absurd (cc)
loop_of sigs vars t (loop l body (call c rest)) h = absurd (cc)
loop_of sigs vars t (loop l body (return e rest)) h = absurd (cc)
loop_of sigs vars t (loop l body (test e a b rest)) h = absurd (cc)
loop_of sigs vars t (loop l body (loop m c rest)) h = absurd (cc)
loop_of sigs vars t (loop l body (ended c m rest)) h = absurd (cc)
loop_of sigs vars t (loop l body (goto m rest)) h = absurd (cc)
loop_of sigs vars t (loop l body (catch x y c rest)) h = absurd (cc)
loop_of sigs vars t (loop l body (protect a b rest)) h = absurd (cc)
loop_of sigs vars t (ended c m rest) h = absurd (cc)
loop_of sigs vars t (goto m rest) h = absurd (cc)
loop_of sigs vars t (catch x y c rest) h = absurd (cc)
loop_of sigs vars t (protect a b rest) h = absurd (cc)

loop_fits : (sigs : List Signature) (vars : List CVar) (t : CTy) (c : Code) → is_looped sigs vars t c ≡ true → code_fits sigs vars t (statements_of (shape_of c)) ≡ true
loop_fits sigs vars t c h =
    let l = loop_of sigs vars t c h in
    let fits : is_looped sigs vars t (loop l.label l.block done) ≡ true = subst (λ (d : Code). is_looped sigs vars t d ≡ true) l.is h in
    subst (λ (d : Code). code_fits sigs vars t (statements_of (shape_of d)) ≡ true) (sym l.is) fits

loop_called : (sigs : List Signature) (vars : List CVar) (t : CTy) (c : Code) → is_looped sigs vars t c ≡ true → Callable Inner (shape_of c)
loop_called sigs vars t c h = subst (λ (d : Code). Callable Inner (shape_of d)) (sym (loop_of sigs vars t c h).is) tt

-- what is known of a function without a loop
record IsStraight (sigs : List Signature) (t : CTy) (f : CFun) : Type 0 where
  params : f.params ≡ []
  result : f.result ≡ t
  fits : code_fits sigs (variables_of f) f.result (statements_in f) ≡ true
  shape : shape_in f ≡ Straight (statements_in f)

no_params : (ps : List CVar) → same_types (map (λ v. v.ty) ps) [] ≡ true → ps ≡ []
no_params [] h = refl
no_params (p ∷ ps) h = absurd (cc)

straight_fits : (sigs : List Signature) (t : CTy) (f : CFun) → is_straight sigs t (fun_of f) ≡ true → IsStraight sigs t f
straight_fits sigs t f h =
    let p = and_parts (takes_nothing t f.result (map (λ v. v.ty) f.params)) (code_fits sigs f.locals t (statements_in f) && returns_last (statements_in f)) h in
    let q = and_parts (same_type f.result t) (same_types (map (λ v. v.ty) f.params) []) p.0 in
    let r = and_parts (code_fits sigs f.locals t (statements_in f)) (returns_last (statements_in f)) p.1 in
    let params = no_params f.params q.1 in
    let result = same_type_is f.result t q.0 in
    record {
      params = params;
      result = result;
      fits = subst (λ (u : CTy). code_fits sigs (variables_of f) u (statements_in f) ≡ true) (sym result)
          (subst (λ (ps : List CVar). code_fits sigs (ps ++ f.locals) t (statements_in f) ≡ true) (sym params) r.0);
      shape = straight sigs f.locals t (statements_in f) r.0;
    }

-- the types of a function's statements
abbrev StatementsFit : List Signature → CFun → Shape → Type 0
StatementsFit sigs f shape = code_fits sigs (variables_of f) f.result (statements_of shape) ≡ true

straight_body : (sigs : List Signature) (t : CTy) (f : CFun) → is_straight sigs t (fun_of f) ≡ true → StatementsFit sigs f (shape_in f)
straight_body sigs t f h = let m = straight_fits sigs t f h in subst (λ (s : Shape). StatementsFit sigs f s) (sym m.shape) m.fits

body_fits : (sigs : List Signature) (f : CFun) (role : Role) → has_shape sigs role (fun_of f) ≡ true → StatementsFit sigs f (shape_in f)
body_fits sigs f Main_role h = straight_body sigs Int f h
body_fits sigs f Maker h = straight_body sigs Obj f h
body_fits sigs f Initializer h = straight_body sigs Obj f h
body_fits sigs f Entry h = absurd (cc)
body_fits sigs f Function h = loop_fits sigs (variables_of f) f.result (statements_in f) h

shape_fits : (sigs : List Signature) (f : CFun) (role : Role) → has_shape sigs role (fun_of f) ≡ true → ShapeFits (level_by role) (shape_in f)
shape_fits sigs f Main_role h = subst (λ (s : Shape). ShapeFits Outer s) (sym (straight_fits sigs Int f h).shape) tt
shape_fits sigs f Maker h = tt
shape_fits sigs f Initializer h = tt
shape_fits sigs f Entry h = tt
shape_fits sigs f Function h = tt

-- nothing calls `main`
called_inner : (caller role : Role) → may_call caller role ≡ true → level_by role ≡ Inner
called_inner Main_role Main_role h = absurd (cc)
called_inner Maker Main_role h = absurd (cc)
called_inner Initializer Main_role h = absurd (cc)
called_inner Entry Main_role h = absurd (cc)
called_inner Function Main_role h = absurd (cc)
called_inner caller Entry h = refl
called_inner caller Maker h = refl
called_inner caller Initializer h = refl
called_inner caller Function h = refl

-- and functions without a loop are called by `main` alone
called_shape : (caller role : Role) (sigs : List Signature) (f : CFun) → may_call caller role ≡ true → has_shape sigs role (fun_of f) ≡ true → Callable (level_by caller) (shape_in f)
called_shape Main_role role sigs f h k = tt
called_shape Maker role sigs f h k = absurd (cc)
called_shape Initializer Main_role sigs f h k = absurd (cc)
called_shape Initializer Maker sigs f h k = absurd (cc)
called_shape Initializer Initializer sigs f h k = absurd (cc)
called_shape Initializer Entry sigs f h k = absurd (cc)
called_shape Entry role sigs f h k = absurd (cc)
called_shape Function Entry sigs f h k = absurd (cc)
called_shape Initializer Function sigs f h k = loop_called sigs (variables_of f) f.result (statements_in f) k
called_shape Function Main_role sigs f h k = absurd (cc)
called_shape Function Maker sigs f h k = absurd (cc)
called_shape Function Initializer sigs f h k = absurd (cc)
called_shape Function Function sigs f h k = loop_called sigs (variables_of f) f.result (statements_in f) k

-- Programs ----------------------------------------------------------------------------------

record Parts (is : List CItem) : Type 0 where
  distinct : are_distinct (function_names (definitions is)) ≡ true
  fit : items_fit (function_names (definitions is)) [] (items_of is) ≡ true
  main : list_any is_main (function_names (definitions is)) ≡ true

parts : (is : List CItem) → IsPlain (items_of is) → Parts is
unfolding is_plain is_sound
parts is h =
    let names = defined_names (items_of is) in
    let p = and_parts (are_distinct names && items_fit names [] (items_of is)) (list_any is_main names && calls_each_once (items_of is)) h in
    let m = and_parts (list_any is_main names) (calls_each_once (items_of is)) p.1 in
    let q = and_parts (are_distinct names) (items_fit names [] (items_of is)) p.0 in
    let e = names_defined names [] is q.1 in
    record {
      distinct = subst (λ (n : List (List ℕ)). are_distinct n ≡ true) e q.0;
      fit = subst (λ (n : List (List ℕ)). items_fit n [] (items_of is) ≡ true) e q.1;
      main = subst (λ (n : List (List ℕ)). list_any is_main n ≡ true) e m.0;
    }

pub has_names : (is : List CItem) → IsPlain (items_of is) → HasNames is
has_names is h =
    let p = parts is h in
    record { functions = p.distinct; variables = all_distinct (function_names (definitions is)) [] is p.fit }

shape_here : (sigs : List Signature) (f : CFun) → function_fits sigs (fun_of f) ≡ true → has_shape sigs (role_of f.name) (fun_of f) ≡ true
shape_here sigs f h = (and_parts (are_distinct (variable_names (variables_of f))) (has_shape sigs (role_of f.name) (fun_of f)) h).1

module _ (is : List CItem) (p : Parts is) where
  abbrev all : List Signature
  all = ends [] is

  abbrev fs : List CFun
  fs = definitions is

  abbrev names : List (List ℕ)
  names = function_names fs

  callee_there : (role : Role) (sigs : List Signature) (g : List ℕ) (s : Signature) → ((t : Signature) → Member t sigs → Member t all) → Called role names sigs g s → Callee fs (level_by role) (place_in fs g) g s
  callee_there role sigs g s among c =
      let sg : s.name ≡ g = same_text s.name g (sym c.named) in
      let r = found_at fs g (any_flipped g names ∙ ap (λ (n : List ℕ). list_any (is_same n) names) (sym sg) ∙ c.is_there) in
      let h = r.fun in
      let hg : h.name ≡ g = same_text h.name g (sym r.named) in
      let k = checked_at names [] is (place_in fs g) h p.fit r.there in
      let may : may_call role (role_of h.name) ≡ true = ap (λ (n : List ℕ). may_call role (role_of n)) (hg ∙ sym sg) ∙ c.may in
      let here = callable (role_of h.name) names k.sigs in
      let same = pair_same all s (signature_in h) (ends_agree names [] is p.fit refl) (among s c.among) (ends_have [] is (place_in fs g) h r.there) (ap (is_same s.name) hg ∙ c.named) in
      record {
        fun = h;
        there = r.there;
        found = r.found;
        inner = called_inner role (role_of h.name) may;
        shape = called_shape role (role_of h.name) here h may (shape_here here h k.fits);
        params = sym same.params;
        result = sym same.result;
      }

  typed_at : (f : CFun) → CheckedAt names all f → Typed fs (place_in fs) f
  typed_at f c =
      let role = role_of f.name in
      let here = callable role names c.sigs in
      record {
        sigs = here;
        callees = λ g s h. callee_there role c.sigs g s c.among (called role names c.sigs g s h);
        shape = shape_fits here f role (shape_here here f c.fits);
        fits = body_fits here f role (shape_here here f c.fits);
      }

  typed_all : AllTyped fs (place_in fs)
  typed_all k f e = typed_at f (checked_at names [] is k f p.fit e)

-- the `main` of a program
pub record Main (is : List CItem) : Type 0 where
  pub fun : CFun
  pub there : slice_get (definitions is) (place_in (definitions is) (codes "main")) ≡ Some fun
  pub found : fun_named (meant (definitions is)) (codes "main") ≡ Some (fun_of fun)
  pub outer : level_in fun ≡ Outer
  pub straight : shape_in fun ≡ Straight (statements_in fun)
  pub params : fun.params ≡ []
  pub result : fun.result ≡ Int

pub all_typed : (is : List CItem) → IsPlain (items_of is) → AllTyped (definitions is) (place_in (definitions is))
all_typed is h = typed_all is (parts is h)

main_role : (name : List ℕ) → is_main name ≡ true → role_of name ≡ Main_role
main_role name e = ap (λ (b : Bool). if b then Main_role else (if is_maker name then Maker else (if is_initializer name then Initializer else (if is_entry name then Entry else Function)))) e

pub main_there : (is : List CItem) → IsPlain (items_of is) → Main is
main_there is h =
    let p = parts is h in
    let fs = definitions is in
    let names = function_names fs in
    let r = found_at fs (codes "main") p.main in
    let k = checked_at names [] is (place_in fs (codes "main")) r.fun p.fit r.there in
    let sigs = callable (role_of r.fun.name) names k.sigs in
    let role = main_role r.fun.name r.named in
    let shape : has_shape sigs Main_role (fun_of r.fun) ≡ true = subst (λ (q : Role). has_shape sigs q (fun_of r.fun) ≡ true) role (shape_here sigs r.fun k.fits) in
    let m = straight_fits sigs Int r.fun shape in
    record { fun = r.fun; there = r.there; found = r.found; outer = ap level_by role; straight = m.shape; params = m.params; result = m.result }
