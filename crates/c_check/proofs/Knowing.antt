-- Items, where the same is found in front of them.
use Rattle.std.proofs.Common.{◌≡◌, ℕ, Bool, true, false, not, ◌||◌, cond, List, [], ◌∷◌, ◌++◌, map, Option, Some, None, refl, sym, subst, ap, ◌∙◌, append_assoc}
use Rattle.std.specs.Option.{option_or}
use Rattle.std.proofs.lemmas.List.Folds.{list_any-append, find-append}
use Rattle.std.specs.Cmp.Lexicographic.{bytes_decides}
use Rattle.scheme_data.specs.Names.{is_same}
use Rattle.c_tree.specs.declared.tree.CTy.{CTy}
use Rattle.c_tree.specs.declared.tree.CVar.{CVar}
use Rattle.c_tree.specs.Code.{Code, Fun, Item, external, global, declared, defined}
use Rattle.c_tree.specs.Pieces.{pieces}
use Rattle.c_meaning.specs.declared.breach.BadCause.{BadCause}
use Rattle.c_meaning.specs.declared.breach.BadCause.TheVariants.{Clash, Twice, Shape}
use Rattle.c_meaning.specs.Plain.{Signature, signature_of, signature_named, variable_named, role_of, variables_of}
use Rattle.c_meaning.specs.Breaches.{unless, has, type_of, Scope, code_breaches, is_complete}
use Rattle.c_meaning.specs.Checked.{Known, global_agrees, result_breaches, params_before, types_breaches, params_breaches, locals_breaches, names_of_vars, body_scope, item_breaches, after_item, breach, name_of_item, items_breaches}
use Rattle.c_check.specs.Signatures.{or_added, with_signature}
use Rattle.c_check.specs.Agreeing.{Same}
use Rattle.c_check.specs.Walks.{start}
use Rattle.c_check.specs.Firsts.{first}
use Rattle.c_check.specs.Knowns.{SameKnown, MakesVariables, body_in, head_breaches, body_breaches}
use Rattle.c_check.specs.declared.known.Made.{Made}
use Rattle.c_check.specs.declared.known.Made.TheVariants.{Good, Bad}
use Rattle.c_check.proofs.Firsts.{first_found, first_missed}
use Rattle.c_check.proofs.Agreeing.{walk-same}
use Rattle.c_check.proofs.Walked.{walked}

-- Lists with one more -------------------------------------------------------------------------

-- a signature behind others is found where no other has its name
push-found : (sigs : List Signature) (s : Signature) (name : List ℕ) → signature_named (sigs ++ s ∷ []) name ≡ option_or (signature_named sigs name) (cond (is_same s.name name) (Some s) None)
push-found sigs s name = find-append (λ t. is_same t.name name) sigs (s ∷ [])

push-type : (vars : List CVar) (v : CVar) (x : List ℕ) → type_of (variable_named (vars ++ v ∷ []) x) ≡ option_or (type_of (variable_named vars x)) (cond (is_same v.name x) (Some v.ty) None)
push-type vars v x = ap type_of (find-append (λ w. is_same w.name x) vars (v ∷ [])) ∙ by (variable_named vars x) (is_same v.name x)
  where
    by : (o : Option CVar) (b : Bool) → type_of (option_or o (cond b (Some v) None)) ≡ option_or (type_of o) (cond b (Some v.ty) None)
    by None true = refl
    by None false = refl
    by (Some w) b = refl

pub types-of-both : (vars gs : List CVar) (x : List ℕ) → type_of (variable_named (vars ++ gs) x) ≡ option_or (type_of (variable_named vars x)) (type_of (variable_named gs x))
types-of-both vars gs x = ap type_of (find-append (λ w. is_same w.name x) vars gs) ∙ by (variable_named vars x) (variable_named gs x)
  where
    by : (o u : Option CVar) → type_of (option_or o u) ≡ option_or (type_of o) (type_of u)
    by None u = refl
    by (Some w) u = refl

or-nothing : {A : Type 0} (o : Option A) → option_or o None ≡ o
or-nothing None = refl
or-nothing (Some x) = refl

-- a table with one more finds what all find
pub with-found : (sigs : List Signature) (s : Signature) (name : List ℕ) → signature_named (with_signature sigs s) name ≡ signature_named (sigs ++ s ∷ []) name
with-found sigs s name = by (signature_named sigs s.name) refl
  where
    by : (o : Option Signature) → signature_named sigs s.name ≡ o → signature_named (or_added o sigs s) name ≡ signature_named (sigs ++ s ∷ []) name
    by None e = refl
    by (Some t) e = sym (push-found sigs s name ∙ case (is_same s.name name) refl)
      where
        case : (b : Bool) → is_same s.name name ≡ b → option_or (signature_named sigs name) (cond b (Some s) None) ≡ signature_named sigs name
        case true same =
            let at : signature_named sigs name ≡ Some t = ap (signature_named sigs) (sym ((bytes_decides s.name name).0 same)) ∙ e in
            ap (λ o. option_or o (Some s)) at ∙ sym at
        case false same = or-nothing (signature_named sigs name)

pub global-found : (vars more : List CVar) (v : CVar) (added : Bool) → added ≡ not (has (map (λ w. w.name) vars) v.name) → more ≡ cond added (vars ++ v ∷ []) vars → (x : List ℕ) → type_of (variable_named more x) ≡ type_of (variable_named (vars ++ v ∷ []) x)
global-found vars more v added is at x = by (has (map (λ w. w.name) vars) v.name) refl
  where
    known : (vs : List CVar) → has (map (λ w. w.name) vs) v.name ≡ true → is_same v.name x ≡ true → (o : Option CTy) → option_or (type_of (variable_named vs x)) o ≡ type_of (variable_named vs x)
    known [] h same o = absurd (cc)
    known (w ∷ ws) h same o = case (is_same v.name w.name) refl h (λ rest. known ws rest same o)
      where
        case : (b : Bool) → is_same v.name w.name ≡ b → (b || has (map (λ u. u.name) ws) v.name) ≡ true
            → (has (map (λ u. u.name) ws) v.name ≡ true → option_or (type_of (variable_named ws x)) o ≡ type_of (variable_named ws x))
            → option_or (type_of (cond (is_same w.name x) (Some w) (variable_named ws x))) o ≡ type_of (cond (is_same w.name x) (Some w) (variable_named ws x))
        case true e hit rest =
            let alike : is_same w.name x ≡ true = ap (λ n. is_same n x) (sym ((bytes_decides v.name w.name).0 e)) ∙ same in
            ap (λ b. option_or (type_of (cond b (Some w) (variable_named ws x))) o) alike ∙ ap (λ b. type_of (cond b (Some w) (variable_named ws x))) (sym alike)
        case false e hit rest = inner (is_same w.name x) (rest hit)
          where
            inner : (b : Bool) → option_or (type_of (variable_named ws x)) o ≡ type_of (variable_named ws x) → option_or (type_of (cond b (Some w) (variable_named ws x))) o ≡ type_of (cond b (Some w) (variable_named ws x))
            inner true r = refl
            inner false r = r

    by : (b : Bool) → has (map (λ w. w.name) vars) v.name ≡ b → type_of (variable_named more x) ≡ type_of (variable_named (vars ++ v ∷ []) x)
    by false e = ap (λ l. type_of (variable_named l x)) (at ∙ ap (λ b. cond b (vars ++ v ∷ []) vars) (is ∙ ap not e))
    by true e =
        ap (λ l. type_of (variable_named l x)) (at ∙ ap (λ b. cond b (vars ++ v ∷ []) vars) (is ∙ ap not e))
        ∙ sym (push-type vars v x ∙ other (is_same v.name x) refl)
      where
        other : (b : Bool) → is_same v.name x ≡ b → option_or (type_of (variable_named vars x)) (cond b (Some v.ty) None) ≡ type_of (variable_named vars x)
        other true same = known vars e same (Some v.ty)
        other false same = or-nothing (type_of (variable_named vars x))

-- Bodies --------------------------------------------------------------------------------------

-- the same scopes have the same breaches
pub code-same : (t s : Scope) (c : Code) → Same t s → code_breaches t c ≡ code_breaches s c
code-same t s c same =
    sym (walked t c)
    ∙ walk-same (pieces c []) (start t (pieces c [])) (start s (pieces c [])) (record { scope = same; frames = refl; ahead = refl })
    ∙ walked s c

same-body : (a b : Known) (f : Fun) → SameKnown a b → Same (body_in a f) (body_in b f)
same-body a b f same = record {
  role = refl;
  gives = refl;
  functions = same.functions;
  types = λ x. types-of-both (variables_of f) a.globals x ∙ ap (option_or (type_of (variable_named (variables_of f) x))) (same.globals x) ∙ sym (types-of-both (variables_of f) b.globals x);
  variables = refl;
  labels = λ l. refl;
  called = λ name. refl;
  calls = refl;
  blocks = refl;
  room = refl;
}

pub body-same : (a b : Known) (f : Fun) → SameKnown a b → body_breaches a f ≡ body_breaches b f
body-same a b f same = ap (λ q. q ++ unless Shape (is_complete (role_of f.name) f.code)) (code-same (body_in a f) (body_in b f) f.code (same-body a b f same))

-- Items ---------------------------------------------------------------------------------------

-- with a head
abbrev pub with_head : Known → Signature → Known
with_head k s = record k { functions = k.functions ++ s ∷ [] }

pub head-same : (a b : Known) (s : Signature) → SameKnown a b → SameKnown (with_head a s) (with_head b s)
head-same a b s same = record {
  functions = λ name. push-found a.functions s name ∙ ap (λ o. option_or o (cond (is_same s.name name) (Some s) None)) (same.functions name) ∙ sym (push-found b.functions s name);
  globals = same.globals;
  names = same.names;
}

-- a definition: its head, and then its body
pub definition : (k : Known) (f : Fun) → item_breaches k (defined f) ≡ head_breaches k f ++ body_breaches (with_head k (signature_of (defined f))) f
definition k f =
    group (result_breaches (role_of f.name) (signature_named k.functions f.name) f.result) (unless Twice (not (has k.names f.name)))
    (params_breaches (role_of f.name) (params_before (signature_named k.functions f.name)) [] f.params) (locals_breaches (names_of_vars f.params) f.locals)
    (code_breaches (body_scope k f) f.code ++ unless Shape (is_complete (role_of f.name) f.code))
  where
    group : (p q r s t : List BadCause) → p ++ (q ++ (r ++ (s ++ t))) ≡ (p ++ (q ++ (r ++ s))) ++ t
    group p q r s t = simp append_assoc

module _ (a b : Known) (same : SameKnown a b) where
  heads : (f : Fun) → head_breaches a f ≡ head_breaches b f
  heads f =
      λ i. result_breaches (role_of f.name) (same.functions f.name i) f.result
      ++ (unless Twice (not (same.names f.name i))
      ++ (params_breaches (role_of f.name) (params_before (same.functions f.name i)) [] f.params
      ++ locals_breaches (names_of_vars f.params) f.locals))

  pub item-same : (i : Item) → item_breaches a i ≡ item_breaches b i
  item-same (external v) = ap (λ o. unless Clash (global_agrees o v.ty)) (same.globals v.name)
  item-same (global v) = λ i. unless Clash (global_agrees (same.globals v.name i) v.ty) ++ unless Twice (not (same.names v.name i))
  item-same (declared t name params) =
      λ i. result_breaches (role_of name) (same.functions name i) t ++ types_breaches (role_of name) (params_before (same.functions name i)) params
  item-same (defined f) =
      definition a f
      ∙ (λ i. heads f i ++ body-same (with_head a (signature_of (defined f))) (with_head b (signature_of (defined f))) f (head-same a b (signature_of (defined f)) same) i)
      ∙ sym (definition b f)

  global-same : (v : CVar) (x : List ℕ) → type_of (variable_named (a.globals ++ v ∷ []) x) ≡ type_of (variable_named (b.globals ++ v ∷ []) x)
  global-same v x = push-type a.globals v x ∙ ap (λ o. option_or o (cond (is_same v.name x) (Some v.ty) None)) (same.globals x) ∙ sym (push-type b.globals v x)

  name-same : (n name : List ℕ) → has (a.names ++ n ∷ []) name ≡ has (b.names ++ n ∷ []) name
  name-same n name = list_any-append (is_same name) a.names (n ∷ []) ∙ ap (λ q. q || has (n ∷ []) name) (same.names name) ∙ sym (list_any-append (is_same name) b.names (n ∷ []))

  pub after_item-same : (i : Item) → SameKnown (after_item a i) (after_item b i)
  after_item-same (external v) = record { functions = same.functions; globals = global-same v; names = same.names }
  after_item-same (global v) = record { functions = same.functions; globals = global-same v; names = name-same v.name }
  after_item-same (declared t name params) = head-same a b (signature_of (declared t name params)) same
  after_item-same (defined f) = record { functions = (head-same a b (signature_of (defined f)) same).functions; globals = same.globals; names = name-same f.name }

pub items-same : (is : List Item) (a b : Known) → SameKnown a b → items_breaches a is ≡ items_breaches b is
items-same [] a b same = refl
items-same (i ∷ is) a b same =
    λ j. map (breach (name_of_item i)) (item-same a b same i j) ++ items-same is (after_item a i) (after_item b i) (after_item-same a b same i) j

-- Definitions ---------------------------------------------------------------------------------

pub bad_head : (k : Known) (f : Fun) (vars : List CVar) (made : Made) (cause : BadCause) → MakesVariables (head_breaches k f) vars made → made ≡ Bad cause → Some cause ≡ first (item_breaches k (defined f))
bad_head k f vars made cause makes is =
    sym (ap first (definition k f)
    ∙ first_found (head_breaches k f) (body_breaches (with_head k (signature_of (defined f))) f) cause (subst (MakesVariables (head_breaches k f) vars) is makes))

pub good_head : (k next : Known) (f : Fun) (vars : List CVar) (made : Made) (good : List CVar) (r : Option BadCause) → MakesVariables (head_breaches k f) vars made → made ≡ Good good → SameKnown next (after_item k (defined f)) → r ≡ first (body_breaches next f) → r ≡ first (item_breaches k (defined f))
good_head k next f vars made good r makes is same found =
    found ∙ ap first (body-same next (after_item k (defined f)) f same)
    ∙ sym (ap first (definition k f)
    ∙ first_missed (head_breaches k f) (body_breaches (with_head k (signature_of (defined f))) f) (subst (MakesVariables (head_breaches k f) vars) is makes).0)
