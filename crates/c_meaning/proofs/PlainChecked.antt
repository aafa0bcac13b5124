-- A program is plain exactly where it is checked and runnable.
use Rattle.std.proofs.Common.{◌≡◌, ◌⊎◌, inl, inr, ℕ, Bool, true, false, not, ◌&&◌, ◌||◌, List, [], ◌∷◌, ◌++◌, Option, Some, None, refl, sym, ap, ◌∙◌}
use Rattle.std.specs.Prelude.{map, codes, is_some, if◌then◌else◌}
use Rattle.std.specs.Option.{option_or}
use Rattle.std.specs.List.{list_all, list_any, flat_map}
use Rattle.std.specs.Cmp.Lexicographic.{bytes_decides}
use Rattle.std.proofs.lemmas.Bool.{and_from, and_parts, or_left, or_right}
use Rattle.std.proofs.lemmas.List.Folds.{list_all-append, list_any-append, list_all-map}
use Rattle.std.proofs.lemmas.Cmp.{nat_list_eq_equiv}
use Rattle.scheme_data.specs.Names.{are_distinct, is_same}
use Rattle.c_tree.specs.declared.tree.CTy.{CTy}
use Rattle.c_tree.specs.declared.tree.CVar.{CVar}
use Rattle.c_tree.specs.declared.tree.CExpr.{CExpr}
use Rattle.c_tree.specs.declared.tree.CExpr.TheVariants as expr
use Rattle.c_tree.specs.Names.{is_main, is_entry, is_function_name}
use Rattle.c_tree.specs.Code.{Code, done, assign, call, return, test, loop, ended, goto, catch, protect, Fun, Item, external, global, declared, defined}
use Rattle.c_tree.specs.Spelling.{NamedVars, NamedItem, NamedItems}
use Rattle.c_meaning.specs.declared.breach.BadCause.{BadCause}
use Rattle.c_meaning.specs.declared.breach.BadCause.TheVariants.{Undeclared, Twice, Shape}
use Rattle.c_meaning.specs.Plain.{Signature, signature_of, signature_named, variables_of, Role, Main, Maker, Initializer, Entry, Function, role_of, may_call, head_fits, has_shape, callable, item_fits, agrees, items_fit, defined_names, is_sound, is_called_once, once_in, once_in_main, all_called, item_names, calls_each_once, is_plain, IsPlain}
use Rattle.c_meaning.specs.Runnable.{is_local, is_runnable_code, is_runnable_function, is_runnable_item, IsRunnable}
use Rattle.c_meaning.specs.Breaches.{unless, has, called_in, calls_of, calls_in, code_breaches, is_complete}
use Rattle.c_meaning.specs.Checked.{params_before, result_breaches, types_breaches, params_breaches, locals_breaches, Known, names_of_vars, body_scope, item_breaches, name_of_item, breach, items_breaches, used_in_argument, used_in_call, used_in_expr, used_in, used_by, wanted_breaches, ends_breaches, main_breaches, text_breaches, breaches, IsChecked}
use Rattle.c_meaning.proofs.Tests.{not_true, is_none, none_both, none_map, none_flat, none_is, none_unless, are_fresh, fresh_distinct}
use Rattle.c_meaning.proofs.CodePlain.{once_code}
use Rattle.c_meaning.proofs.Roles.{function_no_local, once_no_local, is_once_role, is_main_role, is_entry_role, once_role, main_role, entry_role, may, once_same}
use Rattle.c_meaning.proofs.Heads.{declared_none, defined_none, SameFound, AreFound, agrees_signature, same_more, are_more, found_append, agree_found, found_agree}
use Rattle.c_meaning.proofs.Bodies.{IsApart, apart_of, Uses, body_checked, body_plain, body_distinct, body_head, body_runs, body_uses}

-- Names that are used -----------------------------------------------------------------------

within : (n : List ℕ) (xs ys us vs : List (List ℕ)) → (list_any (is_same n) xs ≡ true → list_any (is_same n) us ≡ true) → (list_any (is_same n) ys ≡ true → list_any (is_same n) vs ≡ true) → list_any (is_same n) (xs ++ ys) ≡ true → list_any (is_same n) (us ++ vs) ≡ true
within n xs ys us vs first second h =
    list_any-append (is_same n) us vs ∙ go (list_any (is_same n) xs) refl (sym (list_any-append (is_same n) xs ys) ∙ h)
  where
    go : (b : Bool) → list_any (is_same n) xs ≡ b → (list_any (is_same n) xs || list_any (is_same n) ys) ≡ true → (list_any (is_same n) us || list_any (is_same n) vs) ≡ true
    go true e k = or_left (list_any (is_same n) us) (list_any (is_same n) vs) (first e)
    go false e k = or_right (list_any (is_same n) us) (list_any (is_same n) vs) (second (ap (λ b. b || list_any (is_same n) ys) (sym e) ∙ k))

in_front : (n : List ℕ) (xs ys : List (List ℕ)) → list_any (is_same n) xs ≡ true → list_any (is_same n) (xs ++ ys) ≡ true
in_front n xs ys h = list_any-append (is_same n) xs ys ∙ or_left (list_any (is_same n) xs) (list_any (is_same n) ys) h

behind_those : (n : List ℕ) (xs ys : List (List ℕ)) → list_any (is_same n) ys ≡ true → list_any (is_same n) (xs ++ ys) ≡ true
behind_those n xs ys h = list_any-append (is_same n) xs ys ∙ or_right (list_any (is_same n) xs) (list_any (is_same n) ys) h

calls_expr : (n : List ℕ) (e : CExpr) → list_any (is_same n) (calls_of e) ≡ true → list_any (is_same n) (used_in_expr e) ≡ true
calls_expr n (expr.Atom a) h = absurd (cc)
calls_expr n (expr.Call c) h = in_front n (called_in c.callee) (flat_map used_in_argument c.args) h

-- what is called is used
calls_used : (n : List ℕ) (c : Code) → list_any (is_same n) (calls_in c) ≡ true → list_any (is_same n) (used_in c) ≡ true
calls_used n done h = h
calls_used n (assign x e rest) h =
    or_right (is_same n x) (list_any (is_same n) (used_in_expr e ++ used_in rest)) (within n (calls_of e) (calls_in rest) (used_in_expr e) (used_in rest) (calls_expr n e) (calls_used n rest) h)
calls_used n (call c rest) h = within n (called_in c.callee) (calls_in rest) (used_in_call c) (used_in rest) (calls_expr n (expr.Call c)) (calls_used n rest) h
calls_used n (return e rest) h = within n (calls_of e) (calls_in rest) (used_in_expr e) (used_in rest) (calls_expr n e) (calls_used n rest) h
calls_used n (test e a b rest) h =
    within n (calls_of e) (calls_in a ++ (calls_in b ++ calls_in rest)) (used_in_expr e) (used_in a ++ (used_in b ++ used_in rest)) (calls_expr n e)
    (within n (calls_in a) (calls_in b ++ calls_in rest) (used_in a) (used_in b ++ used_in rest) (calls_used n a)
    (within n (calls_in b) (calls_in rest) (used_in b) (used_in rest) (calls_used n b) (calls_used n rest))) h
calls_used n (loop l body rest) h = within n (calls_in body) (calls_in rest) (used_in body) (used_in rest) (calls_used n body) (calls_used n rest) h
calls_used n (ended body l rest) h = within n (calls_in body) (calls_in rest) (used_in body) (used_in rest) (calls_used n body) (calls_used n rest) h
calls_used n (goto l rest) h = calls_used n rest h
calls_used n (catch k r body rest) h = within n (calls_in body) (calls_in rest) (used_in body) (used_in rest) (calls_used n body) (calls_used n rest) h
calls_used n (protect a b rest) h =
    within n (calls_in a) (calls_in b ++ calls_in rest) (used_in a) (used_in b ++ used_in rest) (calls_used n a)
    (within n (calls_in b) (calls_in rest) (used_in b) (used_in rest) (calls_used n b) (calls_used n rest)) h

-- Items that fit ----------------------------------------------------------------------------

abbrev known : List Signature → List (List ℕ) → Known
known functions names = record { functions = functions; globals = []; names = names }

record FitsHere (names : List (List ℕ)) (sigs functions : List Signature) (i : Item) : Type 0 where
  same : SameFound (signature_of i ∷ sigs) (functions ++ signature_of i ∷ [])
  agree : agrees_signature (signature_named functions (signature_of i).name) (signature_of i) ≡ true
  fit : item_fits names (signature_of i ∷ sigs) i ≡ true

abbrev Fitted : List (List ℕ) → List Signature → List Signature → List Item → Type 0
Fitted names sigs functions [] = Unit {0}
Fitted names sigs functions (i ∷ is) = FitsHere names sigs functions i × Fitted names (signature_of i ∷ sigs) (functions ++ signature_of i ∷ []) is

fitted : (names : List (List ℕ)) (sigs functions : List Signature) (items : List Item) → SameFound sigs functions → items_fit names sigs items ≡ true → Fitted names sigs functions items
fitted names sigs functions [] same h = tt
fitted names sigs functions (i ∷ is) same h =
    let s = signature_of i in
    let p = and_parts (agrees sigs s && item_fits names (s ∷ sigs) i) (items_fit names (s ∷ sigs) is) h in
    let q = and_parts (agrees sigs s) (item_fits names (s ∷ sigs) i) p.0 in
    let agree : agrees_signature (signature_named functions s.name) s ≡ true = ap (λ o. agrees_signature o s) (sym (same s.name)) ∙ agree_found sigs s q.0 in
    let more = same_more functions s agree sigs same in
    (record { same = more; agree = agree; fit = q.1 }, fitted names (s ∷ sigs) (functions ++ s ∷ []) is more p.1)

no_entry : (role : Role) (t : CTy) (ts : List CTy) → head_fits role t ts ≡ true → is_entry_role role ≡ false
no_entry Main t ts h = refl
no_entry Maker t ts h = refl
no_entry Initializer t ts h = refl
no_entry Entry t ts h = absurd (cc)
no_entry Function t ts h = refl

-- the parts of a definition's breaches
regrouped : (r t p l b : Bool) → (r && (t && (p && (l && b)))) ≡ ((t && (r && (p && l))) && b)
regrouped true true true true b = refl
regrouped true true true false b = refl
regrouped true true false l b = refl
regrouped true false p l b = refl
regrouped false true p l b = refl
regrouped false false p l b = refl

six_none : (rs ts ps ls cs ss : List BadCause) → is_none (rs ++ (ts ++ (ps ++ (ls ++ (cs ++ ss))))) ≡ ((is_none ts && (is_none rs && (is_none ps && is_none ls))) && (is_none cs && is_none ss))
six_none rs ts ps ls cs ss =
    none_both rs (ts ++ (ps ++ (ls ++ (cs ++ ss))))
    ∙ ap (λ b. is_none rs && b) (none_both ts (ps ++ (ls ++ (cs ++ ss))) ∙ ap (λ b. is_none ts && b) (none_both ps (ls ++ (cs ++ ss)) ∙ ap (λ b. is_none ps && b) (none_both ls (cs ++ ss) ∙ ap (λ b. is_none ls && b) (none_both cs ss))))
    ∙ regrouped (is_none rs) (is_none ts) (is_none ps) (is_none ls) (is_none cs && is_none ss)

module _ (functions : List Signature) (ns : List (List ℕ)) where
  declared_is : (t : CTy) (name : List ℕ) (params : List CTy) → is_entry_role (role_of name) ≡ false
      → is_none (item_breaches (known functions ns) (declared t name params)) ≡ (agrees_signature (signature_named functions name) (signature_of (declared t name params)) && head_fits (role_of name) t params)
  declared_is t name params h =
      let before = signature_named functions name in
      none_both (result_breaches (role_of name) before t) (types_breaches (role_of name) (params_before before) params) ∙ declared_none (role_of name) before t params h

  -- what a definition is beside its body
  abbrev head_is : Fun → Bool
  head_is f =
      not (has ns f.name)
      && ((agrees_signature (signature_named functions f.name) (signature_of (defined f)) && head_fits (role_of f.name) f.result (map (λ v. v.ty) f.params)) && are_distinct (map (λ v. v.name) (variables_of f)))

  abbrev body_is : Fun → Bool
  body_is f = is_none (code_breaches (body_scope (known functions ns) f) f.code) && is_complete (role_of f.name) f.code

  defined_is : (f : Fun) → is_entry_role (role_of f.name) ≡ false → is_none (item_breaches (known functions ns) (defined f)) ≡ (head_is f && body_is f)
  defined_is f h =
      let role = role_of f.name in
      let before = signature_named functions f.name in
      let rs = result_breaches role before f.result in
      let ts = unless Twice (not (has ns f.name)) in
      let ps = params_breaches role (params_before before) [] f.params in
      let ls = locals_breaches (names_of_vars f.params) f.locals in
      let cs = code_breaches (body_scope (known functions ns) f) f.code in
      let ss = unless Shape (is_complete role f.code) in
      six_none rs ts ps ls cs ss
      ∙ (λ i. (none_unless Twice (not (has ns f.name)) i && defined_none role before f.result f.params f.locals h i) && (is_none cs && none_unless Shape (is_complete role f.code) i))

-- From plain to checked ---------------------------------------------------------------------

-- the calls of `main` are each made once
abbrev once_ok : Item → Bool
once_ok (defined f) = not (is_main f.name) || are_distinct (once_in f.code)
once_ok _ = true

or_then : (a b : Bool) → (not a || b) ≡ true → a ≡ true → b ≡ true
or_then true b h e = h
or_then false b h e = absurd (cc)

then_or : (a b : Bool) → (a ≡ true → b ≡ true) → (not a || b) ≡ true
then_or true b h = h refl
then_or false b h = refl

items_checked : (names : List (List ℕ)) (sigs functions : List Signature) (ns : List (List ℕ)) (items : List Item) → Fitted names sigs functions items → are_fresh ns (defined_names items) ≡ true → list_all once_ok items ≡ true → is_none (items_breaches (known functions ns) items) ≡ true
items_checked names sigs functions ns [] h fresh once = refl
items_checked names sigs functions ns (external v ∷ is) h fresh once = absurd (let q = h.0.fit in cc)
items_checked names sigs functions ns (global v ∷ is) h fresh once = absurd (let q = h.0.fit in cc)
items_checked names sigs functions ns (declared t name params ∷ is) h fresh once =
    let i = declared t name params in
    let s = signature_of i in
    let here = declared_is functions ns t name params (no_entry (role_of name) t params h.0.fit) ∙ and_from (agrees_signature (signature_named functions name) s) (head_fits (role_of name) t params) h.0.agree h.0.fit in
    none_both (map (breach name) (item_breaches (known functions ns) i)) (items_breaches (known (functions ++ s ∷ []) ns) is)
    ∙ and_from (is_none (map (breach name) (item_breaches (known functions ns) i))) (is_none (items_breaches (known (functions ++ s ∷ []) ns) is))
    (none_map (breach name) (item_breaches (known functions ns) i) ∙ here)
    (items_checked names (s ∷ sigs) (functions ++ s ∷ []) ns is h.1 fresh once)
items_checked names sigs functions ns (defined f ∷ is) h fresh once =
    let i = defined f in
    let s = signature_of i in
    let role = role_of f.name in
    let types = map (λ (v : CVar). v.ty) f.params in
    let vars = map (λ (v : CVar). v.name) (variables_of f) in
    let shape = and_parts (are_distinct vars) (has_shape (callable role names (s ∷ sigs)) role f) h.0.fit in
    let head = body_head names sigs functions f h.0.same role shape.1 in
    let new = and_parts (not (has ns f.name)) (are_fresh (ns ++ f.name ∷ []) (defined_names is)) fresh in
    let main = and_parts (once_ok i) (list_all once_ok is) once in
    let body = body_checked names sigs functions f h.0.same role shape.1 (λ e. or_then (is_main f.name) (are_distinct (once_in f.code)) main.0 (sym (main_role f.name) ∙ e)) in
    let front = and_from (agrees_signature (signature_named functions f.name) s && head_fits role f.result types) (are_distinct vars) (and_from (agrees_signature (signature_named functions f.name) s) (head_fits role f.result types) h.0.agree head) shape.0 in
    let here = defined_is functions ns f (no_entry role f.result types head) ∙ and_from (head_is functions ns f) (body_is functions ns f) (and_from (not (has ns f.name)) ((agrees_signature (signature_named functions f.name) s && head_fits role f.result types) && are_distinct vars) new.0 front) body in
    none_both (map (breach f.name) (item_breaches (known functions ns) i)) (items_breaches (known (functions ++ s ∷ []) (ns ++ f.name ∷ [])) is)
    ∙ and_from (is_none (map (breach f.name) (item_breaches (known functions ns) i))) (is_none (items_breaches (known (functions ++ s ∷ []) (ns ++ f.name ∷ [])) is))
    (none_map (breach f.name) (item_breaches (known functions ns) i) ∙ here)
    (items_checked names (s ∷ sigs) (functions ++ s ∷ []) (ns ++ f.name ∷ []) is h.1 new.1 main.1)

-- From checked to plain ---------------------------------------------------------------------

-- what is found and used is defined
abbrev Met : List (List ℕ) → List (List ℕ) → List Signature → Type 0
Met used names functions = (n : List ℕ) → is_some (signature_named functions n) ≡ true → list_any (is_same n) used ≡ true → list_any (is_same n) names ≡ true

abbrev is_met : List (List ℕ) → List (List ℕ) → Item → Bool
is_met used names i = (not (has used (name_of_item i)) || has names (name_of_item i)) && (not (is_called_once (name_of_item i)) || has used (name_of_item i))

met_more : (used names : List (List ℕ)) (functions : List Signature) (i : Item) → Met used names functions → is_met used names i ≡ true → Met used names (functions ++ signature_of i ∷ [])
met_more used names functions i met h n found used_here =
    let s = signature_of i in
    let p = and_parts (not (has used s.name) || has names s.name) (not (is_called_once s.name) || has used s.name) h in
    go (signature_named functions n) refl (is_same s.name n) refl (ap is_some (sym (found_append functions s n)) ∙ found) p.0
  where
    go : (o : Option Signature) → signature_named functions n ≡ o → (b : Bool) → is_same (signature_of i).name n ≡ b → is_some (option_or o (if b then Some (signature_of i) else None)) ≡ true
        → (not (has used (signature_of i).name) || has names (signature_of i).name) ≡ true → list_any (is_same n) names ≡ true
    go (Some f) e b eb k w = met n (ap is_some e) used_here
    go None e true eb k w =
        let name = (bytes_decides (signature_of i).name n).0 eb in
        ap (λ m. has names m) (sym name) ∙ or_then (has used (signature_of i).name) (has names (signature_of i).name) w (ap (λ m. has used m) name ∙ used_here)
    go None e false eb k w = absurd (cc)

record PlainItems (names : List (List ℕ)) (sigs : List Signature) (ns : List (List ℕ)) (items : List Item) : Type 0 where
  fit : items_fit names sigs items ≡ true
  fresh : are_fresh ns (defined_names items) ≡ true
  once : list_all once_ok items ≡ true

abbrev Within : List (List ℕ) → List Item → Type 0
Within used items = (n : List ℕ) → list_any (is_same n) (flat_map used_by items) ≡ true → list_any (is_same n) used ≡ true

module _ (used names : List (List ℕ)) where
  items_plain : (sigs functions : List Signature) (ns : List (List ℕ)) (items : List Item) → SameFound sigs functions → AreFound functions sigs → is_none (items_breaches (known functions ns) items) ≡ true
      → list_all is_runnable_item items ≡ true → list_all (is_met used names) items ≡ true → Met used names functions → Within used items → PlainItems names sigs ns items
  items_plain sigs functions ns [] same are h runs wants met inside = record { fit = refl; fresh = refl; once = refl }
  items_plain sigs functions ns (external v ∷ is) same are h runs wants met inside = absurd (cc)
  items_plain sigs functions ns (global v ∷ is) same are h runs wants met inside = absurd (cc)
  items_plain sigs functions ns (declared t name params ∷ is) same are h runs wants met inside =
      let i = declared t name params in
      let s = signature_of i in
      let run = and_parts (is_runnable_item i) (list_all is_runnable_item is) runs in
      let want = and_parts (is_met used names i) (list_all (is_met used names) is) wants in
      let p = and_parts (is_none (map (breach name) (item_breaches (known functions ns) i))) (is_none (items_breaches (known (functions ++ s ∷ []) ns) is)) (sym (none_both (map (breach name) (item_breaches (known functions ns) i)) (items_breaches (known (functions ++ s ∷ []) ns) is)) ∙ h) in
      let here = sym (declared_is functions ns t name params (entry_role name ∙ not_true (is_entry name) run.0)) ∙ sym (none_map (breach name) (item_breaches (known functions ns) i)) ∙ p.0 in
      let q = and_parts (agrees_signature (signature_named functions name) s) (head_fits (role_of name) t params) here in
      let rest = items_plain (s ∷ sigs) (functions ++ s ∷ []) ns is (same_more functions s q.0 sigs same) (are_more functions s q.0 sigs are) p.1 run.1 want.1 (met_more used names functions i met want.0) inside in
      record {
        fit = and_from (agrees sigs s && item_fits names (s ∷ sigs) i) (items_fit names (s ∷ sigs) is) (and_from (agrees sigs s) (item_fits names (s ∷ sigs) i) (found_agree functions sigs s are q.0) q.1) rest.fit;
        fresh = rest.fresh;
        once = rest.once;
      }
  items_plain sigs functions ns (defined f ∷ is) same are h runs wants met inside =
      let i = defined f in
      let s = signature_of i in
      let role = role_of f.name in
      let types = map (λ (v : CVar). v.ty) f.params in
      let vars = map (λ (v : CVar). v.name) (variables_of f) in
      let run = and_parts (is_runnable_item i) (list_all is_runnable_item is) runs in
      let form = and_parts (not (is_entry f.name)) (is_runnable_function f) run.0 in
      let codes = and_parts (list_all is_local (variables_of f)) (is_runnable_code f.code) form.1 in
      let want = and_parts (is_met used names i) (list_all (is_met used names) is) wants in
      let later = items_breaches (known (functions ++ s ∷ []) (ns ++ f.name ∷ [])) is in
      let p = and_parts (is_none (map (breach f.name) (item_breaches (known functions ns) i))) (is_none later) (sym (none_both (map (breach f.name) (item_breaches (known functions ns) i)) later) ∙ h) in
      let entry = entry_role f.name ∙ not_true (is_entry f.name) form.0 in
      let here = sym (defined_is functions ns f entry) ∙ sym (none_map (breach f.name) (item_breaches (known functions ns) i)) ∙ p.0 in
      let parts = and_parts (head_is functions ns f) (body_is functions ns f) here in
      let head = and_parts (not (has ns f.name)) ((agrees_signature (signature_named functions f.name) s && head_fits role f.result types) && are_distinct vars) parts.0 in
      let front = and_parts (agrees_signature (signature_named functions f.name) s && head_fits role f.result types) (are_distinct vars) head.1 in
      let q = and_parts (agrees_signature (signature_named functions f.name) s) (head_fits role f.result types) front.0 in
      let more = same_more functions s q.0 sigs same in
      let met_here = met_more used names functions i met want.0 in
      let used_here = λ (n : List ℕ) (e : list_any (is_same n) (used_in f.code) ≡ true). inside n (in_front n (used_in f.code) (flat_map used_by is) e) in
      let shape = body_plain names sigs functions f more role entry q.1 codes.1 parts.1 (λ n e m. met_here n e (used_here n (calls_used n f.code m))) in
      let rest = items_plain (s ∷ sigs) (functions ++ s ∷ []) (ns ++ f.name ∷ []) is more (are_more functions s q.0 sigs are) p.1 run.1 want.1 met_here (λ n e. inside n (behind_those n (used_in f.code) (flat_map used_by is) e)) in
      record {
        fit = and_from (agrees sigs s && item_fits names (s ∷ sigs) i) (items_fit names (s ∷ sigs) is)
            (and_from (agrees sigs s) (item_fits names (s ∷ sigs) i) (found_agree functions sigs s are q.0) (and_from (are_distinct vars) (has_shape (callable role names (s ∷ sigs)) role f) front.1 shape)) rest.fit;
        fresh = and_from (not (has ns f.name)) (are_fresh (ns ++ f.name ∷ []) (defined_names is)) head.0 rest.fresh;
        once = and_from (once_ok i) (list_all once_ok is) (then_or (is_main f.name) (are_distinct (once_in f.code)) (λ e. body_distinct names sigs functions f more role codes.1 parts.1 (main_role f.name ∙ e))) rest.once;
      }

-- Uses --------------------------------------------------------------------------------------

-- the variables of functions are locals
abbrev has_locals : Item → Bool
has_locals (defined f) = list_all is_local (variables_of f)
has_locals _ = true

or_either : (a b : Bool) → (a || b) ≡ true → (a ≡ true) ⊎ (b ≡ true)
or_either true b h = inl refl
or_either false b h = inr h

used_either : (n : List ℕ) (xs ys : List (List ℕ)) → list_any (is_same n) (xs ++ ys) ≡ true → (list_any (is_same n) xs ≡ true) ⊎ (list_any (is_same n) ys ≡ true)
used_either n xs ys h = or_either (list_any (is_same n) xs) (list_any (is_same n) ys) (sym (list_any-append (is_same n) xs ys) ∙ h)

-- a name that a function uses, and no local has
uses_here : (names : List (List ℕ)) (sigs functions : List Signature) (f : Fun) (n : List ℕ) → FitsHere names sigs functions (defined f) → list_all is_local (variables_of f) ≡ true → IsApart n → list_any (is_same n) (used_in f.code) ≡ true → Uses (role_of f.name) names n f.code
uses_here names sigs functions f n h locals apart used =
    let role = role_of f.name in
    let shape = and_parts (are_distinct (map (λ (v : CVar). v.name) (variables_of f))) (has_shape (callable role names (signature_of (defined f) ∷ sigs)) role f) h.fit in
    body_uses names sigs functions f h.same role n shape.1 (apart_of n apart (variables_of f) locals) used

-- is defined
items_used : (names : List (List ℕ)) (sigs functions : List Signature) (items : List Item) (n : List ℕ) → Fitted names sigs functions items → list_all has_locals items ≡ true → IsApart n → list_any (is_same n) (flat_map used_by items) ≡ true → list_any (is_same n) names ≡ true
items_used names sigs functions [] n h locals apart used = absurd (cc)
items_used names sigs functions (external v ∷ is) n h locals apart used = absurd (let q = h.0.fit in cc)
items_used names sigs functions (global v ∷ is) n h locals apart used = absurd (let q = h.0.fit in cc)
items_used names sigs functions (declared t name params ∷ is) n h locals apart used = items_used names _ _ is n h.1 locals apart used
items_used names sigs functions (defined f ∷ is) n h locals apart used =
    let p = and_parts (list_all is_local (variables_of f)) (list_all has_locals is) locals in
    let later = items_used names (signature_of (defined f) ∷ sigs) (functions ++ signature_of (defined f) ∷ []) is n h.1 p.1 apart in
    elim (used_either n (used_in f.code) (flat_map used_by is) used) [
      | inl e ↦ (and_parts (may (role_of f.name) n) (list_any (is_same n) names) (uses_here names sigs functions f n h.0 p.0 apart e).may_be).1
      | inr e ↦ later e
    ]

-- a maker or an initialisation is called by `main` alone
main_only : (role other : Role) → is_once_role other ≡ true → may_call role other ≡ true → is_main_role role ≡ true
main_only Main other h m = refl
main_only Maker other h m = absurd (cc)
main_only Initializer Main h m = absurd (cc)
main_only Initializer Maker h m = absurd (cc)
main_only Initializer Initializer h m = absurd (cc)
main_only Initializer Entry h m = absurd (cc)
main_only Initializer Function h m = absurd (cc)
main_only Entry other h m = absurd (cc)
main_only Function Main h m = absurd (cc)
main_only Function Maker h m = absurd (cc)
main_only Function Initializer h m = absurd (cc)
main_only Function Entry h m = absurd (cc)
main_only Function Function h m = absurd (cc)

-- where `main` calls such, there is a `main`
main_there : (n : List ℕ) (items : List Item) → list_any (is_same n) (once_in_main items) ≡ true → list_any is_main (defined_names items) ≡ true
main_there n [] h = absurd (cc)
main_there n (external v ∷ is) h = main_there n is h
main_there n (global v ∷ is) h = or_right (is_main v.name) (list_any is_main (defined_names is)) (main_there n is h)
main_there n (declared t name params ∷ is) h = main_there n is h
main_there n (defined f ∷ is) h = go (is_main f.name) h (main_there n is)
  where
    go : (b : Bool) → list_any (is_same n) (if b then once_in f.code else once_in_main is) ≡ true → (list_any (is_same n) (once_in_main is) ≡ true → list_any is_main (defined_names is) ≡ true) → (b || list_any is_main (defined_names is)) ≡ true
    go true k later = refl
    go false k later = later k

any_main : (name : List ℕ) (names : List (List ℕ)) → is_main name ≡ true → list_any is_main names ≡ list_any (is_same name) names
any_main name [] h = refl
any_main name (m ∷ names) h =
    let is_the : is_main m ≡ is_same name m = nat_list_eq_equiv.symm m (109 ∷ 97 ∷ 105 ∷ 110 ∷ []) ∙ ap (λ k. is_same k m) (sym ((bytes_decides name (109 ∷ 97 ∷ 105 ∷ 110 ∷ [])).0 h)) in
    λ i. is_the i || any_main name names h i

once_apart : (n : List ℕ) → is_called_once n ≡ true → IsApart n
once_apart n once v local = once_no_local n v.name once local

-- a maker or an initialisation that is used is called by the first `main`
items_once : (names : List (List ℕ)) (sigs functions : List Signature) (items : List Item) (n : List ℕ) → Fitted names sigs functions items → list_all has_locals items ≡ true → are_distinct (defined_names items) ≡ true → is_called_once n ≡ true
    → list_any (is_same n) (flat_map used_by items) ≡ true → list_any (is_same n) (once_in_main items) ≡ true
items_once names sigs functions [] n h locals distinct once used = absurd (cc)
items_once names sigs functions (external v ∷ is) n h locals distinct once used = absurd (let q = h.0.fit in cc)
items_once names sigs functions (global v ∷ is) n h locals distinct once used = absurd (let q = h.0.fit in cc)
items_once names sigs functions (declared t name params ∷ is) n h locals distinct once used = items_once names _ _ is n h.1 locals distinct once used
items_once names sigs functions (defined f ∷ is) n h locals distinct once used =
    let p = and_parts (list_all is_local (variables_of f)) (list_all has_locals is) locals in
    let d = and_parts (not (list_any (is_same f.name) (defined_names is))) (are_distinct (defined_names is)) distinct in
    let later = items_once names (signature_of (defined f) ∷ sigs) (functions ++ signature_of (defined f) ∷ []) is n h.1 p.1 d.1 once in
    elim (used_either n (used_in f.code) (flat_map used_by is) used) [
      | inl e ↦ here (uses_here names sigs functions f n h.0 p.0 (once_apart n once) e)
      | inr e ↦ behind (is_main f.name) refl (not_true (list_any (is_same f.name) (defined_names is)) d.0) (later e)
    ]
  where
    here : Uses (role_of f.name) names n f.code → list_any (is_same n) (if is_main f.name then once_in f.code else once_in_main is) ≡ true
    here u =
        let m = and_parts (may (role_of f.name) n) (list_any (is_same n) names) u.may_be in
        let main : is_main f.name ≡ true = sym (main_role f.name) ∙ main_only (role_of f.name) (role_of n) (sym (once_role n) ∙ once) m.0 in
        ap (λ b. list_any (is_same n) (if b then once_in f.code else once_in_main is)) main
        ∙ ap (list_any (is_same n)) (once_code f.code)
        ∙ once_same n (calls_in f.code) once
        ∙ u.called

    behind : (b : Bool) → is_main f.name ≡ b → list_any (is_same f.name) (defined_names is) ≡ false → list_any (is_same n) (once_in_main is) ≡ true → list_any (is_same n) (if b then once_in f.code else once_in_main is) ≡ true
    behind false e none k = k
    behind true e none k = absurd (let q : true ≡ false = sym (main_there n is k) ∙ any_main f.name (defined_names is) e ∙ none in cc)

-- what `main` calls is used
main_used : (n : List ℕ) (items : List Item) → is_called_once n ≡ true → list_any (is_same n) (once_in_main items) ≡ true → list_any (is_same n) (flat_map used_by items) ≡ true
main_used n [] once h = h
main_used n (external v ∷ is) once h = main_used n is once h
main_used n (global v ∷ is) once h = main_used n is once h
main_used n (declared t name params ∷ is) once h = main_used n is once h
main_used n (defined f ∷ is) once h = go (is_main f.name) h (main_used n is once)
  where
    go : (b : Bool) → list_any (is_same n) (if b then once_in f.code else once_in_main is) ≡ true → (list_any (is_same n) (once_in_main is) ≡ true → list_any (is_same n) (flat_map used_by is) ≡ true) → list_any (is_same n) (used_in f.code ++ flat_map used_by is) ≡ true
    go true k later = in_front n (used_in f.code) (flat_map used_by is) (calls_used n f.code (sym (once_same n (calls_in f.code) once) ∙ ap (list_any (is_same n)) (sym (once_code f.code)) ∙ k))
    go false k later = behind_those n (used_in f.code) (flat_map used_by is) (later k)

-- The calls of `main` -----------------------------------------------------------------------

-- without a `main` there are none
none_once : (items : List Item) → list_any is_main (defined_names items) ≡ false → list_all once_ok items ≡ true
none_once [] h = refl
none_once (external v ∷ is) h = none_once is h
none_once (global v ∷ is) h = none_once is (or_none (is_main v.name) (list_any is_main (defined_names is)) h).1
  where
    or_none : (a b : Bool) → (a || b) ≡ false → (a ≡ false) × (b ≡ false)
    or_none true b e = absurd (cc)
    or_none false b e = (refl, e)
none_once (declared t name params ∷ is) h = none_once is h
none_once (defined f ∷ is) h =
    let p = or_none (is_main f.name) (list_any is_main (defined_names is)) h in
    and_from (once_ok (defined f)) (list_all once_ok is) (ap (λ b. not b || are_distinct (once_in f.code)) p.0) (none_once is p.1)
  where
    or_none : (a b : Bool) → (a || b) ≡ false → (a ≡ false) × (b ≡ false)
    or_none true b e = absurd (cc)
    or_none false b e = (refl, e)

-- the first `main` is the only one
each_once : (items : List Item) → are_distinct (defined_names items) ≡ true → are_distinct (once_in_main items) ≡ true → list_all once_ok items ≡ true
each_once [] d h = refl
each_once (external v ∷ is) d h = each_once is d h
each_once (global v ∷ is) d h = each_once is (and_parts (not (list_any (is_same v.name) (defined_names is))) (are_distinct (defined_names is)) d).1 h
each_once (declared t name params ∷ is) d h = each_once is d h
each_once (defined f ∷ is) d h =
    let p = and_parts (not (list_any (is_same f.name) (defined_names is))) (are_distinct (defined_names is)) d in
    go (is_main f.name) refl h (not_true (list_any (is_same f.name) (defined_names is)) p.0) (each_once is p.1)
  where
    go : (b : Bool) → is_main f.name ≡ b → are_distinct (if b then once_in f.code else once_in_main is) ≡ true → list_any (is_same f.name) (defined_names is) ≡ false → (are_distinct (once_in_main is) ≡ true → list_all once_ok is ≡ true) → (once_ok (defined f) && list_all once_ok is) ≡ true
    go true e k none later = and_from (once_ok (defined f)) (list_all once_ok is) (then_or (is_main f.name) (are_distinct (once_in f.code)) (λ _. k)) (none_once is (any_main f.name (defined_names is) e ∙ none))
    go false e k none later = and_from (once_ok (defined f)) (list_all once_ok is) (ap (λ b. not b || are_distinct (once_in f.code)) e) (later k)

once_each : (items : List Item) → list_all once_ok items ≡ true → are_distinct (once_in_main items) ≡ true
once_each [] h = refl
once_each (external v ∷ is) h = once_each is h
once_each (global v ∷ is) h = once_each is h
once_each (declared t name params ∷ is) h = once_each is h
once_each (defined f ∷ is) h =
    let p = and_parts (once_ok (defined f)) (list_all once_ok is) h in
    go (is_main f.name) p.0 (once_each is p.1)
  where
    go : (b : Bool) → (not b || are_distinct (once_in f.code)) ≡ true → are_distinct (once_in_main is) ≡ true → are_distinct (if b then once_in f.code else once_in_main is) ≡ true
    go true e later = e
    go false e later = later

-- Names of a text ---------------------------------------------------------------------------

named_vars : (vs : List CVar) → NamedVars vs → list_all is_local vs ≡ true
named_vars [] h = refl
named_vars (v ∷ vs) h = and_from (is_local v) (list_all is_local vs) h.0 (named_vars vs h.1)

named_item : (i : Item) → NamedItem i → has_locals i ≡ true
named_item (external v) h = refl
named_item (global v) h = refl
named_item (declared t name params) h = refl
named_item (defined f) h = list_all-append is_local f.params f.locals ∙ and_from (list_all is_local f.params) (list_all is_local f.locals) (named_vars f.params h.1) (named_vars f.locals h.2)

named_locals : (items : List Item) → NamedItems items → list_all has_locals items ≡ true
named_locals [] h = refl
named_locals (i ∷ is) h = and_from (has_locals i) (list_all has_locals is) (named_item i h.0) (named_locals is h.1)

-- an item that fits is a function
function_named : (names : List (List ℕ)) (sigs functions : List Signature) (i : Item) → FitsHere names sigs functions i → NamedItem i → is_function_name (name_of_item i) ≡ true
function_named names sigs functions (external v) h named = absurd (let q = h.fit in cc)
function_named names sigs functions (global v) h named = absurd (let q = h.fit in cc)
function_named names sigs functions (declared t name params) h named = named
function_named names sigs functions (defined f) h named = named.0

runnable_item : (names : List (List ℕ)) (sigs functions : List Signature) (i : Item) → FitsHere names sigs functions i → NamedItem i → is_runnable_item i ≡ true
runnable_item names sigs functions (external v) h named = absurd (let q = h.fit in cc)
runnable_item names sigs functions (global v) h named = absurd (let q = h.fit in cc)
runnable_item names sigs functions (declared t name params) h named = ap not (sym (entry_role name) ∙ no_entry (role_of name) t params h.fit)
runnable_item names sigs functions (defined f) h named =
    let role = role_of f.name in
    let shape = and_parts (are_distinct (map (λ (v : CVar). v.name) (variables_of f))) (has_shape (callable role names (signature_of (defined f) ∷ sigs)) role f) h.fit in
    let head = body_head names sigs functions f h.same role shape.1 in
    and_from (not (is_entry f.name)) (is_runnable_function f) (ap not (sym (entry_role f.name) ∙ no_entry role f.result (map (λ (v : CVar). v.ty) f.params) head))
    (and_from (list_all is_local (variables_of f)) (is_runnable_code f.code) (named_item (defined f) named) (body_runs names sigs functions f h.same role shape.1))

items_runnable : (names : List (List ℕ)) (sigs functions : List Signature) (items : List Item) → Fitted names sigs functions items → NamedItems items → list_all is_runnable_item items ≡ true
items_runnable names sigs functions [] h named = refl
items_runnable names sigs functions (i ∷ is) h named = and_from (is_runnable_item i) (list_all is_runnable_item is) (runnable_item names sigs functions i h.0 named.0) (items_runnable names _ _ is h.1 named.1)

runnable_locals : (items : List Item) → list_all is_runnable_item items ≡ true → list_all has_locals items ≡ true
runnable_locals [] h = refl
runnable_locals (external v ∷ is) h = absurd (cc)
runnable_locals (global v ∷ is) h = absurd (cc)
runnable_locals (declared t name params ∷ is) h = runnable_locals is (and_parts (not (is_entry name)) (list_all is_runnable_item is) h).1
runnable_locals (defined f ∷ is) h =
    let p = and_parts (not (is_entry f.name) && is_runnable_function f) (list_all is_runnable_item is) h in
    let q = and_parts (not (is_entry f.name)) (is_runnable_function f) p.0 in
    and_from (list_all is_local (variables_of f)) (list_all has_locals is) (and_parts (list_all is_local (variables_of f)) (is_runnable_code f.code) q.1).0 (runnable_locals is p.1)

-- Wants -------------------------------------------------------------------------------------

wanted_none : (used names : List (List ℕ)) (n : List ℕ) → is_none (wanted_breaches used names n) ≡ ((not (has used n) || has names n) && (not (is_called_once n) || has used n))
wanted_none used names n =
    none_both (unless Undeclared (not (has used n) || has names n)) (unless Shape (not (is_called_once n) || has used n))
    ∙ (λ i. none_unless Undeclared (not (has used n) || has names n) i && none_unless Shape (not (is_called_once n) || has used n) i)

wants_none : (used names : List (List ℕ)) (items : List Item) → list_all (λ i. is_none (map (breach (name_of_item i)) (wanted_breaches used names (name_of_item i)))) items ≡ list_all (is_met used names) items
wants_none used names [] = refl
wants_none used names (i ∷ is) = λ j. (none_map (breach (name_of_item i)) (wanted_breaches used names (name_of_item i)) ∙ wanted_none used names (name_of_item i)) j && wants_none used names is j

ends_none : (used names : List (List ℕ)) (items : List Item) → is_none (ends_breaches used names items) ≡ list_all (is_met used names) items
ends_none used names items = none_flat (λ i. map (breach (name_of_item i)) (wanted_breaches used names (name_of_item i))) items ∙ wants_none used names items

-- what is met by the items is met by each of them
items_met : (used names called : List (List ℕ)) (sigs functions : List Signature) (items : List Item) → Fitted names sigs functions items → NamedItems items → list_all (λ i. not (is_called_once (name_of_item i)) || has called (name_of_item i)) items ≡ true
    → ((n : List ℕ) → IsApart n → list_any (is_same n) used ≡ true → list_any (is_same n) names ≡ true) → ((n : List ℕ) → is_called_once n ≡ true → list_any (is_same n) called ≡ true → list_any (is_same n) used ≡ true) → list_all (is_met used names) items ≡ true
items_met used names called sigs functions [] h named calls uses once = refl
items_met used names called sigs functions (i ∷ is) h named calls uses once =
    let n = name_of_item i in
    let p = and_parts (not (is_called_once n) || has called n) (list_all (λ j. not (is_called_once (name_of_item j)) || has called (name_of_item j)) is) calls in
    and_from (is_met used names i) (list_all (is_met used names) is)
    (and_from (not (has used n) || has names n) (not (is_called_once n) || has used n)
    (then_or (has used n) (has names n) (uses n (λ v local. function_no_local n v.name (function_named names sigs functions i h.0 named.0) local)))
    (then_or (is_called_once n) (has used n) (λ e. once n e (or_then (is_called_once n) (has called n) p.0 e))))
    (items_met used names called _ _ is h.1 named.1 p.1 uses once)

-- and back
all_met : (used names called : List (List ℕ)) (items : List Item) → list_all (is_met used names) items ≡ true → ((n : List ℕ) → is_called_once n ≡ true → list_any (is_same n) used ≡ true → list_any (is_same n) called ≡ true)
    → list_all (λ i. not (is_called_once (name_of_item i)) || has called (name_of_item i)) items ≡ true
all_met used names called [] h once = refl
all_met used names called (i ∷ is) h once =
    let n = name_of_item i in
    let p = and_parts (is_met used names i) (list_all (is_met used names) is) h in
    let q = and_parts (not (has used n) || has names n) (not (is_called_once n) || has used n) p.0 in
    and_from (not (is_called_once n) || has called n) (list_all (λ j. not (is_called_once (name_of_item j)) || has called (name_of_item j)) is)
    (then_or (is_called_once n) (has called n) (λ e. once n e (or_then (is_called_once n) (has used n) q.1 e))) (all_met used names called is p.1 once)

-- Programs ----------------------------------------------------------------------------------

-- the parts of a plain program
record Parts (items : List Item) : Type 0 where
  distinct : are_distinct (defined_names items) ≡ true
  fit : Fitted (defined_names items) [] [] items
  main : list_any is_main (defined_names items) ≡ true
  once : are_distinct (once_in_main items) ≡ true
  called : list_all (λ i. not (is_called_once (name_of_item i)) || has (once_in_main items) (name_of_item i)) items ≡ true

parts : (items : List Item) → IsPlain items → Parts items
unfolding is_plain is_sound
parts items h =
    let names = defined_names items in
    let p = and_parts (are_distinct names && items_fit names [] items) (list_any is_main names && calls_each_once items) h in
    let q = and_parts (are_distinct names) (items_fit names [] items) p.0 in
    let r = and_parts (list_any is_main names) (calls_each_once items) p.1 in
    let s = and_parts (are_distinct (once_in_main items)) (all_called (once_in_main items) (item_names items)) r.1 in
    record {
      distinct = q.0;
      fit = fitted names [] [] items (λ n. refl) q.1;
      main = r.0;
      once = s.0;
      called = sym (list_all-map (λ name. not (is_called_once name) || list_any (is_same name) (once_in_main items)) name_of_item items) ∙ s.1;
    }

-- all breaches, in three parts
text_none : (items : List Item) → is_none (text_breaches items) ≡ (is_none (items_breaches (known [] []) items) && (list_all (is_met (flat_map used_by items) (defined_names items)) items && list_any is_main (defined_names items)))
text_none items =
    let names = defined_names items in
    let used = flat_map used_by items in
    none_both (items_breaches (known [] []) items) (ends_breaches used names items ++ main_breaches names)
    ∙ ap (λ b. is_none (items_breaches (known [] []) items) && b)
    (none_both (ends_breaches used names items) (main_breaches names)
    ∙ (λ i. ends_none used names items i && (none_map (breach (codes "main")) (unless Shape (list_any is_main names)) ∙ none_unless Shape (list_any is_main names)) i))

-- a plain program whose names are right is runnable
pub plain_is_runnable : (items : List Item) → NamedItems items → IsPlain items → IsRunnable items
plain_is_runnable items named h = items_runnable (defined_names items) [] [] items (parts items h).fit named

-- and breaks no rule
pub plain_is_checked : (items : List Item) → NamedItems items → IsPlain items → IsChecked items
unfolding IsChecked breaches
plain_is_checked items named h =
    let p = parts items h in
    let names = defined_names items in
    let used = flat_map used_by items in
    let first = items_checked names [] [] [] items p.fit (fresh_distinct names ∙ p.distinct) (each_once items p.distinct p.once) in
    let second = items_met used names (once_in_main items) [] [] items p.fit named p.called (λ n apart e. items_used names [] [] items n p.fit (named_locals items named) apart e) (λ n once e. main_used n items once e) in
    none_is (text_breaches items)
    (text_none items ∙ and_from (is_none (items_breaches (known [] []) items)) (list_all (is_met used names) items && list_any is_main names) first (and_from (list_all (is_met used names) items) (list_any is_main names) second p.main))

-- a runnable program that breaks no rule is plain
pub checked_is_plain : (items : List Item) → IsChecked items → IsRunnable items → IsPlain items
unfolding IsChecked breaches is_plain is_sound
checked_is_plain items h runs =
    let names = defined_names items in
    let used = flat_map used_by items in
    let all = sym (text_none items) ∙ ap is_none h in
    let p = and_parts (is_none (items_breaches (known [] []) items)) (list_all (is_met used names) items && list_any is_main names) all in
    let q = and_parts (list_all (is_met used names) items) (list_any is_main names) p.1 in
    let plain = items_plain used names [] [] [] items (λ n. refl) tt p.0 runs q.0 (λ n e u. absurd (cc)) (λ n e. e) in
    let distinct = sym (fresh_distinct names) ∙ plain.fresh in
    let fit = fitted names [] [] items (λ n. refl) plain.fit in
    let called = all_met used names (once_in_main items) items q.0 (λ n once e. items_once names [] [] items n fit (runnable_locals items runs) distinct once e) in
    let each = list_all-map (λ name. not (is_called_once name) || list_any (is_same name) (once_in_main items)) name_of_item items ∙ called in
    and_from (are_distinct names && items_fit names [] items) (list_any is_main names && calls_each_once items)
    (and_from (are_distinct names) (items_fit names [] items) distinct plain.fit)
    (and_from (list_any is_main names) (calls_each_once items) q.1 (and_from (are_distinct (once_in_main items)) (all_called (once_in_main items) (item_names items)) (once_each items plain.once) each))
