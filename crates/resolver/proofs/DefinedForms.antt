-- Top-level forms, definitions and functions by their parts.
use Rattle.std.proofs.Common.{◌≡◌, ℕ, ◌+◌, ◌-◌, ◌<◌, ◌≤◌, Bool, false, List, [], ◌∷◌, ◌++◌, map, length, drop, get_or, Option, Some, None, Result, IfOk, refl, sym, ap, subst, ◌∙◌, arith}
use Rattle.std.specs.Option.{option_map}
use Rattle.std.proofs.lemmas.List.{append-nil, drop_more, drop_all, map-append}
use Rattle.scheme_data.specs.Data.{Plain, Listed, plain, plain_all}
use Rattle.scheme_data.specs.declared.datum.Datum.{Datum}
use Rattle.core_tree.specs.declared.tree.Lambda.{Lambda}
use Rattle.core_tree.specs.declared.tree.Node.{Node}
use Rattle.core_tree.specs.declared.tree.VarId.{VarId}
use Rattle.core_tree.specs.declared.tree.Top.{Top}
use Rattle.core_tree.specs.declared.tree.Top.TheVariants as top
use Rattle.core_tree.specs.Tree.{Tree, Trees, more, tree, FunctionTree, function_tree, functions_in, forms_in}
use Rattle.resolver.specs.BuiltHeads.{HeadTree, says, onto}
use Rattle.resolver.specs.DatumParts.{parts_of}
use Rattle.resolver.specs.declared.definitions.Definition.{Definition}
use Rattle.resolver.specs.declared.tops.TopForm.{TopForm}
use Rattle.resolver.specs.Drafts.{body, onto_trees, expression, expressions, definition, Defines, Evaluates, top_form, tops, definitions_in, evaluated_in, defined, functions, top_scope, draft_with, draft_in}
use Rattle.resolver.specs.Drafts as drafts
use Rattle.resolver.specs.Parts.{definition_of, top_of, numbered_from, param_count, function_at, Builds}
use Rattle.resolver.proofs.HeadLayers.{listed_is}
use Rattle.resolver.proofs.Calls.{ahead as ahead_of, ahead_none, ahead_all}
use Rattle.resolver.proofs.Lists.{ahead, top_more, function_more}
use Rattle.resolver.proofs.Numbers.{variables_are}

-- Definitions -------------------------------------------------------------------------------

definition_below_two : (ds : List Datum) → length ds < 2 → definition (Listed (plain_all ds)) ≡ None
definition_below_two [] n = refl
definition_below_two (a ∷ []) n = refl
definition_below_two (a ∷ b ∷ ds) n = absurd (omega arith)

pub no_definition_below : (d : Plain) (ds : List Datum) → Some (plain_all ds) ≡ parts_of d → length ds < 2 → None ≡ definition d
no_definition_below d ds e n = sym (ap definition (listed_is d (plain_all ds) e) ∙ definition_below_two ds n)

-- Top-level forms ---------------------------------------------------------------------------

abbrev pub AreTops : List Datum → List TopForm → ℕ → Type 0
AreTops ds ts i = tops (plain_all ds) ≡ ahead (map top_of ts) (tops (plain_all (drop i ds)))

top_next : (ds : List Datum) (ts : List TopForm) (i : ℕ) (d : Datum) (o : Option drafts.TopForm) → i < length ds → d ≡ get_or ds i d → AreTops ds ts i
    → o ≡ top_form (plain d) → tops (plain_all ds) ≡ ahead (map top_of ts) (onto o (tops (plain_all (drop (i + 1) ds))))
top_next ds ts i d o l e h n =
    let rest = tops (plain_all (drop (i + 1) ds)) in
    h ∙ ap (λ (ds : List Datum). ahead (map top_of ts) (tops (plain_all ds))) (drop_more ds i d l)
    ∙ ap (λ (d : Datum). ahead (map top_of ts) (onto (top_form (plain d)) rest)) (sym e)
    ∙ ap (λ o. ahead (map top_of ts) (onto o rest)) (sym n)

pub top_added : (ds : List Datum) (ts us : List TopForm) (i : ℕ) (d : Datum) (t : TopForm) → i < length ds → d ≡ get_or ds i d → AreTops ds ts i
    → Some (top_of t) ≡ top_form (plain d) → us ≡ ts ++ t ∷ [] → AreTops ds us (i + 1)
top_added ds ts us i d t l e h n u =
    let rest = tops (plain_all (drop (i + 1) ds)) in
    top_next ds ts i d (Some (top_of t)) l e h n ∙ top_more (map top_of ts) (top_of t) rest
    ∙ sym (ap (λ us. ahead (map top_of us) rest) u ∙ ap (λ ts. ahead ts rest) (map-append top_of ts (t ∷ [])))

-- Functions and forms -----------------------------------------------------------------------

pub lambda_missing : (all outside : List (List ℕ)) (main : Option (List ℕ)) (first : ℕ) (d : Definition) (t : Bool) → t ≡ says main d.name.now
    → None ≡ body (record { functions = all; outside = outside; params = d.params; first = first; in_main = t }) (plain_all d.body.now)
    → None ≡ function_at all outside main first (definition_of d)
lambda_missing all outside main first d t w b =
    ap (defined first (definition_of d))
    (b ∙ ap (λ t. body (record { functions = all; outside = outside; params = d.params; first = first; in_main = t }) (plain_all d.body.now)) w)

pub lambda_is : (all outside : List (List ℕ)) (main : Option (List ℕ)) (first end : ℕ) (d : Definition) (t : Bool) (vs : List VarId) (b : Tree) → t ≡ says main d.name.now
    → Some b ≡ body (record { functions = all; outside = outside; params = d.params; first = first; in_main = t }) (plain_all d.body.now)
    → vs ≡ numbered_from first (end - first) → end ≡ first + length d.params
    → Some (record { name = d.name.now; params = vs; body = b }) ≡ function_at all outside main first (definition_of d)
lambda_is all outside main first end d t vs b w s v e =
    let many : end - first ≡ length d.params = omega arith in
    ap (λ vs. Some (record { name = d.name.now; params = vs; body = b })) (v ∙ ap (numbered_from first) many ∙ sym (variables_are first d.params))
    ∙ ap (defined first (definition_of d))
    (s ∙ ap (λ t. body (record { functions = all; outside = outside; params = d.params; first = first; in_main = t }) (plain_all d.body.now)) w)

-- at top level no parameters are seen
pub form_is : {E : Type 0} (all outside params : List (List ℕ)) (d : Plain) (r : Result (Option Node) E) → params ≡ []
    → IfOk r (λ n. option_map tree n ≡ expression (record { functions = all; outside = outside; params = params; first = 0; in_main = false }) d)
    → IfOk r (λ n. option_map tree n ≡ expression (top_scope all outside) d)
form_is all outside params d r e h =
    subst (λ (params : List (List ℕ)). IfOk r (λ n. option_map tree n ≡ expression (record { functions = all; outside = outside; params = params; first = 0; in_main = false }) d)) e h

functions_then : (tops : List Top) (name : List ℕ) (lambda : Lambda) → functions_in (tops ++ top.Function name lambda ∷ []) ≡ functions_in tops ++ function_tree name lambda ∷ []
functions_then [] name lambda = refl
functions_then (top.Function f l ∷ tops) name lambda = ap (λ fs. function_tree f l ∷ fs) (functions_then tops name lambda)
functions_then (top.Form n ∷ tops) name lambda = functions_then tops name lambda

forms_stay : (tops : List Top) (name : List ℕ) (lambda : Lambda) → forms_in (tops ++ top.Function name lambda ∷ []) ≡ forms_in tops
forms_stay [] name lambda = refl
forms_stay (top.Function f l ∷ tops) name lambda = forms_stay tops name lambda
forms_stay (top.Form n ∷ tops) name lambda = ap (λ ts. more (tree n) ts) (forms_stay tops name lambda)

functions_stay : (tops : List Top) (n : Node) → functions_in (tops ++ top.Form n ∷ []) ≡ functions_in tops
functions_stay [] n = refl
functions_stay (top.Function f l ∷ tops) n = ap (λ fs. function_tree f l ∷ fs) (functions_stay tops n)
functions_stay (top.Form m ∷ tops) n = functions_stay tops n

form_then : (tops : List Top) (n : Node) (rest : Option Trees) → ahead_of (forms_in (tops ++ top.Form n ∷ [])) rest ≡ ahead_of (forms_in tops) (onto_trees (Some (tree n)) rest)
form_then [] n rest = refl
form_then (top.Function f l ∷ tops) n rest = form_then tops n rest
form_then (top.Form m ∷ tops) n rest = ap (onto_trees (Some (tree m))) (form_then tops n rest)

-- In a module with these functions, which calls these of other modules.
module _ (all outside : List (List ℕ)) (main : Option (List ℕ)) where
  -- of these functions and forms so many were built, and then come those of the rest
  pub record Continues (fs : Option (List FunctionTree)) (es : Option Trees) (built : List Top) (first : ℕ) (rest : List drafts.TopForm) : Type 0 where
    pub functions : fs ≡ ahead (functions_in built) (functions all outside main first (definitions_in rest))
    pub forms : es ≡ ahead_of (forms_in built) (expressions (top_scope all outside) (evaluated_in rest))

  goes_on : (fs : Option (List FunctionTree)) (es : Option Trees) (built : List Top) (first : ℕ) (t : drafts.TopForm) (rest : List drafts.TopForm) (o : Top)
      → Continues fs es built first (t ∷ rest) → Builds all outside main first t (Some o) → Continues fs es (built ++ o ∷ []) (first + param_count t) rest
  goes_on fs es built first (Defines d) rest (top.Function name lambda) h b =
      let others = functions all outside main (first + length d.params) (definitions_in rest) in
      record {
        functions = h.functions ∙ ap (λ f. ahead (functions_in built) (onto f others)) b ∙ function_more (functions_in built) (function_tree name lambda) others
            ∙ ap (λ fs. ahead fs others) (sym (functions_then built name lambda));
        forms = h.forms ∙ ap (λ ts. ahead_of ts (expressions (top_scope all outside) (evaluated_in rest))) (sym (forms_stay built name lambda));
      }
  goes_on fs es built first (Defines d) rest (top.Form n) h b = absurd b
  goes_on fs es built first (Evaluates d) rest (top.Function name lambda) h b = absurd b
  goes_on fs es built first (Evaluates d) rest (top.Form n) h b =
      let others = expressions (top_scope all outside) (evaluated_in rest) in
      let same : first ≡ first + 0 = omega arith in
      record {
        functions = h.functions ∙ ap (λ fs. ahead fs (functions all outside main first (definitions_in rest))) (sym (functions_stay built n))
            ∙ ap (λ first. ahead (functions_in (built ++ top.Form n ∷ [])) (functions all outside main first (definitions_in rest))) same;
        forms = h.forms ∙ ap (λ t. ahead_of (forms_in built) (onto_trees t others)) b ∙ sym (form_then built n others);
      }

  no_draft : (h : HeadTree) (fs : Option (List FunctionTree)) → draft_with h outside fs None ≡ None
  no_draft h None = refl
  no_draft h (Some fs) = refl

  ends : (h : HeadTree) (fs : Option (List FunctionTree)) (es : Option Trees) (built : List Top) (first : ℕ) (t : drafts.TopForm) (rest : List drafts.TopForm)
      → Continues fs es built first (t ∷ rest) → Builds all outside main first t None → draft_with h outside fs es ≡ None
  ends h fs es built first (Defines d) rest c b =
      ap (λ fs. draft_with h outside fs es) (c.functions ∙ ap (λ f. ahead (functions_in built) (onto f (functions all outside main (first + length d.params) (definitions_in rest)))) b)
  ends h fs es built first (Evaluates d) rest c b =
      ap (draft_with h outside fs)
      (c.forms ∙ ap (λ t. ahead_of (forms_in built) (onto_trees t (expressions (top_scope all outside) (evaluated_in rest)))) b ∙ ahead_none (forms_in built))
      ∙ no_draft h fs

-- as far as top-level forms were walked
abbrev pub AreBuilt : List (List ℕ) → List (List ℕ) → Option (List ℕ) → List TopForm → List Top → ℕ → ℕ → Type 0
AreBuilt all outside main ts built first i =
    Continues all outside main (functions all outside main 0 (definitions_in (map top_of ts))) (expressions (top_scope all outside) (evaluated_in (map top_of ts))) built first (map top_of (drop i ts))

built_next : (all outside : List (List ℕ)) (main : Option (List ℕ)) (ts : List TopForm) (built : List Top) (first i : ℕ) (t : TopForm) → i < length ts → t ≡ get_or ts i t
    → AreBuilt all outside main ts built first i
    → Continues all outside main (functions all outside main 0 (definitions_in (map top_of ts))) (expressions (top_scope all outside) (evaluated_in (map top_of ts))) built first
    (top_of t ∷ map top_of (drop (i + 1) ts))
built_next all outside main ts built first i t l e h =
    subst (Continues all outside main (functions all outside main 0 (definitions_in (map top_of ts))) (expressions (top_scope all outside) (evaluated_in (map top_of ts))) built first)
    (ap (map top_of) (drop_more ts i t l) ∙ ap (λ (t : TopForm). top_of t ∷ map top_of (drop (i + 1) ts)) (sym e)) h

pub not_built : (h : HeadTree) (all outside : List (List ℕ)) (ts : List TopForm) (built : List Top) (first i : ℕ) (t : TopForm) → i < length ts → t ≡ get_or ts i t
    → AreBuilt all outside h.main ts built first i → Builds all outside h.main first (top_of t) None → None ≡ draft_in h all outside (map top_of ts)
not_built h all outside ts built first i t l e a b =
    sym (ends all outside h.main h (functions all outside h.main 0 (definitions_in (map top_of ts))) (expressions (top_scope all outside) (evaluated_in (map top_of ts))) built first
    (top_of t) (map top_of (drop (i + 1) ts)) (built_next all outside h.main ts built first i t l e a) b)

pub built_more : (all outside : List (List ℕ)) (main : Option (List ℕ)) (ts : List TopForm) (built new : List Top) (first end i : ℕ) (t : TopForm) (o : Top)
    → i < length ts → t ≡ get_or ts i t → AreBuilt all outside main ts built first i → Builds all outside main first (top_of t) (Some o)
    → end ≡ first + param_count (top_of t) → new ≡ built ++ o ∷ [] → AreBuilt all outside main ts new end (i + 1)
built_more all outside main ts built new first end i t o l e a b s n =
    let fs = functions all outside main 0 (definitions_in (map top_of ts)) in
    let es = expressions (top_scope all outside) (evaluated_in (map top_of ts)) in
    let rest = map top_of (drop (i + 1) ts) in
    let on = goes_on all outside main fs es built first (top_of t) rest o (built_next all outside main ts built first i t l e a) b in
    subst (λ (new : List Top). Continues all outside main fs es new end rest) (sym n)
    (subst (λ (end : ℕ). Continues all outside main fs es (built ++ o ∷ []) end rest) (sym s) on)

pub all_built : (h : HeadTree) (all outside : List (List ℕ)) (ts : List TopForm) (built : List Top) (first i : ℕ) → length ts ≤ i → AreBuilt all outside h.main ts built first i
    → Some (record { head = h; outside = outside; functions = functions_in built; forms = forms_in built }) ≡ draft_in h all outside (map top_of ts)
all_built h all outside ts built first i l a =
    let past : map top_of (drop i ts) ≡ [] = ap (map top_of) (drop_all i ts l) in
    let fs : functions all outside h.main 0 (definitions_in (map top_of ts)) ≡ Some (functions_in built) =
    a.functions ∙ ap (λ rest. ahead (functions_in built) (functions all outside h.main first (definitions_in rest))) past ∙ ap Some (append-nil (functions_in built)) in
    let es : expressions (top_scope all outside) (evaluated_in (map top_of ts)) ≡ Some (forms_in built) =
    a.forms ∙ ap (λ rest. ahead_of (forms_in built) (expressions (top_scope all outside) (evaluated_in rest))) past ∙ ahead_all (forms_in built) in
    sym (ap (λ fs. draft_with h outside fs (expressions (top_scope all outside) (evaluated_in (map top_of ts)))) fs ∙ ap (draft_with h outside (Some (functions_in built))) es)
