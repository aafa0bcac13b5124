-- Functions without a loop: the maker of a module, which does nothing, and its initialisation.
use Rattle.std.proofs.Common.{◌≡◌, true, false, List, [], ◌∷◌, map, refl, sym, ap, ◌∙◌, subst}
use Rattle.std.specs.Prelude.{not, ◌&&◌, ◌||◌, cond, IsTrue}
use Rattle.std.specs.List.{list_any}
use Rattle.std.proofs.lemmas.Bool.{and_from}
use Rattle.scheme_data.specs.Names.{are_distinct, is_same}
use Rattle.core_tree.specs.Tree.{Callee, ModuleTree}
use Rattle.core_tree.specs.WellFormed.{IsWellFormed}
use Rattle.c_tree.specs.declared.tree.CTy.TheVariants.{Obj}
use Rattle.c_tree.specs.Code.{done, return, Fun, Item, defined}
use Rattle.c_tree.specs.Names.{function_name, maker_name, initializer_name, is_function_name}
use Rattle.c_tree.specs.Spelling.{NamedVars, NamedCode, NamedItem, NamedItems}
use Rattle.c_meaning.specs.Plain.{Role, Maker, Initializer, role_of, Signature, signature_of, same_signature, variables_of, code_fits, returns_last, is_straight, has_shape, function_fits, may_call, callable, agrees, items_fit, defined_names}
use Rattle.plan_rules.specs.Translation.{Name, c_name_of, callees, IsEmpty, TrFunctions}
use Rattle.code_gen.specs.Settings.{Setting}
use Rattle.code_gen.specs.Emission.{unspecified, IsInitialization}
use Rattle.code_gen.proofs.Soundness.{signature, Fine, fine_end, fine_all_unused}
use Rattle.c_tree.proofs.CNames.{named_maker, named_initializer}
use Rattle.code_gen.proofs.Declared.{Within}
use Rattle.code_gen.proofs.Functions.{HasVariables, has_variables, grounded}
use Rattle.plan_rules.proofs.NameKinds.{maker_role, initializer_role, last_names, function_not_maker, function_not_initializer, maker_not_initializer}

-- what a function without a loop is
record Straight (sigs : List Signature) (g : Fun) : Type 0 where
  result : g.result ≡ Obj
  params : g.params ≡ []
  distinct : are_distinct (map (λ v. v.name) g.locals) ≡ true
  fits : code_fits sigs g.locals Obj g.code ≡ true
  ends : returns_last g.code ≡ true

-- it fits, where its name asks for no loop
straight_fits : (sigs : List Signature) (r : Role) (g : Fun) → role_of g.name ≡ r → has_shape sigs r g ≡ is_straight sigs Obj g → Straight sigs g → function_fits sigs g ≡ true
straight_fits sigs r g role shape is =
    let body : (code_fits sigs g.locals Obj g.code && returns_last g.code) ≡ true = and_from (code_fits sigs g.locals Obj g.code) (returns_last g.code) is.fits is.ends in
    let straight : is_straight sigs Obj g ≡ true = rw (is.result, is.params) body in
    let distinct : are_distinct (map (λ v. v.name) (variables_of g)) ≡ true = rw is.params is.distinct in
    and_from (are_distinct (map (λ v. v.name) (variables_of g))) (has_shape sigs (role_of g.name) g) distinct (ap (λ k. has_shape sigs k g) role ∙ shape ∙ straight)

straight_named : (name : Name) (g : Fun) → g.name ≡ name → g.params ≡ [] → IsTrue (is_function_name name) → NamedVars g.locals → NamedCode g.code → NamedItem (defined g)
straight_named name g e params named locals code = (subst (λ x. IsTrue (is_function_name x)) (sym e) named, subst NamedVars (sym params) tt, locals, code)

-- The maker ---------------------------------------------------------------------------------

empty_straight : (sigs : List Signature) (name : Name) (g : Fun) → IsEmpty name g → Straight sigs g
empty_straight sigs name g e = record {
  result = e.result;
  params = e.params;
  distinct = rw e.locals refl;
  fits = rw e.code refl;
  ends = rw e.code refl;
}

empty_named : (name : Name) (g : Fun) → IsEmpty name g → IsTrue (is_function_name name) → NamedItem (defined g)
empty_named name g e named = straight_named name g e.named e.params named (subst NamedVars (sym e.locals) tt) (subst NamedCode (sym e.code) (tt, tt))

-- The initialisation ------------------------------------------------------------------------

record Initializes (sigs : List Signature) (g : Fun) : Type 0 where
  straight : Straight sigs g
  locals : NamedVars g.locals
  code : NamedCode g.code

initializes : (m : ModuleTree) (w : IsWellFormed m) (cs : List Callee) (g : Fun) → Within cs (callees m) → Within (callees m) cs → IsInitialization m g → Initializes (map signature cs) g
initializes m w cs g within covers is =
    let s : Setting = record { in_module = m; params = [] } in
    let sigs = map signature cs in
    let has : HasVariables [] g.locals = has_variables [] g.locals is.last is.counted is.small in
    let grounds = grounded m w cs [] g.locals within covers has in
    let fine : Fine s sigs g.locals grounds true g.code =
    fine_all_unused s sigs g.locals grounds m.forms w.forms [] g.code (return unspecified done) is.forms.translated (fine_end s sigs g.locals grounds) in
    record {
      straight = record { result = is.forms.result; params = is.forms.params; distinct = has.distinct; fits = fine.fits; ends = fine.ends refl };
      locals = has.locals_named;
      code = fine.named;
    }

-- Both behind the functions -----------------------------------------------------------------

-- a name that none of these functions has agrees with their signatures
agrees_alone : (name : Name) (ds : List Callee) (s : Signature) → ((m n : Name) → is_same (function_name m n) name ≡ false) → s.name ≡ name → agrees (map signature ds) s ≡ true
agrees_alone name [] s other e = refl
agrees_alone name (d ∷ ds) s other e =
    let differs : is_same (c_name_of d) s.name ≡ false = ap (is_same (c_name_of d)) e ∙ other d.module_name d.name in
    ap (λ b. (not b || same_signature (signature d) s) && agrees (map signature ds) s) differs ∙ agrees_alone name ds s other e

-- what may not be called is left out
not_callable : (r : Role) (names : List Name) (s : Signature) (sigs : List Signature) → may_call r (role_of s.name) ≡ false → callable r names (s ∷ sigs) ≡ callable r names sigs
not_callable r names s sigs e = ap (λ b. cond (b && list_any (is_same s.name) names) (s ∷ callable r names sigs) (callable r names sigs)) e

-- The maker and the initialisation of a module, which its unit defines behind the functions.
module _ (m : ModuleTree) (w : IsWellFormed m) (maker initializer : Fun) (made : IsEmpty (maker_name m.name) maker) (initialized : IsInitialization m initializer) where
  abbrev pub last_items : List Item
  last_items = defined maker ∷ defined initializer ∷ []

  pub last_named : defined_names last_items ≡ last_names m.name
  last_named = rw (made.named, initialized.forms.named) refl

  pub last_translated : TrFunctions m [] last_items
  last_translated = (made, (initialized.forms, tt))

  is_maker : role_of maker.name ≡ Maker
  is_maker = ap role_of made.named ∙ maker_role m.name

  is_initializer : role_of initializer.name ≡ Initializer
  is_initializer = ap role_of initialized.forms.named ∙ initializer_role m.name

  -- Behind declarations of all functions that may be called.
  module _ (ds : List Callee) (within : Within ds (callees m)) (covers : Within (callees m) ds) where
    abbrev sigs : List Signature
    sigs = map signature ds

    initialization : Initializes sigs initializer
    initialization = initializes m w ds initializer within covers initialized

    pub last_spelled : NamedItems last_items
    last_spelled = (
      empty_named (maker_name m.name) maker made (named_maker m.name w.name),
      (straight_named (initializer_name m.name) initializer initialized.forms.named initialized.forms.params (named_initializer m.name w.name) initialization.locals initialization.code, tt),
    )

    initializer_fits : (names : List Name) → callable Initializer names sigs ≡ sigs → items_fit names (signature_of (defined maker) ∷ sigs) (defined initializer ∷ []) ≡ true
    initializer_fits names all =
        let first = signature_of (defined maker) in
        let s = signature_of (defined initializer) in
        let known = s ∷ first ∷ sigs in
        let differs : is_same maker.name initializer.name ≡ false = rw (made.named, initialized.forms.named) (maker_not_initializer m.name) in
        let same : agrees (first ∷ sigs) s ≡ true =
        ap (λ b. (not b || same_signature first s) && agrees sigs s) differs ∙ agrees_alone (initializer_name m.name) ds s (function_not_initializer m.name) initialized.forms.named in
        let calls : callable (role_of initializer.name) names known ≡ sigs =
        ap (λ r. callable r names known) is_initializer ∙ not_callable Initializer names s (first ∷ sigs) (ap (may_call Initializer) is_initializer)
        ∙ not_callable Initializer names first sigs (ap (may_call Initializer) is_maker) ∙ all in
        let fits : function_fits (callable (role_of initializer.name) names known) initializer ≡ true =
        ap (λ ss. function_fits ss initializer) calls ∙ straight_fits sigs Initializer initializer is_initializer refl initialization.straight in
        let one = and_from (agrees (first ∷ sigs) s) (function_fits (callable (role_of initializer.name) names known) initializer) same fits in
        and_from (agrees (first ∷ sigs) s && function_fits (callable (role_of initializer.name) names known) initializer) true one refl

    -- they fit behind declarations and definitions of functions, where all of these may be called
    pub last_fit : (names : List Name) → callable Initializer names sigs ≡ sigs → items_fit names sigs last_items ≡ true
    last_fit names all =
        let s = signature_of (defined maker) in
        let same : agrees sigs s ≡ true = agrees_alone (maker_name m.name) ds s (function_not_maker m.name) made.named in
        let calls = callable (role_of maker.name) names (s ∷ sigs) in
        let one = and_from (agrees sigs s) (function_fits calls maker) same (straight_fits calls Maker maker is_maker refl (empty_straight calls (maker_name m.name) maker made)) in
        and_from (agrees sigs s && function_fits calls maker) (items_fit names (s ∷ sigs) (defined initializer ∷ [])) one (initializer_fits names all)
