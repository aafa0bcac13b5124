-- The signatures that stand in the units of a program: those of its functions, and of makers and initialisations. Two of one name are the same.
use Rattle.std.proofs.Common.{◌≡◌, ◌⊎◌, List, [], ◌∷◌, ◌++◌, length, Bool, true, false, Option, Some, None, refl, sym, ap, ◌∙◌, subst, inl, inr}
use Rattle.std.specs.Prelude.{codes, map, replicate, not, ◌||◌, if◌then◌else◌}
use Rattle.std.specs.List.{list_all}
use Rattle.std.proofs.lemmas.Bool.{and_from, eqb-true}
use Rattle.std.proofs.lemmas.List.Elements.{All-contains}
use Rattle.std.proofs.lemmas.List.Folds.{list_all-append, list_all-map}
use Rattle.std.proofs.lemmas.List.Sums.{AllPass-from_list_all}
use Rattle.std.specs.Cmp.Lexicographic.{bytes_decides}
use Rattle.scheme_data.specs.Names.{is_same}
use Rattle.scheme_data.specs.Symbols.{IsSymbol}
use Rattle.core_tree.specs.declared.tree.VarId.{VarId}
use Rattle.core_tree.specs.Tree.{FunctionTree, ModuleTree, Callee, own_callee, used_callees}
use Rattle.core_tree.specs.WellFormed.{IsFunction, AreFunctions}
use Rattle.meaning.specs.Procedures.{Procedure, module_named, procedure_in, procedure_of, takes, is_there}
use Rattle.meaning.specs.Program.{AreWellFormed, IsProgram}
use Rattle.c_tree.specs.declared.tree.CTy.{CTy}
use Rattle.c_tree.specs.declared.tree.CTy.TheVariants.{Obj}
use Rattle.c_tree.specs.Code.{Fun, Item, external, global, declared, defined}
use Rattle.c_tree.specs.Names.{maker_name, is_main, is_maker, is_initializer, is_entry}
use Rattle.c_meaning.specs.Plain.{Signature, signature_of, same_signature, signature_named, Role, Main, Maker, Initializer, Entry, Function, role_of, may_call, agrees, is_called_once}
use Rattle.plan_rules.specs.Translation.{Name, TrFunction, IsEmpty, DefineNothing, TrForms, TrInitializer, TrFunctions, callees, IsDeclared, AreDeclared, c_name_of, Translated}
use Rattle.c_tree.proofs.CNames.{function_name_parts}
use Rattle.plan_rules.proofs.NameKinds.{function_role, never_once, maker_is_once, initializer_is_once, function_not_main}
use Rattle.simulation.proofs.Members.{Has, all_have, each_passes}
use Rattle.simulation.proofs.Links.{placed, formed_at, own_there}
use Rattle.simulation.proofs.Signatures.{after, signature_same}

-- Functions that are there ------------------------------------------------------------------

-- a function of the program with as many parameters as its callee says
pub record There (program : List ModuleTree) (c : Callee) : Type 0 where
  pub procedure : Procedure
  pub at : procedure_of program (Some c) ≡ Some procedure
  pub count : length procedure.function.params ≡ c.params

pub there : (program : List ModuleTree) (c : Callee) → is_there program c ≡ true → There program c
there program c e = go (procedure_of program (Some c)) refl e
  where
    go : (q : Option Procedure) → procedure_of program (Some c) ≡ q → takes c.params q ≡ true → There program c
    go None at e1 = absurd (cc)
    go (Some q) at e1 = record { procedure = q; at = at; count = eqb-true (length q.function.params) c.params e1 }

function_formed : (m : ModuleTree) (fs : List FunctionTree) (f : FunctionTree) → Has fs f → AreFunctions m fs → IsFunction m f
function_formed m [] f h are = absurd h
function_formed m (x ∷ fs) f (inl same) are = subst (λ y. IsFunction m y) same are.0
function_formed m (x ∷ fs) f (inr h) are = function_formed m fs f h are.1

-- the module and the function of a callee have names
pub callee_named : (program : List ModuleTree) → AreWellFormed program → (c : Callee) (q : Procedure) → procedure_of program (Some c) ≡ Some q → IsSymbol c.module_name × IsSymbol c.name
callee_named program formed c q at =
    let h = placed program c q at in
    let home = formed_at program q.home h.home formed in
    (subst IsSymbol h.home_named home.name, subst IsSymbol h.function_named (function_formed q.home q.home.functions q.function h.function home.functions).name)

-- what a unit may call is there
callees_there : (program : List ModuleTree) → IsProgram program → (m : ModuleTree) → Has program m → list_all (is_there program) (callees m) ≡ true
callees_there program is m h =
    let own = map (own_callee m.name) m.functions in
    list_all-append (is_there program) own (used_callees m.uses)
    ∙ and_from (list_all (is_there program) own) (list_all (is_there program) (used_callees m.uses))
    (list_all-map (is_there program) (own_callee m.name) m.functions ∙ each_passes (λ f. is_there program (own_callee m.name f)) m.functions (own_there program is m h))
    (all_have (λ x. list_all (is_there program) (used_callees x.uses)) program m h is.linked)

-- Signatures of a program -------------------------------------------------------------------

-- of a function of the program, by its C name: as many words as it has parameters, and a word
pub record OfFunction (program : List ModuleTree) (s : Signature) : Type 0 where
  pub callee : Callee
  pub procedure : Procedure
  pub at : procedure_of program (Some callee) ≡ Some procedure
  pub named : s.name ≡ c_name_of callee
  pub gives : s.result ≡ Obj
  pub takes : s.params ≡ replicate (length procedure.function.params) Obj

-- of a maker or an initialisation: no parameters, and a word
pub record OfModule (s : Signature) : Type 0 where
  pub once : is_called_once s.name ≡ true
  pub gives : s.result ≡ Obj
  pub takes : s.params ≡ []

abbrev pub Right : List ModuleTree → Signature → Type 0
Right program s = OfFunction program s ⊎ OfModule s

abbrev pub AllRight : List ModuleTree → List Signature → Type 0
AllRight program [] = Unit {0}
AllRight program (s ∷ sigs) = Right program s × AllRight program sigs

abbrev pub ItemsRight : List ModuleTree → List Item → Type 0
ItemsRight program [] = Unit {0}
ItemsRight program (i ∷ is) = Right program (signature_of i) × ItemsRight program is

pub after_right : (program : List ModuleTree) (items : List Item) (sigs : List Signature) → ItemsRight program items → AllRight program sigs → AllRight program (after items sigs)
after_right program [] sigs right before = before
after_right program (i ∷ is) sigs right before = after_right program is (signature_of i ∷ sigs) right.1 (right.0, before)

pub both_right : (program : List ModuleTree) (xs ys : List Item) → ItemsRight program xs → ItemsRight program ys → ItemsRight program (xs ++ ys)
both_right program [] ys right others = others
both_right program (x ∷ xs) ys right others = (right.0, both_right program xs ys right.1 others)

-- a signature that is found is right, and of that name
pub record FoundRight (program : List ModuleTree) (n : Name) (s : Signature) : Type 0 where
  pub named : s.name ≡ n
  pub right : Right program s

pub found_right : (program : List ModuleTree) (sigs : List Signature) (n : Name) (s : Signature) → AllRight program sigs → signature_named sigs n ≡ Some s → FoundRight program n s
found_right program [] n s right e = absurd (cc)
found_right program (t ∷ sigs) n s right e = go (is_same t.name n) refl e (λ q. found_right program sigs n s right.1 q)
  where
    go : (b : Bool) → is_same t.name n ≡ b → (if b then Some t else signature_named sigs n) ≡ Some s → (signature_named sigs n ≡ Some s → FoundRight program n s) → FoundRight program n s
    go true eb q later = let same : t ≡ s = cc in subst (λ y. FoundRight program n y) same (record { named = (bytes_decides t.name n).0 eb; right = right.0 })
    go false eb q later = later q

-- none is of `main`
pub right_not_main : (program : List ModuleTree) (s : Signature) → Right program s → is_main s.name ≡ false
right_not_main program s (inl h) = ap is_main h.named ∙ function_not_main h.callee.module_name h.callee.name
right_not_main program s (inr h) = go (is_main s.name) refl
  where
    go : (b : Bool) → is_main s.name ≡ b → is_main s.name ≡ false
    go false e = e
    go true e = absurd (let bad : false ≡ true = sym (ap is_called_once ((bytes_decides s.name (codes "main")).0 e)) ∙ h.once in cc)

-- `main` may call what is of a program
once_may_call : (n : Name) → is_main n ≡ false → is_called_once n ≡ true → may_call Main (role_of n) ≡ true
once_may_call n e once = ap (λ b. may_call Main (if b then Main else others)) e ∙ go (is_maker n) (is_initializer n) once
  where
    others : Role
    others = if is_maker n then Maker else (if is_initializer n then Initializer else (if is_entry n then Entry else Function))

    go : (a b : Bool) → (a || b) ≡ true → may_call Main (if a then Maker else (if b then Initializer else (if is_entry n then Entry else Function))) ≡ true
    go true b once1 = refl
    go false true once1 = refl
    go false false once1 = absurd (cc)

pub right_may_call : (program : List ModuleTree) (s : Signature) → Right program s → may_call Main (role_of s.name) ≡ true
right_may_call program s (inl h) = ap (λ n. may_call Main (role_of n)) h.named ∙ ap (may_call Main) (function_role h.callee.module_name h.callee.name)
right_may_call program s (inr h) = once_may_call s.name (right_not_main program s (inr h)) h.once

-- Two of one name ---------------------------------------------------------------------------

-- callees of one C name are of one function
pub same_procedure : (program : List ModuleTree) → AreWellFormed program → (c d : Callee) (p q : Procedure) → procedure_of program (Some c) ≡ Some p → procedure_of program (Some d) ≡ Some q → c_name_of c ≡ c_name_of d → p ≡ q
same_procedure program formed c d p q at_c at_d e =
    let named_c = callee_named program formed c p at_c in
    let named_d = callee_named program formed d q at_d in
    let parts = function_name_parts c.module_name c.name d.module_name d.name e in
    let same : procedure_of program (Some c) ≡ procedure_of program (Some d) = ap (λ m. procedure_in (module_named program m) c.name) parts.0 ∙ ap (procedure_in (module_named program d.module_name)) parts.1 in
    let both : Some p ≡ Some q = sym at_c ∙ same ∙ at_d in cc

right_same : (program : List ModuleTree) → AreWellFormed program → (s t : Signature) → Right program s → Right program t → s.name ≡ t.name → same_signature s t ≡ true
right_same program formed s t (inr h) (inr k) e = signature_same s t (h.gives ∙ sym k.gives) (h.takes ∙ sym k.takes)
right_same program formed s t (inl h) (inr k) e = absurd (never_once s.name h.callee.module_name h.callee.name h.named (ap is_called_once e ∙ k.once))
right_same program formed s t (inr h) (inl k) e = absurd (never_once t.name k.callee.module_name k.callee.name k.named (ap is_called_once (sym e) ∙ h.once))
right_same program formed s t (inl h) (inl k) e =
    let same = same_procedure program formed h.callee k.callee h.procedure k.procedure h.at k.at (sym h.named ∙ e ∙ k.named) in
    signature_same s t (h.gives ∙ sym k.gives) (h.takes ∙ ap (λ q. replicate (length q.function.params) Obj) same ∙ sym k.takes)

pub right_agrees : (program : List ModuleTree) → AreWellFormed program → (sigs : List Signature) (s : Signature) → AllRight program sigs → Right program s → agrees sigs s ≡ true
right_agrees program formed [] s all right = refl
right_agrees program formed (t ∷ sigs) s all right =
    and_from (not (is_same t.name s.name) || same_signature t s) (agrees sigs s) (go (is_same t.name s.name) refl) (right_agrees program formed sigs s all.1 right)
  where
    go : (b : Bool) → is_same t.name s.name ≡ b → (not b || same_signature t s) ≡ true
    go false e = refl
    go true e = right_same program formed t s all.0 right ((bytes_decides t.name s.name).0 e)

-- The signatures of a unit ------------------------------------------------------------------

objects_replicated : (xs : List VarId) → map (λ _. Obj) xs ≡ replicate (length xs) Obj
objects_replicated [] = refl
objects_replicated (x ∷ xs) = ap (λ ts. Obj ∷ ts) (objects_replicated xs)

module _ (program : List ModuleTree) (is_program : IsProgram program) (m : ModuleTree) (member : Has program m) where
  declared_right : (t : CTy) (name : Name) (params : List CTy) → IsDeclared (callees m) t name params → Right program (signature_of (declared t name params))
  declared_right t name params is =
      let all = AllPass-from_list_all (is_there program) (callees m) (callees_there program is_program m member) in
      let h = there program is.callee (All-contains (λ c. is_there program c ≡ true) (callees m) is.callee all is.is_one) in
      inl (record { callee = is.callee; procedure = h.procedure; at = h.at; named = is.named; gives = is.gives; takes = is.takes ∙ ap (λ n. replicate n Obj) (sym h.count) })

  function_right : (f : FunctionTree) (g : Fun) → Has m.functions f → TrFunction m f g → Right program (signature_of (defined g))
  function_right f g here tr =
      let c = own_callee m.name f in
      let h = there program c (own_there program is_program m member f here) in
      inl (record { callee = c; procedure = h.procedure; at = h.at; named = tr.name; gives = tr.result; takes = tr.params ∙ objects_replicated f.params ∙ ap (λ n. replicate n Obj) (sym h.count) })

  maker_right : (g : Fun) → IsEmpty (maker_name m.name) g → Right program (signature_of (defined g))
  maker_right g tr = inr (record { once = ap is_called_once tr.named ∙ maker_is_once m.name; gives = tr.result; takes = ap (map (λ v. v.ty)) tr.params })

  forms_right : (g : Fun) → TrForms m g → Right program (signature_of (defined g))
  forms_right g tr = inr (record { once = ap is_called_once tr.named ∙ initializer_is_once m.name; gives = tr.result; takes = ap (map (λ v. v.ty)) tr.params })

  nothing_right : (items : List Item) → DefineNothing items → AreDeclared (callees m) items → ItemsRight program items
  nothing_right [] tr are = tt
  nothing_right (external v ∷ is) tr are = absurd tr
  nothing_right (global v ∷ is) tr are = absurd tr
  nothing_right (declared t n ps ∷ is) tr are = (declared_right t n ps are.0, nothing_right is tr are.1)
  nothing_right (defined g ∷ is) tr are = absurd tr

  initializer_right : (items : List Item) → TrInitializer m items → AreDeclared (callees m) items → ItemsRight program items
  initializer_right [] tr are = tt
  initializer_right (external v ∷ is) tr are = absurd tr
  initializer_right (global v ∷ is) tr are = absurd tr
  initializer_right (declared t n ps ∷ is) tr are = (declared_right t n ps are.0, initializer_right is tr are.1)
  initializer_right (defined g ∷ is) tr are = (forms_right g tr.0, nothing_right is tr.1 are)

  items_right : (fs : List FunctionTree) (items : List Item) → ((f : FunctionTree) → Has fs f → Has m.functions f) → TrFunctions m fs items → AreDeclared (callees m) items → ItemsRight program items
  items_right fs [] within tr are = tt
  items_right fs (external v ∷ is) within tr are = absurd tr
  items_right fs (global v ∷ is) within tr are = absurd tr
  items_right [] (declared t n ps ∷ is) within tr are = (declared_right t n ps are.0, items_right [] is within tr are.1)
  items_right (f ∷ fs) (declared t n ps ∷ is) within tr are = (declared_right t n ps are.0, items_right (f ∷ fs) is within tr are.1)
  items_right (f ∷ fs) (defined g ∷ is) within tr are = (function_right f g (within f (inl refl)) tr.0, items_right fs is (λ x h. within x (inr h)) tr.1 are)
  items_right [] (defined g ∷ is) within tr are = (maker_right g tr.0, initializer_right is tr.1 are)

  pub unit_right : (items : List Item) → Translated m items → ItemsRight program items
  unit_right items tr = items_right m.functions items (λ f h. h) tr.functions tr.declarations
