-- The functions of a program's modules, and their translations in the linked program.
use Rattle.std.proofs.Common.{◌≡◌, List, [], ◌∷◌, ◌++◌, true, false, Some, refl, sym, ap, ◌∙◌, subst, inl, inr}
use Rattle.std.specs.Prelude.{map, not, ◌&&◌, ◌||◌}
use Rattle.std.specs.List.{flat_map, list_any}
use Rattle.std.proofs.lemmas.Bool.{and_from, and_parts, or_parts, not-true}
use Rattle.scheme_data.specs.Names.{are_distinct, is_same}
use Rattle.core_tree.specs.Tree.{FunctionTree, ModuleTree, Callee}
use Rattle.meaning.specs.Procedures.{Procedure, procedure_of}
use Rattle.c_tree.specs.Code.{Fun, Item, external, global, declared, defined}
use Rattle.c_tree.specs.Names.{function_name, maker_name, initializer_name}
use Rattle.c_meaning.specs.Execution.{fun_named}
use Rattle.c_meaning.specs.Plain.{Signature, signature_of, role_of, has_shape, callable, item_fits, agrees, items_fit, defined_names, variables_of}
use Rattle.c_meaning.specs.Program.{functions_of}
use Rattle.plan_rules.specs.Joined.{Part, main_function, joined}
use Rattle.plan_rules.specs.Translation.{Name, TrFunction, IsEmpty, TrForms, TrInitializer, TrFunctions, Translated, c_name_of, outside_of, is_sound_with}
use Rattle.simulation.specs.Law.{AreTranslated}
use Rattle.simulation.proofs.Frames.{names}
use Rattle.simulation.proofs.Members.{Has, has_before, has_after, found_by_name}
use Rattle.simulation.proofs.Links.{placed}

-- Definitions of items ----------------------------------------------------------------------

functions_of_both : (items more : List Item) → functions_of (items ++ more) ≡ functions_of items ++ functions_of more
functions_of_both [] more = refl
functions_of_both (external v ∷ is) more = functions_of_both is more
functions_of_both (global v ∷ is) more = functions_of_both is more
functions_of_both (declared t n ps ∷ is) more = functions_of_both is more
functions_of_both (defined g ∷ is) more = ap (λ gs. g ∷ gs) (functions_of_both is more)

defined_before : (items more : List Item) (g : Fun) → Has (functions_of items) g → Has (functions_of (items ++ more)) g
defined_before items more g h = subst (λ gs. Has gs g) (sym (functions_of_both items more)) (has_before (functions_of items) (functions_of more) g h)

pub defined_after : (items more : List Item) (g : Fun) → Has (functions_of more) g → Has (functions_of (items ++ more)) g
defined_after items more g h = subst (λ gs. Has gs g) (sym (functions_of_both items more)) (has_after (functions_of items) (functions_of more) g h)

abbrev pub function_names : List Item → List Name
function_names items = map (λ g. g.name) (functions_of items)

-- a name that nothing has is no function's
no_function : (items : List Item) (n : Name) → list_any (is_same n) (defined_names items) ≡ false → list_any (is_same n) (function_names items) ≡ false
no_function [] n e = refl
no_function (external v ∷ is) n e = no_function is n e
no_function (global v ∷ is) n e = no_function is n (or_parts (is_same n v.name) (list_any (is_same n) (defined_names is)) e).1
no_function (declared t k ps ∷ is) n e = no_function is n e
no_function (defined g ∷ is) n e =
    let parts = or_parts (is_same n g.name) (list_any (is_same n) (defined_names is)) e in
    ap (λ b. b || list_any (is_same n) (function_names is)) parts.0 ∙ no_function is n parts.1

functions_distinct : (items : List Item) → are_distinct (defined_names items) ≡ true → are_distinct (function_names items) ≡ true
functions_distinct [] e = refl
functions_distinct (external v ∷ is) e = functions_distinct is e
functions_distinct (global v ∷ is) e = functions_distinct is (and_parts (not (list_any (is_same v.name) (defined_names is))) (are_distinct (defined_names is)) e).1
functions_distinct (declared t k ps ∷ is) e = functions_distinct is e
functions_distinct (defined g ∷ is) e =
    let parts = and_parts (not (list_any (is_same g.name) (defined_names is))) (are_distinct (defined_names is)) e in
    and_from (not (list_any (is_same g.name) (function_names is))) (are_distinct (function_names is))
    (ap not (no_function is g.name (not-true (list_any (is_same g.name) (defined_names is)) parts.0))) (functions_distinct is parts.1)

-- where no name is defined twice, a function is found by its name
pub is_found : (items : List Item) (g : Fun) (n : Name) → are_distinct (defined_names items) ≡ true → Has (functions_of items) g → g.name ≡ n → fun_named (functions_of items) n ≡ Some g
is_found items g n distinct h named =
    ap (fun_named (functions_of items)) (sym named) ∙ found_by_name (λ f. f.name) (functions_of items) g h (functions_distinct items distinct)

-- what fits goes on behind its first item
record Fitting (names : List Name) (sigs : List Signature) (i : Item) (is : List Item) : Type 0 where
  here : item_fits names (signature_of i ∷ sigs) i ≡ true
  behind : items_fit names (signature_of i ∷ sigs) is ≡ true

fitting : (names : List Name) (sigs : List Signature) (i : Item) (is : List Item) → items_fit names sigs (i ∷ is) ≡ true → Fitting names sigs i is
fitting names sigs i is fit =
    let parts = and_parts (agrees sigs (signature_of i) && item_fits names (signature_of i ∷ sigs) i) (items_fit names (signature_of i ∷ sigs) is) fit in
    record { here = (and_parts (agrees sigs (signature_of i)) (item_fits names (signature_of i ∷ sigs) i) parts.0).1; behind = parts.1 }

-- the variables of a definition have names of their own
own_names : (items : List Item) (all : List Name) (sigs : List Signature) (g : Fun) → items_fit all sigs items ≡ true → Has (functions_of items) g → are_distinct (names (variables_of g)) ≡ true
own_names [] all sigs g fit h = absurd h
own_names (external v ∷ is) all sigs g fit h = own_names is all (signature_of (external v) ∷ sigs) g (fitting all sigs (external v) is fit).behind h
own_names (global v ∷ is) all sigs g fit h = own_names is all (signature_of (global v) ∷ sigs) g (fitting all sigs (global v) is fit).behind h
own_names (declared t n ps ∷ is) all sigs g fit h = own_names is all (signature_of (declared t n ps) ∷ sigs) g (fitting all sigs (declared t n ps) is fit).behind h
own_names (defined f ∷ is) all sigs g fit (inl same) =
    let calls = callable (role_of f.name) all (signature_of (defined f) ∷ sigs) in
    let distinct = and_parts (are_distinct (names (variables_of f))) (has_shape calls (role_of f.name) f) (fitting all sigs (defined f) is fit).here in
    subst (λ y. are_distinct (names (variables_of y)) ≡ true) same distinct.0
own_names (defined f ∷ is) all sigs g fit (inr h) = own_names is all (signature_of (defined f) ∷ sigs) g (fitting all sigs (defined f) is fit).behind h

-- Definitions of a unit ---------------------------------------------------------------------

-- one of these is of this kind
pub record Defined (gs : List Fun) (P : Fun → Type 0) : Type 0 where
  pub g : Fun
  pub member : Has gs g
  pub is : P g

later : (P : Fun → Type 0) (g : Fun) (gs : List Fun) → Defined gs P → Defined (g ∷ gs) P
later P g gs h = record { g = h.g; member = inr h.member; is = h.is }

pub function_defined : (m : ModuleTree) (fs : List FunctionTree) (items : List Item) (f : FunctionTree) → TrFunctions m fs items → Has fs f → Defined (functions_of items) (TrFunction m f)
function_defined m fs [] f tr h = absurd tr
function_defined m fs (external v ∷ is) f tr h = absurd tr
function_defined m fs (global v ∷ is) f tr h = absurd tr
function_defined m [] (declared t n ps ∷ is) f tr h = absurd h
function_defined m [] (defined g ∷ is) f tr h = absurd h
function_defined m (x ∷ fs) (declared t n ps ∷ is) f tr h = function_defined m (x ∷ fs) is f tr h
function_defined m (x ∷ fs) (defined g ∷ is) f tr (inl same) = record { g = g; member = inl refl; is = subst (λ y. TrFunction m y g) same tr.0 }
function_defined m (x ∷ fs) (defined g ∷ is) f tr (inr h) = later (TrFunction m f) g (functions_of is) (function_defined m fs is f tr.1 h)

initializer_at : (m : ModuleTree) (items : List Item) → TrInitializer m items → Defined (functions_of items) (TrForms m)
initializer_at m [] tr = absurd tr
initializer_at m (external v ∷ is) tr = absurd tr
initializer_at m (global v ∷ is) tr = absurd tr
initializer_at m (declared t n ps ∷ is) tr = initializer_at m is tr
initializer_at m (defined g ∷ is) tr = record { g = g; member = inl refl; is = tr.0 }

pub maker_defined : (m : ModuleTree) (fs : List FunctionTree) (items : List Item) → TrFunctions m fs items → Defined (functions_of items) (IsEmpty (maker_name m.name))
maker_defined m fs [] tr = absurd tr
maker_defined m fs (external v ∷ is) tr = absurd tr
maker_defined m fs (global v ∷ is) tr = absurd tr
maker_defined m [] (declared t n ps ∷ is) tr = maker_defined m [] is tr
maker_defined m (f ∷ fs) (declared t n ps ∷ is) tr = maker_defined m (f ∷ fs) is tr
maker_defined m (f ∷ fs) (defined g ∷ is) tr = later (IsEmpty (maker_name m.name)) g (functions_of is) (maker_defined m fs is tr.1)
maker_defined m [] (defined g ∷ is) tr = record { g = g; member = inl refl; is = tr.0 }

pub initializer_defined : (m : ModuleTree) (fs : List FunctionTree) (items : List Item) → TrFunctions m fs items → Defined (functions_of items) (TrForms m)
initializer_defined m fs [] tr = absurd tr
initializer_defined m fs (external v ∷ is) tr = absurd tr
initializer_defined m fs (global v ∷ is) tr = absurd tr
initializer_defined m [] (declared t n ps ∷ is) tr = initializer_defined m [] is tr
initializer_defined m (f ∷ fs) (declared t n ps ∷ is) tr = initializer_defined m (f ∷ fs) is tr
initializer_defined m (f ∷ fs) (defined g ∷ is) tr = later (TrForms m) g (functions_of is) (initializer_defined m fs is tr.1)
initializer_defined m [] (defined g ∷ is) tr = later (TrForms m) g (functions_of is) (initializer_at m is tr.1)

-- The unit of a module ----------------------------------------------------------------------

-- the unit of a module among those of a program
pub record Unit_of (parts : List Part) (m : ModuleTree) : Type 0 where
  pub items : List Item
  pub translated : Translated m items
  pub within : (g : Fun) → Has (functions_of items) g → Has (functions_of (flat_map (λ p. p.items) parts)) g

pub unit_of : (ms : List ModuleTree) (parts : List Part) (m : ModuleTree) → AreTranslated ms parts → Has ms m → Unit_of parts m
unit_of [] [] m are h = absurd h
unit_of [] (p ∷ ps) m are h = absurd are
unit_of (x ∷ ms) [] m are h = absurd are
unit_of (x ∷ ms) (p ∷ ps) m are (inl same) =
    record { items = p.items; translated = subst (λ y. Translated y p.items) same are.0.translated; within = λ g d. defined_before p.items (flat_map (λ q. q.items) ps) g d }
unit_of (x ∷ ms) (p ∷ ps) m are (inr h) =
    let u = unit_of ms ps m are.1 h in
    record { items = u.items; translated = u.translated; within = λ g d. defined_after p.items (flat_map (λ q. q.items) ps) g (u.within g d) }

-- Functions of the program ------------------------------------------------------------------

-- the function of this name in a C program
pub record Found (p : List Fun) (n : Name) (P : Fun → Type 0) : Type 0 where
  pub g : Fun
  pub at : fun_named p n ≡ Some g
  pub is : P g
  pub distinct : are_distinct (names (variables_of g)) ≡ true

-- The modules and their units, where no name is defined twice in the linked program.
module _ (program : List ModuleTree) (parts : List Part) (main : Callee) (are : AreTranslated program parts) (distinct : are_distinct (defined_names (joined parts main)) ≡ true) where
  abbrev all_functions : List Fun
  all_functions = functions_of (joined parts main)

  defined_found : (m : ModuleTree) (n : Name) (P : Fun → Type 0) (u : Unit_of parts m) → ((g : Fun) → P g → g.name ≡ n) → Defined (functions_of u.items) P → Found all_functions n P
  unfolding joined is_sound_with
  defined_found m n P u named d =
      let items = flat_map (λ p. p.items) parts in
      let last = main_function (map (λ p. p.module_name) parts) (c_name_of main) in
      let sound = and_parts (are_distinct (defined_names u.items)) (items_fit (outside_of m ++ defined_names u.items) [] u.items) u.translated.sound in
      record {
        g = d.g;
        at = is_found (joined parts main) d.g n distinct (defined_before items (last ∷ []) d.g (u.within d.g d.member)) (named d.g d.is);
        is = d.is;
        distinct = own_names u.items (outside_of m ++ defined_names u.items) [] d.g sound.1 d.member;
      }

  pub function_found : (c : Callee) (q : Procedure) → procedure_of program (Some c) ≡ Some q → Found all_functions (c_name_of c) (TrFunction q.home q.function)
  function_found c q at =
      let h = placed program c q at in
      let u = unit_of program parts q.home are h.home in
      defined_found q.home (c_name_of c) (TrFunction q.home q.function) u
      (λ g tr. tr.name ∙ ap (λ n. function_name n q.function.name) h.home_named ∙ ap (function_name c.module_name) h.function_named)
      (function_defined q.home q.home.functions u.items q.function u.translated.functions h.function)

  pub maker_found : (m : ModuleTree) → Has program m → Found all_functions (maker_name m.name) (IsEmpty (maker_name m.name))
  maker_found m h =
      let u = unit_of program parts m are h in
      defined_found m (maker_name m.name) (IsEmpty (maker_name m.name)) u (λ g empty. empty.named) (maker_defined m m.functions u.items u.translated.functions)

  pub initializer_found : (m : ModuleTree) → Has program m → Found all_functions (initializer_name m.name) (TrForms m)
  initializer_found m h =
      let u = unit_of program parts m are h in
      defined_found m (initializer_name m.name) (TrForms m) u (λ g forms. forms.named) (initializer_defined m m.functions u.items u.translated.functions)
