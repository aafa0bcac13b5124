-- What a source of proper data says by itself.
use Rattle.std.proofs.Common.{◌≡◌, ℕ, ◌+◌, ◌<◌, Bool, true, false, not, ◌&&◌, if◌then◌else◌, nat_eq, codes, List, [], ◌∷◌, ◌++◌, map, length, slice_get, Option, Some, None, refl, sym, ap, ◌∙◌, arith}
use Rattle.std.specs.List.{list_any, list_all}
use Rattle.std.proofs.lemmas.Bool.{and_parts}
use Rattle.scheme_data.specs.Names.{is_same, are_distinct}
use Rattle.scheme_data.specs.Data.{Plain, Number, Character, Truth, Unspecified, String, Symbol, Listed, Dotted, Vector, Plains, none, more, IsProper, AreProper}
use Rattle.scheme_data.specs.Symbols.{IsSymbol}
use Rattle.name_table.specs.Names.{has_name}
use Rattle.resolver.specs.BuiltHeads.{HeadTree, is_word, symbol_of, says, head_of, onto}
use Rattle.scheme_data.proofs.DistinctNames.{added}
use Rattle.core_tree.specs.Tree.{Tree, Trees, FunctionTree, ModuleTree, function_named, found_use}
use Rattle.core_tree.specs.WellFormed.{IsFound, IsBody, IsFunction, AreFunctions}
use Rattle.core_tree.specs.WellFormed as formed
use Rattle.resolver.specs.Names.{is_primitive_name, is_defined_name}
use Rattle.resolver.specs.Drafts.{Scope, expressions, body, Definition, names, named, prototype, definition, TopForm, Defines, Evaluates, begins_definition, defining, top_form, tops, definitions_in, evaluated_in, variables, defined, scope_of, functions, top_scope, function_names, imported_names, outside_in_tops, outside_of, definition_named, takes_as_many, is_there, has_main, agrees, Draft, draft_with, draft_in, draft_of, draft}
use Rattle.resolver.specs.Firsts.{firsts}
use Rattle.resolver.specs.Parts.{with_first}
use Rattle.resolver.proofs.Firsts.{names_first}
use Rattle.resolver.proofs.FormedParts.{Holds, where_true}
use Rattle.resolver.proofs.FormedHeads.{symbol_named, IsRight, head_formed}
use Rattle.resolver.proofs.FormedExpressions.{body_formed}

-- Definitions -------------------------------------------------------------------------------

pub record IsDefinition (d : Definition) : Type 0 where
  pub name : IsSymbol d.name
  pub body : AreProper d.body

abbrev pub AreDefinitions : List Definition → Type 0
AreDefinitions [] = Unit {0}
AreDefinitions (d ∷ ds) = IsDefinition d × AreDefinitions ds

named_formed : (f : Option (List ℕ)) (o : Option (List (List ℕ))) (ds : Plains) → Holds IsSymbol f → AreProper ds → Holds IsDefinition (named f o ds)
named_formed None o ds h k = tt
named_formed (Some f) None ds h k = tt
named_formed (Some f) (Some xs) ds h k =
    where_true IsDefinition (is_defined_name f && are_distinct xs) (Some (record { name = f; params = xs; body = ds })) (record { name = h; body = k })

prototype_formed : (d : Plain) (ds : Plains) → IsProper d → AreProper ds → Holds IsDefinition (prototype d ds)
prototype_formed (Number n) ds h k = tt
prototype_formed (Symbol name mark) ds h k = tt
prototype_formed (Character b) ds h k = tt
prototype_formed (Truth t) ds h k = tt
prototype_formed Unspecified ds h k = tt
prototype_formed (String text) ds h k = tt
prototype_formed (Dotted es tail) ds h k = tt
prototype_formed (Vector es) ds h k = tt
prototype_formed (Listed none) ds h k = tt
prototype_formed (Listed (more f xs)) ds h k = named_formed (symbol_of f) (names xs) ds (symbol_named f h.0) k

definition_formed : (d : Plain) → IsProper d → Holds IsDefinition (definition d)
definition_formed (Number n) h = tt
definition_formed (Symbol name mark) h = tt
definition_formed (Character b) h = tt
definition_formed (Truth t) h = tt
definition_formed Unspecified h = tt
definition_formed (String text) h = tt
definition_formed (Dotted es tail) h = tt
definition_formed (Vector es) h = tt
definition_formed (Listed none) h = tt
definition_formed (Listed (more w none)) h = tt
definition_formed (Listed (more w (more d ds))) h =
    where_true IsDefinition (says (symbol_of w) (codes "define")) (prototype d ds) (prototype_formed d ds h.1.0 h.1.1)

-- a definition, or a proper datum
abbrev IsTop : TopForm → Type 0
IsTop (Defines d) = IsDefinition d
IsTop (Evaluates d) = IsProper d

abbrev AreTops : List TopForm → Type 0
AreTops [] = Unit {0}
AreTops (t ∷ ts) = IsTop t × AreTops ts

defining_formed : (o : Option Definition) → Holds IsDefinition o → Holds IsTop (defining o)
defining_formed None h = tt
defining_formed (Some d) h = h

top_formed : (d : Plain) → IsProper d → Holds IsTop (top_form d)
top_formed d h = go (begins_definition d)
  where
    go : (b : Bool) → Holds IsTop (if b then defining (definition d) else Some (Evaluates d))
    go true = defining_formed (definition d) (definition_formed d h)
    go false = h

onto_tops_formed : (o : Option TopForm) (ts : Option (List TopForm)) → Holds IsTop o → Holds AreTops ts → Holds AreTops (onto o ts)
onto_tops_formed None ts h k = tt
onto_tops_formed (Some t) None h k = tt
onto_tops_formed (Some t) (Some ts) h k = (h, k)

tops_formed : (ds : Plains) → AreProper ds → Holds AreTops (tops ds)
tops_formed none h = tt
tops_formed (more d ds) h = onto_tops_formed (top_form d) (tops ds) (top_formed d h.0) (tops_formed ds h.1)

definitions_formed : (ts : List TopForm) → AreTops ts → AreDefinitions (definitions_in ts)
definitions_formed [] h = tt
definitions_formed (Defines d ∷ ts) h = (h.0, definitions_formed ts h.1)
definitions_formed (Evaluates d ∷ ts) h = definitions_formed ts h.1

evaluated_formed : (ts : List TopForm) → AreTops ts → AreProper (evaluated_in ts)
evaluated_formed [] h = tt
evaluated_formed (Defines d ∷ ts) h = evaluated_formed ts h.1
evaluated_formed (Evaluates d ∷ ts) h = (h.0, evaluated_formed ts h.1)

-- Functions ---------------------------------------------------------------------------------

defined_formed : (m : ModuleTree) (first : ℕ) (d : Definition) (t : Option Tree) → IsSymbol d.name → Holds (IsBody m (variables first d.params)) t
    → Holds (IsFunction m) (defined first d t)
defined_formed m first d None h k = tt
defined_formed m first d (Some t) h k = record { name = h; body = k }

onto_functions_formed : (m : ModuleTree) (o : Option FunctionTree) (fs : Option (List FunctionTree)) → Holds (IsFunction m) o → Holds (AreFunctions m) fs
    → Holds (AreFunctions m) (onto o fs)
onto_functions_formed m None fs h k = tt
onto_functions_formed m (Some f) None h k = tt
onto_functions_formed m (Some f) (Some fs) h k = (h, k)

-- in a module with as many functions as names, whose uses begin with what is called
pub functions_formed : (all outside : List (List ℕ)) (main : Option (List ℕ)) (m : ModuleTree) → length m.functions ≡ length all
    → ((n : ℕ) → n < length outside → IsFound (found_use (slice_get m.uses n))) → (first : ℕ) (ds : List Definition) → AreDefinitions ds
    → Holds (AreFunctions m) (functions all outside main first ds)
functions_formed all outside main m e c first [] h = tt
functions_formed all outside main m e c first (d ∷ ds) h =
    let s : Scope = scope_of all outside main first d in
    onto_functions_formed m (defined first d (body s d.body)) (functions all outside main (first + length d.params) ds)
    (defined_formed m first d (body s d.body) h.0.name (body_formed s m e c d.body h.0.body))
    (functions_formed all outside main m e c (first + length d.params) ds h.1)

-- the function of a definition has its name and as many parameters
pub record IsOf (d : Definition) (f : FunctionTree) : Type 0 where
  pub name : f.name ≡ d.name
  pub many : length f.params ≡ length d.params

abbrev pub AreOf : List Definition → List FunctionTree → Type 0
AreOf [] [] = Unit {0}
AreOf [] (f ∷ fs) = ⊥
AreOf (d ∷ ds) [] = ⊥
AreOf (d ∷ ds) (f ∷ fs) = IsOf d f × AreOf ds fs

as_many_variables : (first : ℕ) (xs : List (List ℕ)) → length (variables first xs) ≡ length xs
as_many_variables first [] = refl
as_many_variables first (x ∷ xs) = grind (arith, as_many_variables (1 + first) xs)

function_of_next : (first : ℕ) (d : Definition) (ds : List Definition) (t : Option Tree) (fs : Option (List FunctionTree)) → Holds (AreOf ds) fs
    → Holds (AreOf (d ∷ ds)) (onto (defined first d t) fs)
function_of_next first d ds None fs h = tt
function_of_next first d ds (Some t) None h = tt
function_of_next first d ds (Some t) (Some fs) h = (record { name = refl; many = as_many_variables first d.params }, h)

pub functions_of : (all outside : List (List ℕ)) (main : Option (List ℕ)) (first : ℕ) (ds : List Definition) → Holds (AreOf ds) (functions all outside main first ds)
functions_of all outside main first [] = tt
functions_of all outside main first (d ∷ ds) =
    function_of_next first d ds (body (scope_of all outside main first d) d.body) (functions all outside main (first + length d.params) ds)
    (functions_of all outside main (first + length d.params) ds)

pub names_of : (ds : List Definition) (fs : List FunctionTree) → AreOf ds fs → map (λ f. f.name) fs ≡ function_names ds
names_of [] [] h = refl
names_of [] (f ∷ fs) h = absurd h
names_of (d ∷ ds) [] h = absurd h
names_of (d ∷ ds) (f ∷ fs) h = ap (λ x. x ∷ map (λ f. f.name) fs) h.0.name ∙ ap (λ xs. d.name ∷ xs) (names_of ds fs h.1)

-- a function takes as many arguments as its definition
pub take_as_many : (ds : List Definition) (fs : List FunctionTree) → AreOf ds fs → (n : ℕ) (name : List ℕ)
    → takes_as_many n (definition_named ds name) ≡ formed.takes_as_many n (function_named fs name)
take_as_many [] [] h n name = refl
take_as_many [] (f ∷ fs) h n name = absurd h
take_as_many (d ∷ ds) [] h n name = absurd h
take_as_many (d ∷ ds) (f ∷ fs) h n name =
    go (is_word d.name name) (take_as_many ds fs h.1 n name)
    ∙ sym (ap (λ x. formed.takes_as_many n (if is_word x name then Some f else function_named fs name)) h.0.name)
  where
    go : (b : Bool) → takes_as_many n (definition_named ds name) ≡ formed.takes_as_many n (function_named fs name)
        → takes_as_many n (if b then Some d else definition_named ds name) ≡ formed.takes_as_many n (if b then Some f else function_named fs name)
    go true later = ap (λ k. nat_eq k n) (sym h.0.many)
    go false later = later

-- Sources -----------------------------------------------------------------------------------

first_distinct : (xs seen : List (List ℕ)) → are_distinct seen ≡ true → are_distinct (with_first is_same seen xs) ≡ true
first_distinct [] seen d = d
first_distinct (x ∷ xs) seen d = first_distinct xs (if has_name seen x then seen else seen ++ x ∷ []) (go (has_name seen x) refl)
  where
    go : (b : Bool) → has_name seen x ≡ b → are_distinct (if b then seen else seen ++ x ∷ []) ≡ true
    go true e = d
    go false e = added seen x d e

firsts_distinct : (xs : List (List ℕ)) → are_distinct (firsts is_same xs) ≡ true
firsts_distinct xs = ap are_distinct (sym (names_first xs)) ∙ first_distinct xs [] refl

-- the definitions and the expressions of a draft, and what agrees with its head
pub record IsDraft (d : Draft) : Type 0 where
  pub head : IsRight d.head
  pub outside : are_distinct d.outside ≡ true
  pub source : List Definition
  pub formed : AreDefinitions source
  pub distinct : are_distinct (function_names source) ≡ true
  pub exported : list_all (is_there source) d.head.exports ≡ true
  pub main : has_main d.head.main source ≡ true
  pub built : functions (function_names source) d.outside d.head.main 0 source ≡ Some d.functions
  pub evaluated : Plains
  pub proper : AreProper evaluated
  pub forms : expressions (top_scope (function_names source) d.outside) evaluated ≡ Some d.forms

draft_with_formed : (h : HeadTree) (ts : List TopForm) (fs : Option (List FunctionTree)) (es : Option Trees)
    → functions (function_names (definitions_in ts)) (outside_of h ts) h.main 0 (definitions_in ts) ≡ fs
    → expressions (top_scope (function_names (definitions_in ts)) (outside_of h ts)) (evaluated_in ts) ≡ es
    → IsRight h → AreTops ts → agrees h (definitions_in ts) ≡ true → Holds IsDraft (draft_with h (outside_of h ts) fs es)
draft_with_formed h ts None es e f p q a = tt
draft_with_formed h ts (Some fs) None e f p q a = tt
draft_with_formed h ts (Some fs) (Some es) e f p q a =
    let ds : List Definition = definitions_in ts in
    let parts = and_parts (not (list_any is_primitive_name (imported_names h.imports)) && are_distinct (function_names ds)) (list_all (is_there ds) h.exports && has_main h.main ds) a in
    let first = and_parts (not (list_any is_primitive_name (imported_names h.imports))) (are_distinct (function_names ds)) parts.0 in
    let last = and_parts (list_all (is_there ds) h.exports) (has_main h.main ds) parts.1 in
    record {
      head = p;
      outside = firsts_distinct (outside_in_tops (imported_names h.imports) (function_names ds) ts);
      source = ds;
      formed = definitions_formed ts q;
      distinct = first.1;
      exported = last.0;
      main = last.1;
      built = e;
      evaluated = evaluated_in ts;
      proper = evaluated_formed ts q;
      forms = f;
    }

draft_of_formed : (h : Option HeadTree) (ts : Option (List TopForm)) → Holds IsRight h → Holds AreTops ts → Holds IsDraft (draft_of h ts)
draft_of_formed None ts p q = tt
draft_of_formed (Some h) None p q = tt
draft_of_formed (Some h) (Some ts) p q = go (agrees h (definitions_in ts)) refl
  where
    all : List (List ℕ)
    all = function_names (definitions_in ts)

    go : (b : Bool) → agrees h (definitions_in ts) ≡ b → Holds IsDraft (if b then draft_in h all (outside_of h ts) ts else None)
    go true e =
        draft_with_formed h ts (functions all (outside_of h ts) h.main 0 (definitions_in ts)) (expressions (top_scope all (outside_of h ts)) (evaluated_in ts)) refl refl p q e
    go false e = tt

pub draft_formed : (ds : Plains) → AreProper ds → Holds IsDraft (draft ds)
unfolding draft
draft_formed none h = tt
draft_formed (more d ds) h = draft_of_formed (head_of d) (tops ds) (head_formed d h.0) (tops_formed ds h.1)
