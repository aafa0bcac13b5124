-- The main function: its names, its types, and that it calls each maker and each initialisation once.
use Rattle.std.proofs.Common.{◌≡◌, List, [], ◌∷◌, ◌++◌, Bool, true, false, Option, Some, None, refl, sym, ap, ◌∙◌, inl, inr}
use Rattle.std.specs.Prelude.{map, not, ◌||◌, if◌then◌else◌, IsTrue}
use Rattle.std.specs.List.{list_any, list_all}
use Rattle.std.proofs.lemmas.Bool.{and_from, and_parts, not-true}
use Rattle.std.proofs.lemmas.List.{append-nil, map-append}
use Rattle.std.proofs.lemmas.List.Folds.{list_any-append, list_all-append}
use Rattle.std.specs.Cmp.Lexicographic.{bytes_decides}
use Rattle.scheme_data.specs.Names.{are_distinct, is_same}
use Rattle.scheme_data.specs.Symbols.{IsSymbol}
use Rattle.core_tree.specs.Tree.{ModuleTree, Callee}
use Rattle.core_tree.specs.WellFormed.{AreNames}
use Rattle.c_tree.specs.declared.tree.CTy.TheVariants.{Obj, Int}
use Rattle.c_tree.specs.declared.tree.CVar.{CVar}
use Rattle.c_tree.specs.Code.{Code, Item, external, global, declared, defined}
use Rattle.c_tree.specs.Names.{maker_name, initializer_name, is_module_function, is_entry_name, is_maker_name, is_initializer_name, is_function_name, is_local_name, is_variable_name}
use Rattle.c_tree.specs.Spelling.{NamedCode, NamedItem}
use Rattle.c_tree.specs.declared.op.Wants.TheVariants.{AType}
use Rattle.c_meaning.specs.Plain.{Signature, signature_of, signature_named, same_type, arguments_fit, call_fits_signature, is_the_type, has_type, code_fits, returns_last, Main, callable, item_fits, defined_names, item_names, is_called_once, once_in, once_in_main, all_called}
use Rattle.plan_rules.specs.Representation.{local}
use Rattle.plan_rules.specs.Joined.{Part, first_local, second_local, calls_alone, call_main, main_code, main_function}
use Rattle.plan_rules.specs.Translation.{Name, callees, AreDeclared}
use Rattle.simulation.specs.Law.{AreTranslated}
use Rattle.c_tree.proofs.CNames.{maker_name_part, initializer_name_part}
use Rattle.plan_rules.proofs.NameKinds.{NameOf, a_function, a_maker, an_initializer, maker_is_once, initializer_is_once, function_not_once, other_kinds, other_name}
use Rattle.c_tree.proofs.CNames.{named_maker, named_initializer}
use Rattle.simulation.proofs.Members.{Has, named_there}
use Rattle.simulation.proofs.Signatures.{or_later}
use Rattle.simulation.proofs.Distinct.{items_of, or_parts, distinct_both, NamesOf, unit_named}

-- Names -------------------------------------------------------------------------------------

named_calls : (of : Name → Name) → ((m : Name) → IsSymbol m → IsTrue (is_function_name (of m))) → (ms : List Name) → AreNames ms → (rest : Code) → NamedCode rest → NamedCode (calls_alone (map of ms) rest)
named_calls of each [] are rest named = named
named_calls of each (m ∷ ms) are rest named = ((each m are.0, tt), named_calls of each ms are.1 rest named)

call_named : (f : Name) → IsTrue (is_function_name f) → NamedCode (call_main f)
unfolding is_local_name is_variable_name
call_named f named = (refl, (tt, tt), (refl, (named, (refl, tt)), ((tt, (refl, tt)), tt)))

pub main_named : (ms : List Name) (f : Name) → AreNames ms → IsTrue (is_function_name f) → NamedItem (main_function ms f)
unfolding is_module_function is_entry_name is_maker_name is_initializer_name is_function_name is_local_name
main_named ms f are named =
    (refl, tt, (refl, (refl, tt)), named_calls maker_name named_maker ms are (calls_alone (map initializer_name ms) (call_main f)) (named_calls initializer_name named_initializer ms are (call_main f) (call_named f named)))

-- Types -------------------------------------------------------------------------------------

abbrev main_locals : List CVar
main_locals = record { ty = Obj; name = first_local } ∷ record { ty = Obj; name = second_local } ∷ []

-- a call of a function of one word, which gives one
abbrev pub call_is : Option Signature → Bool
call_is s = is_the_type Obj (call_fits_signature main_locals s (local first_local ∷ []))

pub word_function : (s : Signature) → s.result ≡ Obj → s.params ≡ Obj ∷ [] → call_is (Some s) ≡ true
word_function s er ep = ap (λ ps. is_the_type Obj (if arguments_fit main_locals (map AType ps) (local first_local ∷ []) then Some s.result else None)) ep ∙ ap (λ t. same_type Obj t) er

-- a call of a function of no parameters
abbrev pub alone_is : Option Signature → Bool
alone_is s = has_type (call_fits_signature main_locals s [])

pub lone_function : (s : Signature) → s.params ≡ [] → alone_is (Some s) ≡ true
lone_function s ep = ap (λ ps. has_type (if arguments_fit main_locals (map AType ps) [] then Some s.result else None)) ep

module _ (sigs : List Signature) where
  -- calls that take nothing, in front of others
  calls_fit : (of : Name → Name) (ms : List Name) → ((m : Name) → Has ms m → alone_is (signature_named sigs (of m)) ≡ true) → (rest : Code) → code_fits sigs main_locals Int rest ≡ true → code_fits sigs main_locals Int (calls_alone (map of ms) rest) ≡ true
  calls_fit of [] each rest e = e
  calls_fit of (m ∷ ms) each rest e =
      and_from (alone_is (signature_named sigs (of m))) (code_fits sigs main_locals Int (calls_alone (map of ms) rest)) (each m (inl refl)) (calls_fit of ms (λ k h. each k (inr h)) rest e)

  call_fits : (f : Name) → call_is (signature_named sigs f) ≡ true → code_fits sigs main_locals Int (call_main f) ≡ true
  call_fits f called = rw called refl

returns_too : (ns : List Name) (rest : Code) → returns_last rest ≡ true → returns_last (calls_alone ns rest) ≡ true
returns_too [] rest e = e
returns_too (n ∷ ns) rest e = returns_too ns rest e

pub main_fits : (names : List Name) (sigs : List Signature) (ms : List Name) (f : Name)
    → ((m : Name) → Has ms m → alone_is (signature_named (callable Main names sigs) (maker_name m)) ≡ true)
    → ((m : Name) → Has ms m → alone_is (signature_named (callable Main names sigs) (initializer_name m)) ≡ true)
    → call_is (signature_named (callable Main names sigs) f) ≡ true → item_fits names sigs (main_function ms f) ≡ true
main_fits names sigs ms f made initialized called =
    let usable = callable Main names sigs in
    let last = calls_alone (map initializer_name ms) (call_main f) in
    and_from (code_fits usable main_locals Int (main_code ms f)) (returns_last (main_code ms f))
    (calls_fit usable maker_name ms made last (calls_fit usable initializer_name ms initialized (call_main f) (call_fits usable f called)))
    (returns_too (map maker_name ms) last (returns_too (map initializer_name ms) (call_main f) refl))

-- Makers and initialisations ----------------------------------------------------------------

abbrev pub called_in_main : List Name → List Name
called_in_main ms = map maker_name ms ++ map initializer_name ms

calls_once : (of : Name → Name) → ((m : Name) → is_called_once (of m) ≡ true) → (ms : List Name) (rest : Code) → once_in (calls_alone (map of ms) rest) ≡ map of ms ++ once_in rest
calls_once of each [] rest = refl
calls_once of each (m ∷ ms) rest =
    ap (λ b. (if b then of m ∷ [] else []) ++ once_in (calls_alone (map of ms) rest)) (each m) ∙ ap (λ ns. of m ∷ ns) (calls_once of each ms rest)

pub main_once : (ms : List Name) (f : Name) → is_called_once f ≡ false → once_in_main (main_function ms f ∷ []) ≡ called_in_main ms
main_once ms f never =
    let last : once_in (call_main f) ≡ [] = rw never refl in
    calls_once maker_name maker_is_once ms (calls_alone (map initializer_name ms) (call_main f))
    ∙ ap (λ ns. map maker_name ms ++ ns) (calls_once initializer_name initializer_is_once ms (call_main f) ∙ ap (λ ns. map initializer_name ms ++ ns) last ∙ append-nil (map initializer_name ms))

-- Each once ---------------------------------------------------------------------------------

abbrev Injective : (Name → Name) → Type 0
Injective of = (m k : Name) → of m ≡ of k → m ≡ k

others_of : (of : Name → Name) → Injective of → (m : Name) (ms : List Name) → list_any (is_same m) ms ≡ false → list_any (is_same (of m)) (map of ms) ≡ false
others_of of parts m [] other = refl
others_of of parts m (k ∷ ms) other =
    let apart = or_parts (is_same m k) (list_any (is_same m) ms) other in
    ap (λ b. b || list_any (is_same (of m)) (map of ms)) (other_name (of m) (of k) (λ e. absurd (let bad : false ≡ true = sym apart.0 ∙ (bytes_decides m k).1 (parts m k e) in cc)))
    ∙ others_of of parts m ms apart.1

distinct_of : (of : Name → Name) → Injective of → (ms : List Name) → are_distinct ms ≡ true → are_distinct (map of ms) ≡ true
distinct_of of parts [] distinct = refl
distinct_of of parts (m ∷ ms) distinct =
    let apart = and_parts (not (list_any (is_same m) ms)) (are_distinct ms) distinct in
    and_from (not (list_any (is_same (of m)) (map of ms))) (are_distinct (map of ms))
    (ap not (others_of of parts m ms (not-true (list_any (is_same m) ms) apart.0)))
    (distinct_of of parts ms apart.1)

no_initializer : (m : Name) (ks : List Name) → list_any (is_same (maker_name m)) (map initializer_name ks) ≡ false
no_initializer m [] = refl
no_initializer m (k ∷ ks) = ap (λ b. b || list_any (is_same (maker_name m)) (map initializer_name ks)) (other_name (maker_name m) (initializer_name k) (other_kinds m k)) ∙ no_initializer m ks

no_initializers : (ms ks : List Name) → list_all (λ n. not (list_any (is_same n) (map initializer_name ks))) (map maker_name ms) ≡ true
no_initializers [] ks = refl
no_initializers (m ∷ ms) ks =
    and_from (not (list_any (is_same (maker_name m)) (map initializer_name ks))) (list_all (λ n. not (list_any (is_same n) (map initializer_name ks))) (map maker_name ms))
    (ap not (no_initializer m ks)) (no_initializers ms ks)

pub once_distinct : (ms : List Name) → are_distinct ms ≡ true → are_distinct (called_in_main ms) ≡ true
once_distinct ms distinct =
    distinct_both (map maker_name ms) (map initializer_name ms) (distinct_of maker_name maker_name_part ms distinct) (distinct_of initializer_name initializer_name_part ms distinct) (no_initializers ms ms)

-- All of them -------------------------------------------------------------------------------

abbrev pub name_of : Item → Name
name_of i = (signature_of i).name

-- a name is no maker's or initialisation's, or is called
abbrev pub is_met : List Name → Name → Bool
is_met called name = not (is_called_once name) || list_any (is_same name) called

name_met : (ms : List Name) (m n : Name) → Has ms m → NameOf m n → is_met (called_in_main ms) n ≡ true
name_met ms m n h (a_function f e) = ap (λ b. not b || list_any (is_same n) (called_in_main ms)) (ap is_called_once e ∙ function_not_once m f)
name_met ms m n h (a_maker e) =
    or_later (not (is_called_once n)) (list_any (is_same n) (called_in_main ms))
    (list_any-append (is_same n) (map maker_name ms) (map initializer_name ms)
    ∙ ap (λ b. b || list_any (is_same n) (map initializer_name ms)) (ap (λ x. list_any (is_same x) (map maker_name ms)) e ∙ named_there maker_name ms m h))
name_met ms m n h (an_initializer e) =
    or_later (not (is_called_once n)) (list_any (is_same n) (called_in_main ms))
    (list_any-append (is_same n) (map maker_name ms) (map initializer_name ms)
    ∙ or_later (list_any (is_same n) (map maker_name ms)) (list_any (is_same n) (map initializer_name ms)) (ap (λ x. list_any (is_same x) (map initializer_name ms)) e ∙ named_there initializer_name ms m h))

names_met : (ms : List Name) (m : Name) → Has ms m → (ns : List Name) → NamesOf m ns → all_called (called_in_main ms) ns ≡ true
names_met ms m h [] named = refl
names_met ms m h (n ∷ ns) named = and_from (is_met (called_in_main ms) n) (all_called (called_in_main ms) ns) (name_met ms m n h named.0) (names_met ms m h ns named.1)

-- what is declared alone is a function
items_met : (called : List Name) (cs : List Callee) (items : List Item) → AreDeclared cs items → all_called called (defined_names items) ≡ true → all_called called (item_names items) ≡ true
items_met called cs [] are e = refl
items_met called cs (external v ∷ is) are e = absurd are
items_met called cs (global v ∷ is) are e = absurd are
items_met called cs (declared t n ps ∷ is) are e =
    let c = are.0.callee in
    and_from (is_met called n) (all_called called (item_names is)) (ap (λ b. not b || list_any (is_same n) called) (ap is_called_once are.0.named ∙ function_not_once c.module_name c.name)) (items_met called cs is are.1 e)
items_met called cs (defined g ∷ is) are e =
    let parts = and_parts (is_met called g.name) (all_called called (defined_names is)) e in
    and_from (is_met called g.name) (all_called called (item_names is)) parts.0 (items_met called cs is are parts.1)

pub units_met : (names : List Name) (ms : List ModuleTree) (parts : List Part) → ((m : ModuleTree) → Has ms m → Has names m.name) → AreTranslated ms parts → all_called (called_in_main names) (item_names (items_of parts)) ≡ true
units_met names [] [] within tr = refl
units_met names [] (p ∷ ps) within tr = absurd tr
units_met names (m ∷ ms) [] within tr = absurd tr
units_met names (m ∷ ms) (p ∷ ps) within tr =
    let called = called_in_main names in
    let one = tr.0.translated in
    ap (all_called called) (map-append name_of p.items (items_of ps))
    ∙ list_all-append (is_met called) (item_names p.items) (item_names (items_of ps))
    ∙ and_from (all_called called (item_names p.items)) (all_called called (item_names (items_of ps)))
    (items_met called (callees m) p.items one.declarations (names_met names m.name (within m (inl refl)) (defined_names p.items) (unit_named m p.items one)))
    (units_met names ms ps (λ k h. within k (inr h)) tr.1)
