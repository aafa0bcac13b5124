-- No function is defined twice in the units of a program.
use Rattle.std.proofs.Common.{◌≡◌, List, [], ◌∷◌, ◌++◌, Bool, true, false, refl, sym, ap, ◌∙◌, subst}
use Rattle.std.specs.Prelude.{map, not, ◌||◌}
use Rattle.std.specs.List.{list_any, list_all, flat_map}
use Rattle.std.proofs.lemmas.Bool.{and_from, and_parts, not-true}
use Rattle.std.proofs.lemmas.List.Folds.{list_any-append}
use Rattle.std.specs.Cmp.Lexicographic.{bytes_decides}
use Rattle.scheme_data.specs.Names.{are_distinct, is_same}
use Rattle.core_tree.specs.Tree.{FunctionTree, ModuleTree}
use Rattle.meaning.specs.Program.{IsProgram}
use Rattle.c_tree.specs.Code.{Item, external, global, declared, defined}
use Rattle.c_meaning.specs.Plain.{defined_names, items_fit}
use Rattle.plan_rules.specs.Joined.{Part}
use Rattle.plan_rules.specs.Translation.{Name, DefineNothing, TrInitializer, TrFunctions, outside_of, is_sound_with, Translated}
use Rattle.simulation.specs.Law.{AreTranslated}
use Rattle.plan_rules.proofs.NameKinds.{NameOf, a_function, a_maker, an_initializer, same_module}
use Rattle.simulation.proofs.Signatures.{defined_both}

-- the items of all units
abbrev pub items_of : List Part → List Item
items_of parts = flat_map (λ p. p.items) parts

pub or_parts : (x y : Bool) → (x || y) ≡ false → (x ≡ false) × (y ≡ false)
or_parts true y e = absurd (cc)
or_parts false y e = (refl, e)

-- Lists of names ----------------------------------------------------------------------------

-- two lists with no name in common
pub distinct_both : (xs ys : List Name) → are_distinct xs ≡ true → are_distinct ys ≡ true → list_all (λ x. not (list_any (is_same x) ys)) xs ≡ true → are_distinct (xs ++ ys) ≡ true
distinct_both [] ys distinct others apart = others
distinct_both (x ∷ xs) ys distinct others apart =
    let here = and_parts (not (list_any (is_same x) xs)) (are_distinct xs) distinct in
    let away = and_parts (not (list_any (is_same x) ys)) (list_all (λ y. not (list_any (is_same y) ys)) xs) apart in
    and_from (not (list_any (is_same x) (xs ++ ys))) (are_distinct (xs ++ ys))
    (ap not (list_any-append (is_same x) xs ys ∙ ap (λ b. b || list_any (is_same x) ys) (not-true (list_any (is_same x) xs) here.0) ∙ not-true (list_any (is_same x) ys) away.0))
    (distinct_both xs ys here.1 others away.1)

-- The names of a unit -----------------------------------------------------------------------

abbrev pub NamesOf : Name → List Name → Type 0
NamesOf m [] = Unit {0}
NamesOf m (n ∷ ns) = NameOf m n × NamesOf m ns

nothing_named : (m : ModuleTree) (items : List Item) → DefineNothing items → NamesOf m.name (defined_names items)
nothing_named m [] tr = tt
nothing_named m (external v ∷ is) tr = absurd tr
nothing_named m (global v ∷ is) tr = absurd tr
nothing_named m (declared t n ps ∷ is) tr = nothing_named m is tr
nothing_named m (defined g ∷ is) tr = absurd tr

initializer_named : (m : ModuleTree) (items : List Item) → TrInitializer m items → NamesOf m.name (defined_names items)
initializer_named m [] tr = tt
initializer_named m (external v ∷ is) tr = absurd tr
initializer_named m (global v ∷ is) tr = absurd tr
initializer_named m (declared t n ps ∷ is) tr = initializer_named m is tr
initializer_named m (defined g ∷ is) tr = (an_initializer tr.0.named, nothing_named m is tr.1)

functions_named : (m : ModuleTree) (fs : List FunctionTree) (items : List Item) → TrFunctions m fs items → NamesOf m.name (defined_names items)
functions_named m fs [] tr = tt
functions_named m fs (external v ∷ is) tr = absurd tr
functions_named m fs (global v ∷ is) tr = absurd tr
functions_named m [] (declared t n ps ∷ is) tr = functions_named m [] is tr
functions_named m (f ∷ fs) (declared t n ps ∷ is) tr = functions_named m (f ∷ fs) is tr
functions_named m (f ∷ fs) (defined g ∷ is) tr = (a_function f.name tr.0.name, functions_named m fs is tr.1)
functions_named m [] (defined g ∷ is) tr = (a_maker tr.0.named, initializer_named m is tr.1)

pub unit_named : (m : ModuleTree) (items : List Item) → Translated m items → NamesOf m.name (defined_names items)
unit_named m items tr = functions_named m m.functions items tr.functions

-- Two modules -------------------------------------------------------------------------------

-- a name of one is none of the other's
away : (m k : Name) → is_same m k ≡ false → (n : Name) → NameOf m n → (ns : List Name) → NamesOf k ns → list_any (is_same n) ns ≡ false
away m k other n named [] of = refl
away m k other n named (x ∷ ns) of = ap (λ b. b || list_any (is_same n) ns) (go (is_same n x) refl) ∙ away m k other n named ns of.1
  where
    go : (b : Bool) → is_same n x ≡ b → is_same n x ≡ false
    go false e = e
    go true e =
        let same : n ≡ x = (bytes_decides n x).0 e in
        let one : m ≡ k = same_module m k n named (subst (NameOf k) (sym same) of.0) in
        absurd (let bad : false ≡ true = sym other ∙ (bytes_decides m k).1 one in cc)

-- and none of those of several modules, none of which is this one
away_from_all : (m n : Name) → NameOf m n → (ms : List ModuleTree) (parts : List Part) → AreTranslated ms parts → list_any (is_same m) (map (λ k. k.name) ms) ≡ false → list_any (is_same n) (defined_names (items_of parts)) ≡ false
away_from_all m n named [] [] tr other = refl
away_from_all m n named [] (p ∷ ps) tr other = absurd tr
away_from_all m n named (k ∷ ms) [] tr other = absurd tr
away_from_all m n named (k ∷ ms) (p ∷ ps) tr other =
    let apart = or_parts (is_same m k.name) (list_any (is_same m) (map (λ x. x.name) ms)) other in
    let here : list_any (is_same n) (defined_names p.items) ≡ false = away m k.name apart.0 n named (defined_names p.items) (unit_named k p.items tr.0.translated) in
    ap (list_any (is_same n)) (defined_both p.items (items_of ps))
    ∙ list_any-append (is_same n) (defined_names p.items) (defined_names (items_of ps))
    ∙ ap (λ b. b || list_any (is_same n) (defined_names (items_of ps))) here
    ∙ away_from_all m n named ms ps tr.1 apart.1

all_away : (names others : List Name) (m : Name) → NamesOf m names → ((n : Name) → NameOf m n → list_any (is_same n) others ≡ false) → list_all (λ n. not (list_any (is_same n) others)) names ≡ true
all_away [] others m named each = refl
all_away (n ∷ ns) others m named each =
    and_from (not (list_any (is_same n) others)) (list_all (λ x. not (list_any (is_same x) others)) ns) (ap not (each n named.0)) (all_away ns others m named.1 each)

-- Programs ----------------------------------------------------------------------------------

distinct_units : (ms : List ModuleTree) (parts : List Part) → AreTranslated ms parts → are_distinct (map (λ m. m.name) ms) ≡ true → are_distinct (defined_names (items_of parts)) ≡ true
unfolding is_sound_with
distinct_units [] [] tr distinct = refl
distinct_units [] (p ∷ ps) tr distinct = absurd tr
distinct_units (m ∷ ms) [] tr distinct = absurd tr
distinct_units (m ∷ ms) (p ∷ ps) tr distinct =
    let own = defined_names p.items in
    let others = defined_names (items_of ps) in
    let apart = and_parts (not (list_any (is_same m.name) (map (λ x. x.name) ms))) (are_distinct (map (λ x. x.name) ms)) distinct in
    let other : list_any (is_same m.name) (map (λ x. x.name) ms) ≡ false = not-true (list_any (is_same m.name) (map (λ x. x.name) ms)) apart.0 in
    let sound = and_parts (are_distinct own) (items_fit (outside_of m ++ own) [] p.items) tr.0.translated.sound in
    ap are_distinct (defined_both p.items (items_of ps))
    ∙ distinct_both own others sound.0 (distinct_units ms ps tr.1 apart.1)
    (all_away own others m.name (unit_named m p.items tr.0.translated) (λ n named. away_from_all m.name n named ms ps tr.1 other))

pub distinct_definitions : (program : List ModuleTree) (parts : List Part) → IsProgram program → AreTranslated program parts → are_distinct (defined_names (flat_map (λ p. p.items) parts)) ≡ true
distinct_definitions program parts is tr = distinct_units program parts tr is.distinct
