-- Names and definitions, as loops over them go on.
use Rattle.std.proofs.Common.{◌≡◌, ℕ, suc, ◌+◌, ◌<◌, true, false, List, [], ◌∷◌, ◌++◌, length, get_or, take, drop, refl, sym, ap, ◌∙◌, append_assoc}
use Rattle.std.specs.List.{list_all}
use Rattle.std.proofs.lemmas.List.{append-nil, map-append}
use Rattle.std.proofs.lemmas.List.Folds.{list_all-append}
use Rattle.scheme_data.specs.Names.{are_distinct}
use Rattle.name_table.specs.Names.{has_name}
use Rattle.c_tree.specs.declared.tree.CVar.{CVar}
use Rattle.c_tree.specs.declared.function.CFun.{CFun}
use Rattle.c_tree.specs.declared.function.CItem.{CItem}
use Rattle.c_meaning.specs.Execution.{Names}
use Rattle.c_machine.specs.Decoded.{variable_names, definitions, definition_in, function_names, function_of, functions_of, has_distinct}
use Rattle.c_machine.specs.declared.program.Function.{Function}
use Rattle.c_machine.proofs.Items.{map_more, map_split, more_item, split_item}
use Rattle.c_machine.proofs.Distinct.{distinct_new, distinct_front, and_left, and_right}

-- Variables ---------------------------------------------------------------------------------

pub variable_is_new : (old now : Names) (vars : List CVar) (i : ℕ) (v : CVar) → i < length vars → v ≡ get_or vars i v → now ≡ old ++ variable_names (take i vars) → are_distinct (old ++ variable_names vars) ≡ true → has_name now v.name ≡ false
variable_is_new old now vars i v lt e h d =
    let before = variable_names (take i vars) in
    let rest = variable_names (drop (suc i) vars) in
    let whole : old ++ variable_names vars ≡ (old ++ before) ++ v.name ∷ rest = ap (λ l. old ++ l) (map_split (λ (w : CVar). w.name) vars i v lt e) ∙ sym (append_assoc old before (v.name ∷ rest)) in
    ap (λ n. has_name n v.name) h ∙ distinct_new (old ++ before) v.name rest (ap are_distinct (sym whole) ∙ d)

pub variables_more : (old now new : Names) (vars : List CVar) (i : ℕ) (v : CVar) → i < length vars → v ≡ get_or vars i v → now ≡ old ++ variable_names (take i vars) → new ≡ now ++ v.name ∷ [] → new ≡ old ++ variable_names (take (i + 1) vars)
variables_more old now new vars i v lt e h en =
    en ∙ ap (λ l. l ++ v.name ∷ []) h ∙ append_assoc old (variable_names (take i vars)) (v.name ∷ []) ∙ ap (λ l. old ++ l) (sym (map_more (λ (w : CVar). w.name) vars i v lt e))

-- Definitions -------------------------------------------------------------------------------

pub definitions-append : (xs ys : List CItem) → definitions (xs ++ ys) ≡ definitions xs ++ definitions ys
unfolding definitions
definitions-append [] ys = refl
definitions-append (x ∷ xs) ys = ap (λ l. definition_in x ++ l) (definitions-append xs ys) ∙ sym (append_assoc (definition_in x) (definitions xs) (definitions ys))

definitions_one : (x : CItem) → definitions (x ∷ []) ≡ definition_in x
unfolding definitions
definitions_one x = append-nil (definition_in x)

definitions_first : (x : CItem) (xs : List CItem) → definitions (x ∷ xs) ≡ definition_in x ++ definitions xs
unfolding definitions
definitions_first x xs = refl

pub no_definitions : definitions [] ≡ []
unfolding definitions
no_definitions = refl

pub definitions_more : (items : List CItem) (i : ℕ) (x : CItem) → i < length items → x ≡ get_or items i x → definitions (take (i + 1) items) ≡ definitions (take i items) ++ definition_in x
definitions_more items i x lt e = ap definitions (more_item items i x lt e) ∙ definitions-append (take i items) (x ∷ []) ∙ ap (λ l. definitions (take i items) ++ l) (definitions_one x)

definitions_split : (items : List CItem) (i : ℕ) (x : CItem) → i < length items → x ≡ get_or items i x → definitions items ≡ (definitions (take i items) ++ definition_in x) ++ definitions (drop (suc i) items)
definitions_split items i x lt e =
    ap definitions (split_item items i x lt e) ∙ definitions-append (take i items) (x ∷ drop (suc i) items) ∙ ap (λ l. definitions (take i items) ++ l) (definitions_first x (drop (suc i) items)) ∙ sym (append_assoc (definitions (take i items)) (definition_in x) (definitions (drop (suc i) items)))

pub definition_is_new : (now : Names) (items : List CItem) (i : ℕ) (x : CItem) → i < length items → x ≡ get_or items i x → now ≡ function_names (definitions (take i items)) → are_distinct (function_names (definitions items)) ≡ true → are_distinct (now ++ function_names (definition_in x)) ≡ true
definition_is_new now items i x lt e h d =
    let before = definitions (take i items) in
    let rest = definitions (drop (suc i) items) in
    let name = λ (f : CFun). f.name in
    let whole : function_names (definitions items) ≡ (function_names before ++ function_names (definition_in x)) ++ function_names rest =
    ap function_names (definitions_split items i x lt e) ∙ map-append name (before ++ definition_in x) rest ∙ ap (λ l. l ++ function_names rest) (map-append name before (definition_in x)) in
    ap (λ n. are_distinct (n ++ function_names (definition_in x))) h ∙ distinct_front (function_names before ++ function_names (definition_in x)) (function_names rest) (ap are_distinct (sym whole) ∙ d)

pub names_more : (now new : Names) (items : List CItem) (i : ℕ) (x : CItem) → i < length items → x ≡ get_or items i x → now ≡ function_names (definitions (take i items)) → new ≡ now ++ function_names (definition_in x) → new ≡ function_names (definitions (take (i + 1) items))
names_more now new items i x lt e h en =
    en ∙ ap (λ l. l ++ function_names (definition_in x)) h ∙ sym (map-append (λ (f : CFun). f.name) (definitions (take i items)) (definition_in x)) ∙ ap function_names (sym (definitions_more items i x lt e))

pub distinct_here : (items : List CItem) (i : ℕ) (x : CItem) → i < length items → x ≡ get_or items i x → list_all has_distinct (definitions items) ≡ true → list_all has_distinct (definition_in x) ≡ true
distinct_here items i x lt e h =
    let before = definitions (take i items) in
    let rest = definitions (drop (suc i) items) in
    let first = and_left (list_all has_distinct (before ++ definition_in x)) (list_all has_distinct rest) (sym (list_all-append has_distinct (before ++ definition_in x) rest) ∙ ap (list_all has_distinct) (sym (definitions_split items i x lt e)) ∙ h) in
    and_right (list_all has_distinct before) (list_all has_distinct (definition_in x)) (sym (list_all-append has_distinct before (definition_in x)) ∙ first)

pub functions_more : (names : Names) (now new : List Function) (items : List CItem) (i : ℕ) (x : CItem) → i < length items → x ≡ get_or items i x → now ≡ functions_of names (definitions (take i items)) → new ≡ now ++ functions_of names (definition_in x) → new ≡ functions_of names (definitions (take (i + 1) items))
functions_more names now new items i x lt e h en =
    en ∙ ap (λ l. l ++ functions_of names (definition_in x)) h ∙ sym (map-append (function_of names) (definitions (take i items)) (definition_in x)) ∙ ap (functions_of names) (sym (definitions_more items i x lt e))
