-- Calls, branches and lists of expressions, as far as they were walked.
use Rattle.std.proofs.Common.{◌≡◌, ◌≢◌, ℕ, ◌+◌, ◌-◌, ◌<◌, ◌≤◌, List, [], ◌∷◌, ◌++◌, length, drop, take, get_or, slice_get, remove, Option, Some, None, Result, IfOk, refl, sym, ap, subst, ◌∙◌, arith}
use Rattle.std.specs.Option.{option_map}
use Rattle.std.proofs.lemmas.List.{drop_more, drop_all}
use Rattle.scheme_data.specs.Data.{plain, plain_all}
use Rattle.scheme_data.specs.declared.datum.Place.{Place}
use Rattle.scheme_data.specs.declared.datum.Datum.{Datum}
use Rattle.scheme_data.specs.declared.datum.Datum.TheVariants as datum
use Rattle.core_tree.specs.declared.tree.Node.{Node}
use Rattle.core_tree.specs.declared.tree.Node.TheVariants as node
use Rattle.core_tree.specs.Tree.{If, Trees, tree, none, more}
use Rattle.resolver.specs.BuiltHeads.{symbol_of}
use Rattle.resolver.specs.Drafts.{Scope, Operator, count, operator, branched, applied, onto_trees, expression, expressions, non_empty}
use Rattle.resolver.specs.Parts.{node_trees}
use Rattle.resolver.proofs.Lists.{rest_is}
use Rattle.resolver.proofs.HeadLayers.{plain_list}
use Rattle.resolver.proofs.Layers.{tree_if, tree_sequence}

-- `args` of `[first, args @ ..]`
abbrev pub rest_of : List Datum → List Datum
rest_of xs = take (length xs - 1) (drop 1 xs)

count_all : (ds : List Datum) → count (plain_all ds) ≡ length ds
count_all [] = refl
count_all (d ∷ ds) = let h = count_all ds in omega arith

call_is : (s : Scope) (at : Place) (ds xs : List Datum) (first : Datum) → xs ≡ ds → 1 ≤ length xs → first ≡ get_or xs 0 first
    → expression s (plain (datum.List at ds)) ≡ applied (operator s (length (rest_of xs)) (symbol_of (plain first))) (expressions s (plain_all (rest_of xs)))
call_is s at ds [] first same l e = absurd (omega arith)
call_is s at ds (x ∷ xs) first same l e =
    let rest : rest_of (x ∷ xs) ≡ xs = rest_is 1 (x ∷ xs) in
    let args : length (rest_of (x ∷ xs)) ≡ count (plain_all xs) = ap length rest ∙ sym (count_all xs) in
    ap (λ (ds : List Datum). expression s (plain (datum.List at ds))) (sym same)
    ∙ ap (expression s) (plain_list at (x ∷ xs))
    ∙ ap (λ n. applied (operator s n (symbol_of (plain x))) (expressions s (plain_all xs))) (sym args)
    ∙ ap (λ (y : Datum). applied (operator s (length (rest_of (x ∷ xs))) (symbol_of (plain y))) (expressions s (plain_all xs))) (sym e)
    ∙ ap (λ (ds : List Datum). applied (operator s (length (rest_of (x ∷ xs))) (symbol_of (plain first))) (expressions s (plain_all ds))) (sym rest)

pub no_operator : (s : Scope) (at : Place) (ds xs : List Datum) (first : Datum) → xs ≡ ds → 1 ≤ length xs → first ≡ get_or xs 0 first
    → operator s (length (rest_of xs)) (symbol_of (plain first)) ≡ None → None ≡ expression s (plain (datum.List at ds))
no_operator s at ds xs first same l e o =
    sym (call_is s at ds xs first same l e ∙ ap (λ p. applied p (expressions s (plain_all (rest_of xs)))) o)

applied_none : (o : Option Operator) → applied o None ≡ None
applied_none None = refl
applied_none (Some o) = refl

pub no_arguments : (s : Scope) (at : Place) (ds xs : List Datum) (first : Datum) → xs ≡ ds → 1 ≤ length xs → first ≡ get_or xs 0 first
    → expressions s (plain_all (rest_of xs)) ≡ None → None ≡ expression s (plain (datum.List at ds))
no_arguments s at ds xs first same l e o =
    sym (call_is s at ds xs first same l e ∙ ap (applied (operator s (length (rest_of xs)) (symbol_of (plain first)))) o
    ∙ applied_none (operator s (length (rest_of xs)) (symbol_of (plain first))))

pub form_tree : {E : Type 0} (s : Scope) (at : Place) (ds xs : List Datum) (first : Datum) (o : Operator) (ns : List Node) (r : Result (Option Node) E)
    → xs ≡ ds → 1 ≤ length xs → first ≡ get_or xs 0 first
    → operator s (length (rest_of xs)) (symbol_of (plain first)) ≡ Some o → expressions s (plain_all (rest_of xs)) ≡ Some (node_trees ns)
    → IfOk r (λ n. option_map tree n ≡ applied (Some o) (Some (node_trees ns))) → IfOk r (λ n. option_map tree n ≡ expression s (plain (datum.List at ds)))
form_tree s at ds xs first o ns r same l e p a is =
    subst (λ t. IfOk r (λ n. option_map tree n ≡ t))
    (sym (call_is s at ds xs first same l e ∙ ap (λ o. applied o (expressions s (plain_all (rest_of xs)))) p ∙ ap (applied (Some o)) a)) is

-- an `if` of parts that were taken from the front
pub branch_is : (ns ms os : List Node) (a b c : Node) → length ns ≡ 3 → slice_get ns 0 ≡ Some a → ms ≡ remove ns 0 → slice_get ms 0 ≡ Some b
    → os ≡ remove ms 0 → slice_get os 0 ≡ Some c → Some (tree (node.If a b c)) ≡ branched (node_trees ns)
branch_is [] ms os a b c l x m y o z = absurd (omega arith)
branch_is (n ∷ []) ms os a b c l x m y o z = absurd (omega arith)
branch_is (n ∷ p ∷ []) ms os a b c l x m y o z = absurd (omega arith)
branch_is (n ∷ p ∷ q ∷ []) ms os a b c l x m y o z =
    let first : Some p ≡ Some b = ap (λ (ns : List Node). slice_get ns 0) (sym m) ∙ y in
    let second : Some q ≡ Some c = ap (λ (ns : List Node). slice_get ns 0) (sym (o ∙ ap (λ (ns : List Node). remove ns 0) m)) ∙ z in
    let same : If (tree a) (tree b) (tree c) ≡ If (tree n) (tree p) (tree q) = cc in
    ap Some (tree_if a b c ∙ same)
branch_is (n ∷ p ∷ q ∷ r ∷ ns) ms os a b c l x m y o z = absurd (omega arith)

pub not_three : (ns : List Node) → length ns ≢ 3 → None ≡ branched (node_trees ns)
not_three [] l = refl
not_three (a ∷ []) l = refl
not_three (a ∷ b ∷ []) l = refl
not_three (a ∷ b ∷ c ∷ []) l = absurd (l (omega arith))
not_three (a ∷ b ∷ c ∷ d ∷ ns) l = refl

-- Lists of expressions: some trees, and then these.

abbrev pub ahead : Trees → Option Trees → Option Trees
ahead none rest = rest
ahead (more t ts) rest = onto_trees (Some t) (ahead ts rest)

abbrev pub IsSoFar : Scope → List Datum → List Node → ℕ → Type 0
IsSoFar s ds ns i = expressions s (plain_all ds) ≡ ahead (node_trees ns) (expressions s (plain_all (drop i ds)))

pub ahead_none : (ts : Trees) → ahead ts None ≡ None
ahead_none none = refl
ahead_none (more t ts) = ap (onto_trees (Some t)) (ahead_none ts)

pub ahead_all : (ts : Trees) → ahead ts (Some none) ≡ Some ts
ahead_all none = refl
ahead_all (more t ts) = ap (onto_trees (Some t)) (ahead_all ts)

ahead_one : (ns : List Node) (n : Node) (rest : Option Trees) → ahead (node_trees (ns ++ n ∷ [])) rest ≡ ahead (node_trees ns) (onto_trees (Some (tree n)) rest)
ahead_one [] n rest = refl
ahead_one (m ∷ ns) n rest = ap (onto_trees (Some (tree m))) (ahead_one ns n rest)

one_more : (s : Scope) (ds : List Datum) (i : ℕ) (d : Datum) → i < length ds → d ≡ get_or ds i d
    → expressions s (plain_all (drop i ds)) ≡ onto_trees (expression s (plain d)) (expressions s (plain_all (drop (i + 1) ds)))
one_more s ds i d l e =
    ap (λ (ds : List Datum). expressions s (plain_all ds)) (drop_more ds i d l)
    ∙ ap (λ (d : Datum). onto_trees (expression s (plain d)) (expressions s (plain_all (drop (i + 1) ds)))) (sym e)

pub so_far_not : (s : Scope) (ds : List Datum) (ns : List Node) (i : ℕ) (d : Datum) → i < length ds → d ≡ get_or ds i d → IsSoFar s ds ns i
    → None ≡ expression s (plain d) → None ≡ expressions s (plain_all ds)
so_far_not s ds ns i d l e h n =
    sym (h ∙ ap (ahead (node_trees ns)) (one_more s ds i d l e ∙ ap (λ t. onto_trees t (expressions s (plain_all (drop (i + 1) ds)))) (sym n)) ∙ ahead_none (node_trees ns))

pub so_far_more : (s : Scope) (ds : List Datum) (ns ms : List Node) (i : ℕ) (d : Datum) (n : Node) → i < length ds → d ≡ get_or ds i d → IsSoFar s ds ns i
    → Some (tree n) ≡ expression s (plain d) → ms ≡ ns ++ n ∷ [] → IsSoFar s ds ms (i + 1)
so_far_more s ds ns ms i d n l e h t m =
    let rest = expressions s (plain_all (drop (i + 1) ds)) in
    h ∙ ap (ahead (node_trees ns)) (one_more s ds i d l e ∙ ap (λ t. onto_trees t rest) (sym t))
    ∙ sym (ap (λ (ms : List Node). ahead (node_trees ms) rest) m ∙ ahead_one ns n rest)

pub so_far_end : (s : Scope) (ds : List Datum) (ns : List Node) (i : ℕ) → length ds ≤ i → IsSoFar s ds ns i → Some (node_trees ns) ≡ expressions s (plain_all ds)
so_far_end s ds ns i l h =
    sym (h ∙ ap (λ (ds : List Datum). ahead (node_trees ns) (expressions s (plain_all ds))) (drop_all i ds l) ∙ ahead_all (node_trees ns))

-- Bodies ------------------------------------------------------------------------------------

pub sequence_is : (ns : List Node) → (ns ≡ [] → ⊥) → Some (tree (node.Sequence ns)) ≡ non_empty (Some (node_trees ns))
sequence_is [] n = absurd (n refl)
sequence_is (x ∷ ns) n = ap Some (tree_sequence (x ∷ ns))
