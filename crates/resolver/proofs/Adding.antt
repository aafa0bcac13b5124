-- Heads to which clauses are added.
use Rattle.std.proofs.Common.{◌≡◌, ◌≢◌, ℕ, ◌+◌, ◌<◌, ◌≤◌, Bool, true, false, if◌then◌else◌, List, [], ◌∷◌, map, length, drop, get_or, Option, None, Some, refl, sym, ap, ◌∙◌, arith}
use Rattle.std.specs.Option.{option_and_then}
use Rattle.std.proofs.lemmas.List.{drop_more, drop_all}
use Rattle.scheme_data.specs.Data.{Plain, Listed, plain, plain_all}
use Rattle.scheme_data.specs.declared.datum.Datum.{Datum}
use Rattle.resolver.specs.declared.built_head.Import.{Import}
use Rattle.resolver.specs.declared.built_head.Export.{Export}
use Rattle.resolver.specs.declared.built_head.BuiltHead.{BuiltHead}
use Rattle.resolver.specs.BuiltHeads.{HeadTree, main_name, bare, clauses, head_of}
use Rattle.resolver.specs.Forwards.{clause_behind, clauses_behind}
use Rattle.resolver.specs.DatumParts.{parts_of}
use Rattle.resolver.specs.Trees.{import_tree, export_tree, head_tree}
use Rattle.resolver.proofs.HeadLayers.{listed_is}
use Rattle.resolver.proofs.Behind.{clauses_are}

pub main_wrong : (ds : List Datum) → length ds ≢ 1 → None ≡ main_name (plain_all ds)
main_wrong [] n = refl
main_wrong (a ∷ []) n = absurd (n (omega arith))
main_wrong (a ∷ b ∷ ds) n = refl

-- what is left to read is added to this head
abbrev pub AreAdded : List ℕ → List Datum → BuiltHead → ℕ → Type 0
AreAdded name ds h i = clauses name (plain_all ds) ≡ clauses_behind (plain_all (drop i ds)) (head_tree h)

pub none_added : (name : List ℕ) (ds : List Datum) (h : BuiltHead) → h.name ≡ name → h.imports ≡ [] → h.exports ≡ [] → h.main ≡ None → AreAdded name ds h 0
none_added name ds h n i e m =
    clauses_are name (plain_all ds) ∙ ap (clauses_behind (plain_all ds))
    (sym (ap (λ name. record (head_tree h) { name = name }) n ∙ ap (λ (is : List Import). record { name = name; imports = map import_tree is; exports = map export_tree h.exports; main = h.main }) i
    ∙ ap (λ (es : List Export). record { name = name; imports = []; exports = map export_tree es; main = h.main }) e ∙ ap (λ main. record (bare name) { main = main }) m))

clause_next : (name : List ℕ) (ds : List Datum) (h : BuiltHead) (i : ℕ) (d : Datum) (o : Option HeadTree) → i < length ds → d ≡ get_or ds i d → AreAdded name ds h i
    → o ≡ clause_behind (head_tree h) (plain d) → clauses name (plain_all ds) ≡ option_and_then (clauses_behind (plain_all (drop (i + 1) ds))) o
clause_next name ds h i d o l e a n =
    let rest = clauses_behind (plain_all (drop (i + 1) ds)) in
    a ∙ ap (λ (ds : List Datum). clauses_behind (plain_all ds) (head_tree h)) (drop_more ds i d l)
    ∙ ap (λ (d : Datum). option_and_then rest (clause_behind (head_tree h) (plain d))) (sym e) ∙ ap (option_and_then rest) (sym n)

pub clause_wrong : (name : List ℕ) (ds : List Datum) (h k : BuiltHead) (i : ℕ) (d : Datum) (t : Bool) → i < length ds → d ≡ get_or ds i d → AreAdded name ds h i
    → (if t then Some (head_tree k) else None) ≡ clause_behind (head_tree h) (plain d) → t ≡ false → None ≡ clauses name (plain_all ds)
clause_wrong name ds h k i d t l e a n w =
    sym (clause_next name ds h i d None l e a (sym (ap (λ (t : Bool). if t then Some (head_tree k) else None) w) ∙ n))

pub clause_added : (name : List ℕ) (ds : List Datum) (h k : BuiltHead) (i : ℕ) (d : Datum) (t : Bool) → i < length ds → d ≡ get_or ds i d → AreAdded name ds h i
    → (if t then Some (head_tree k) else None) ≡ clause_behind (head_tree h) (plain d) → t ≡ true → AreAdded name ds k (i + 1)
clause_added name ds h k i d t l e a n w =
    clause_next name ds h i d (Some (head_tree k)) l e a (sym (ap (λ (t : Bool). if t then Some (head_tree k) else None) w) ∙ n)

pub all_added : (name : List ℕ) (ds : List Datum) (h : BuiltHead) (i : ℕ) → length ds ≤ i → AreAdded name ds h i → Some (head_tree h) ≡ clauses name (plain_all ds)
all_added name ds h i l a = sym (a ∙ ap (λ (ds : List Datum). clauses_behind (plain_all ds) (head_tree h)) (drop_all i ds l))

no_head_below : (ds : List Datum) → length ds < 2 → head_of (Listed (plain_all ds)) ≡ None
no_head_below [] l = refl
no_head_below (a ∷ []) l = refl
no_head_below (a ∷ b ∷ ds) l = absurd (omega arith)

pub no_head : (d : Plain) (ds : List Datum) → Some (plain_all ds) ≡ parts_of d → length ds < 2 → None ≡ head_of d
no_head d ds p l = sym (ap head_of (listed_is d (plain_all ds) p) ∙ no_head_below ds l)
