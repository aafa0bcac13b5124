-- A right head imports from other modules alone, and declares each name once, whatever the clause.
use Rattle.std.proofs.Common.{◌≡◌, ℕ, Bool, true, false, not, ◌&&◌, ◌||◌, if◌then◌else◌, codes, List, [], ◌∷◌, ◌++◌, map, Option, Some, None, refl, sym, ap, ◌∙◌, append_assoc}
use Rattle.std.specs.List.{list_any, filter_map}
use Rattle.std.specs.Cmp.Lexicographic.{nat_list_eq_equiv}
use Rattle.std.proofs.lemmas.List.{append-nil}
use Rattle.std.proofs.lemmas.List.Elements.{filter_map-append}
use Rattle.scheme_data.specs.Names.{is_same, are_distinct}
use Rattle.scheme_data.specs.Forms.{Form, Forms, atom, symbol, listed, dotted, vector, end, next, form_says}
use Rattle.scheme_data.specs.declared.datum.Place.{Place}
use Rattle.scheme_data.proofs.DistinctNames.{added}
use Rattle.module_head.specs.declared.head.Head.{Head}
use Rattle.module_head.specs.declared.head.Import.{Import}
use Rattle.module_head.specs.declared.head.Entry.{Entry}
use Rattle.module_head.specs.declared.head.Extern.{Extern}
use Rattle.module_head.specs.Heads.{Part, imported, exported, kept, foreign, main, wrong, import_in, export_in, static_in, extern_in, name_in, symbol_of, clauses, head_with, Breach, header, duplicate, breach_if, breaches_at, breaches, right, wrong_at_first, decided, head_of_parts, module_form, module_of, head_of}

-- a head that is that of parts without a breach
pub record IsFrom (h : Head) : Type 0 where
  pub name : List ℕ
  pub parts : List Part
  pub is : h ≡ head_with name parts
  pub sound : breaches name [] parts ≡ []

decided_right : (name : List ℕ) (ps : List Part) (h : Head) → head_of_parts name ps ≡ right h → IsFrom h
decided_right name ps h e = go (breaches name [] ps) refl e
  where
    go : (bs : List Breach) → breaches name [] ps ≡ bs → decided bs (head_with name ps) ≡ right h → IsFrom h
    go [] s e = let same : h ≡ head_with name ps = cc in record { name = name; parts = ps; is = same; sound = s }
    go (b ∷ bs) s e = absurd (cc)

form_right : (at : Place) (word : Form) (name : Option (List ℕ)) (ds : Forms) (h : Head) → module_form at word name ds ≡ right h → IsFrom h
form_right at word None ds h e = absurd (cc)
form_right at word (Some name) ds h e = go (form_says word (codes "module")) e
  where
    go : (t : Bool) → (if t then head_of_parts name (clauses ds) else wrong_at_first (header at)) ≡ right h → IsFrom h
    go true e = decided_right name (clauses ds) h e
    go false e = absurd (cc)

module_right : (d : Form) (h : Head) → module_of d ≡ right h → IsFrom h
module_right (atom at a) h e = absurd (cc)
module_right (symbol at x m) h e = absurd (cc)
module_right (dotted at ds d) h e = absurd (cc)
module_right (vector at ds) h e = absurd (cc)
module_right (listed at end) h e = absurd (cc)
module_right (listed at (next word end)) h e = absurd (cc)
module_right (listed at (next word (next name ds))) h e = form_right at word (symbol_of name) ds h e

pub from_parts : (o : Option Form) (h : Head) → head_of o ≡ right h → IsFrom h
from_parts None h e = absurd (cc)
from_parts (Some d) h e = module_right d h e

-- No breach of the rest -------------------------------------------------------------------------

left_none : (rest bs : List Breach) → rest ++ bs ≡ [] → (rest ≡ []) × (bs ≡ [])
left_none [] bs e = (refl, e)
left_none (a ∷ rest) bs e = absurd (cc)

none_if : (t : Bool) (b : Breach) → breach_if t b ≡ [] → t ≡ false
none_if true b e = absurd (cc)
none_if false b e = refl

-- Imports ---------------------------------------------------------------------------------------

abbrev names_module : List ℕ → List Import → Bool
names_module name is = list_any (λ i. is_same i.module_name name) is

foreign_parts : (name : List ℕ) (before ps : List Part) → breaches name before ps ≡ [] → names_module name (filter_map import_in ps) ≡ false
foreign_parts name before [] e = refl
foreign_parts name before (p ∷ ps) e =
    let both = left_none (breaches_at name before p) (breaches name (before ++ p ∷ []) ps) e in
    go p both.0 (foreign_parts name (before ++ p ∷ []) ps both.1)
  where
    go : (p : Part) → breaches_at name before p ≡ [] → names_module name (filter_map import_in ps) ≡ false → names_module name (filter_map import_in (p ∷ ps)) ≡ false
    go (imported i) e later = ap (λ t. t || names_module name (filter_map import_in ps)) (none_if (is_same i.module_name name) (header i.at) e) ∙ later
    go (exported x) e later = later
    go (kept x) e later = later
    go (foreign x) e later = later
    go (main m) e later = later
    go (wrong at) e later = later

pub imports_from_others : (o : Option Form) (h : Head) → head_of o ≡ right h → list_any (λ i. is_same i.module_name h.name) h.imports ≡ false
imports_from_others o h e =
    let f = from_parts o h e in
    ap (λ (h : Head). names_module h.name h.imports) f.is ∙ foreign_parts f.name [] f.parts f.sound

-- Declared names --------------------------------------------------------------------------------

abbrev names : List Part → List (List ℕ)
names ps = filter_map name_in ps

one_more : (before : List Part) (p : Part) (x : List ℕ) → names (p ∷ []) ≡ x ∷ [] → are_distinct (names before) ≡ true → list_any (is_same x) (names before) ≡ false
    → are_distinct (names (before ++ p ∷ [])) ≡ true
one_more before p x e d n = ap are_distinct (filter_map-append name_in before (p ∷ []) ∙ ap (λ xs. names before ++ xs) e) ∙ added (names before) x d n

none_more : (before : List Part) (p : Part) → names (p ∷ []) ≡ [] → are_distinct (names before) ≡ true → are_distinct (names (before ++ p ∷ [])) ≡ true
none_more before p e d = ap are_distinct (filter_map-append name_in before (p ∷ []) ∙ ap (λ xs. names before ++ xs) e ∙ append-nil (names before)) ∙ d

distinct_with : (name : List ℕ) (before : List Part) (p : Part) → breaches_at name before p ≡ [] → are_distinct (names before) ≡ true → are_distinct (names (before ++ p ∷ [])) ≡ true
distinct_with name before (imported i) e d = none_more before (imported i) refl d
distinct_with name before (exported x) e d = one_more before (exported x) x.name refl d (none_if (list_any (is_same x.name) (names before)) (duplicate x.name) e)
distinct_with name before (kept x) e d = one_more before (kept x) x.name refl d (none_if (list_any (is_same x.name) (names before)) (duplicate x.name) e)
distinct_with name before (foreign x) e d = one_more before (foreign x) x.name refl d (none_if (list_any (is_same x.name) (names before)) (duplicate x.name) e)
distinct_with name before (main m) e d = none_more before (main m) refl d
distinct_with name before (wrong at) e d = none_more before (wrong at) refl d

distinct_parts : (name : List ℕ) (before ps : List Part) → breaches name before ps ≡ [] → are_distinct (names before) ≡ true → are_distinct (names (before ++ ps)) ≡ true
distinct_parts name before [] e d = ap (λ ps. are_distinct (names ps)) (append-nil before) ∙ d
distinct_parts name before (p ∷ ps) e d =
    let both = left_none (breaches_at name before p) (breaches name (before ++ p ∷ []) ps) e in
    ap (λ ps. are_distinct (names ps)) (sym (append_assoc before (p ∷ []) ps))
    ∙ distinct_parts name (before ++ p ∷ []) ps both.1 (distinct_with name before p both.0 d)

-- In whatever order -----------------------------------------------------------------------------

swap_or : (a b c : Bool) → (a || (b || c)) ≡ (b || (a || c))
swap_or true true c = refl
swap_or true false c = refl
swap_or false b c = refl

any_middle : (f : List ℕ → Bool) (xs : List (List ℕ)) (y : List ℕ) (ys : List (List ℕ)) → list_any f (xs ++ y ∷ ys) ≡ (f y || list_any f (xs ++ ys))
any_middle f [] y ys = refl
any_middle f (x ∷ xs) y ys = ap (λ b. f x || b) (any_middle f xs y ys) ∙ swap_or (f x) (f y) (list_any f (xs ++ ys))

swap_and : (a b c d : Bool) → (not (a || b) && (not c && d)) ≡ (not (a || c) && (not b && d))
swap_and true b c d = refl
swap_and false true true d = refl
swap_and false true false d = refl
swap_and false false true d = refl
swap_and false false false d = refl

distinct_middle : (xs : List (List ℕ)) (y : List ℕ) (ys : List (List ℕ)) → are_distinct (xs ++ y ∷ ys) ≡ are_distinct (y ∷ xs ++ ys)
distinct_middle [] y ys = refl
distinct_middle (x ∷ xs) y ys =
    ap (λ b. not (list_any (is_same x) (xs ++ y ∷ ys)) && b) (distinct_middle xs y ys)
    ∙ ap (λ b. not b && are_distinct (y ∷ xs ++ ys)) (any_middle (is_same x) xs y ys ∙ ap (λ b. b || list_any (is_same x) (xs ++ ys)) (nat_list_eq_equiv.symm x y))
    ∙ swap_and (is_same y x) (list_any (is_same x) (xs ++ ys)) (list_any (is_same y) (xs ++ ys)) (are_distinct (xs ++ ys))

abbrev entry_names : List Entry → List (List ℕ)
entry_names es = map (λ e. e.name) es

abbrev extern_names : List Extern → List (List ℕ)
extern_names es = map (λ e. e.name) es

-- the names that a head declares
abbrev pub declared_names : Head → List (List ℕ)
declared_names h = entry_names h.exports ++ (entry_names h.statics ++ extern_names h.externs)

abbrev exports_of : List Part → List (List ℕ)
exports_of ps = entry_names (filter_map export_in ps)

abbrev statics_of : List Part → List (List ℕ)
statics_of ps = entry_names (filter_map static_in ps)

abbrev externs_of : List Part → List (List ℕ)
externs_of ps = extern_names (filter_map extern_in ps)

abbrev by_clause : List Part → List (List ℕ)
by_clause ps = exports_of ps ++ (statics_of ps ++ externs_of ps)

any_static : (f : List ℕ → Bool) (es ss xs : List (List ℕ)) (x : List ℕ) → list_any f (es ++ (x ∷ ss ++ xs)) ≡ (f x || list_any f (es ++ (ss ++ xs)))
any_static f es ss xs x = any_middle f es x (ss ++ xs)

any_extern : (f : List ℕ → Bool) (es ss xs : List (List ℕ)) (x : List ℕ) → list_any f (es ++ (ss ++ x ∷ xs)) ≡ (f x || list_any f (es ++ (ss ++ xs)))
any_extern f es ss xs x =
    ap (list_any f) (sym (append_assoc es ss (x ∷ xs))) ∙ any_middle f (es ++ ss) x xs ∙ ap (λ ys. f x || list_any f ys) (append_assoc es ss xs)

any_by_clause : (f : List ℕ → Bool) (ps : List Part) → list_any f (by_clause ps) ≡ list_any f (names ps)
any_by_clause f [] = refl
any_by_clause f (imported i ∷ ps) = any_by_clause f ps
any_by_clause f (exported e ∷ ps) = ap (λ b. f e.name || b) (any_by_clause f ps)
any_by_clause f (kept e ∷ ps) = any_static f (exports_of ps) (statics_of ps) (externs_of ps) e.name ∙ ap (λ b. f e.name || b) (any_by_clause f ps)
any_by_clause f (foreign e ∷ ps) = any_extern f (exports_of ps) (statics_of ps) (externs_of ps) e.name ∙ ap (λ b. f e.name || b) (any_by_clause f ps)
any_by_clause f (main m ∷ ps) = any_by_clause f ps
any_by_clause f (wrong at ∷ ps) = any_by_clause f ps

distinct_extern : (es ss xs : List (List ℕ)) (x : List ℕ) → are_distinct (es ++ (ss ++ x ∷ xs)) ≡ are_distinct (x ∷ es ++ (ss ++ xs))
distinct_extern es ss xs x =
    ap are_distinct (sym (append_assoc es ss (x ∷ xs))) ∙ distinct_middle (es ++ ss) x xs ∙ ap (λ ys. are_distinct (x ∷ ys)) (append_assoc es ss xs)

one_first : (x : List ℕ) (ps : List Part) → are_distinct (by_clause ps) ≡ are_distinct (names ps) → are_distinct (x ∷ by_clause ps) ≡ are_distinct (x ∷ names ps)
one_first x ps e = ap (λ b. not b && are_distinct (by_clause ps)) (any_by_clause (is_same x) ps) ∙ ap (λ b. not (list_any (is_same x) (names ps)) && b) e

distinct_by_clause : (ps : List Part) → are_distinct (by_clause ps) ≡ are_distinct (names ps)
distinct_by_clause [] = refl
distinct_by_clause (imported i ∷ ps) = distinct_by_clause ps
distinct_by_clause (exported e ∷ ps) = one_first e.name ps (distinct_by_clause ps)
distinct_by_clause (kept e ∷ ps) = distinct_middle (exports_of ps) e.name (statics_of ps ++ externs_of ps) ∙ one_first e.name ps (distinct_by_clause ps)
distinct_by_clause (foreign e ∷ ps) = distinct_extern (exports_of ps) (statics_of ps) (externs_of ps) e.name ∙ one_first e.name ps (distinct_by_clause ps)
distinct_by_clause (main m ∷ ps) = distinct_by_clause ps
distinct_by_clause (wrong at ∷ ps) = distinct_by_clause ps

pub declared_once : (o : Option Form) (h : Head) → head_of o ≡ right h → are_distinct (declared_names h) ≡ true
declared_once o h e =
    let f = from_parts o h e in
    ap (λ (h : Head). are_distinct (declared_names h)) f.is ∙ distinct_by_clause f.parts ∙ distinct_parts f.name [] f.parts f.sound refl
