-- Clauses that are read one by one.
use Rattle.std.proofs.Common.{◌≡◌, ℕ, ◌+◌, ◌<◌, ◌≤◌, Bool, true, false, if◌then◌else◌, codes, List, [], ◌∷◌, ◌++◌, map, length, drop, get_or, Some, None, Err, refl, sym, ap, ◌∙◌}
use Rattle.std.proofs.lemmas.List.{drop_more}
use Rattle.scheme_data.specs.Forms.{Form, Forms, form, form_says, form_place}
use Rattle.scheme_data.specs.declared.datum.Place.{Place}
use Rattle.scheme_data.specs.declared.datum.Datum.{Datum}
use Rattle.module_head.specs.declared.error.HeadErr.{HeadErr}
use Rattle.module_head.specs.declared.error.HeadErr.TheVariants.{Header, Duplicate, Memory}
use Rattle.module_head.specs.declared.reading.Reading.{Reading}
use Rattle.module_head.specs.declared.reading.ItemKind.{ItemKind}
use Rattle.module_head.specs.declared.reading.ItemKind.TheVariants.{Import, Export, Static, Extern}
use Rattle.module_head.specs.Heads.{Part, import_part, export_part, static_part, extern_part, main_part, wrong, each, clause_of, clause, clauses}
use Rattle.module_head.specs.Shapes.{forms_of, parts_of}
use Rattle.module_head.specs.Steps.{Step, on, off, after, take, take_all, kind_of, item_part, Follows}
use Rattle.module_head.proofs.Layers.{rest_of, one_listed}

pub each_is : (f : Form → Part) (ds : List Datum) → map (λ d. f (form d)) ds ≡ each f (forms_of ds)
each_is f [] = refl
each_is f (d ∷ ds) = ap (λ ps. f (form d) ∷ ps) (each_is f ds)

clause_with_items : (at : Place) (word : Form) (ds : Forms) (k : ItemKind) → Some k ≡ kind_of word → clause_of at word ds ≡ each (item_part k) ds
clause_with_items at word ds k e =
    go (form_says word (codes "import")) (form_says word (codes "export")) (form_says word (codes "static")) (form_says word (codes "extern")) e
  where
    go : (a b c d : Bool) → Some k ≡ (if a then Some Import else (if b then Some Export else (if c then Some Static else (if d then Some Extern else None))))
        → (if a then each import_part ds else (if b then each export_part ds else (if c then each static_part ds else (if d then each extern_part ds
        else (if form_says word (codes "main") then main_part at ds ∷ [] else wrong at ∷ [])))))
        ≡ each (item_part k) ds
    go true b c d e = let same : k ≡ Import = cc in ap (λ k. each (item_part k) ds) (sym same)
    go false true c d e = let same : k ≡ Export = cc in ap (λ k. each (item_part k) ds) (sym same)
    go false false true d e = let same : k ≡ Static = cc in ap (λ k. each (item_part k) ds) (sym same)
    go false false false true e = let same : k ≡ Extern = cc in ap (λ k. each (item_part k) ds) (sym same)
    go false false false false e = absurd (cc)

-- the items of a clause are what it says
pub items_are : (d : Form) (ds : List Datum) (a : Datum) (k : ItemKind) → Some (forms_of ds) ≡ parts_of d → 1 ≤ length ds → a ≡ get_or ds 0 a → Some k ≡ kind_of (form a)
    → map (λ d. item_part k (form d)) (rest_of ds) ≡ clause d
items_are d ds a k p l e s =
    each_is (item_part k) (rest_of ds) ∙ sym (ap clause (one_listed d ds a p l e) ∙ clause_with_items (form_place d) (form a) (forms_of (rest_of ds)) k s)

take_append : (ps qs : List Part) (r : Reading) → take_all (ps ++ qs) r ≡ after (take_all ps r) (take_all qs)
take_append [] qs r = refl
take_append (p ∷ ps) qs r = go (take r p) (λ s. take_append ps qs s)
  where
    go : (o : Step) → ((s : Reading) → take_all (ps ++ qs) s ≡ after (take_all ps s) (take_all qs)) → after o (take_all (ps ++ qs)) ≡ after (after o (take_all ps)) (take_all qs)
    go (off b) later = refl
    go (on s) later = later s

clause_next : (ds : List Datum) (i : ℕ) (d : Datum) (whole : Step) (r : Reading) → i < length ds → d ≡ get_or ds i d → whole ≡ take_all (clauses (forms_of (drop i ds))) r
    → whole ≡ after (take_all (clause (form d)) r) (take_all (clauses (forms_of (drop (i + 1) ds))))
clause_next ds i d whole r l e w =
    let rest : List Part = clauses (forms_of (drop (i + 1) ds)) in
    w ∙ ap (λ (ds : List Datum). take_all (clauses (forms_of ds)) r) (drop_more ds i d l)
    ∙ ap (λ (d : Datum). take_all (clause (form d) ++ rest) r) (sym e) ∙ take_append (clause (form d)) rest r

pub clause_on : (ds : List Datum) (i : ℕ) (d : Datum) (whole : Step) (r s : Reading) → i < length ds → d ≡ get_or ds i d → whole ≡ take_all (clauses (forms_of (drop i ds))) r
    → take_all (clause (form d)) r ≡ on s → whole ≡ take_all (clauses (forms_of (drop (i + 1) ds))) s
clause_on ds i d whole r s l e w o = clause_next ds i d whole r l e w ∙ ap (λ o. after o (take_all (clauses (forms_of (drop (i + 1) ds))))) o

pub clause_off : (ds : List Datum) (i : ℕ) (d : Datum) (whole : Step) (r s : Reading) (e : HeadErr) → i < length ds → d ≡ get_or ds i d
    → whole ≡ take_all (clauses (forms_of (drop i ds))) r → Follows {A = Unit {0}} (take_all (clause (form d)) r) (Err e) s → Follows {A = Unit {0}} whole (Err e) s
clause_off ds i d whole r s (Header at) l g w o = clause_next ds i d whole r l g w ∙ ap (λ o. after o (take_all (clauses (forms_of (drop (i + 1) ds))))) o
clause_off ds i d whole r s (Duplicate x) l g w o = clause_next ds i d whole r l g w ∙ ap (λ o. after o (take_all (clauses (forms_of (drop (i + 1) ds))))) o
clause_off ds i d whole r s Memory l g w o = tt
