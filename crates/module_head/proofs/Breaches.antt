-- A head that is read part by part is the one with these parts, or has its first breach.
use Rattle.std.proofs.Common.{◌≡◌, ℕ, Bool, true, false, List, [], ◌∷◌, ◌++◌, Option, Some, Err, refl, sym, ap, ◌∙◌, append_assoc}
use Rattle.std.proofs.lemmas.List.{append-nil}
use Rattle.std.proofs.lemmas.List.Elements.{filter_map-append}
use Rattle.std.specs.List.{filter_map, list_any}
use Rattle.scheme_data.specs.Names.{is_same}
use Rattle.module_head.specs.declared.head.Import.{Import}
use Rattle.module_head.specs.declared.head.Entry.{Entry}
use Rattle.module_head.specs.declared.head.Extern.{Extern}
use Rattle.module_head.specs.declared.head.MainClause.{MainClause}
use Rattle.module_head.specs.declared.error.HeadErr.{HeadErr}
use Rattle.module_head.specs.declared.error.HeadErr.TheVariants.{Header, Duplicate, Memory}
use Rattle.module_head.specs.declared.reading.Reading.{Reading}
use Rattle.module_head.specs.Heads.{Part, imported, exported, kept, foreign, main, wrong, import_in, export_in, static_in, extern_in, main_in, name_in, first_of, head_with, Breach, header, duplicate, has_main, breach_if, breaches_at, breaches, right, decided, head_of_parts}
use Rattle.module_head.specs.Steps.{Step, on, off, after, unless, take, take_all, bare, finished, Follows, Answers}

abbrev reading : List ℕ → List Import → List Entry → List Entry → List Extern → Option MainClause → List (List ℕ) → Reading
reading name is es ss xs m ds = record { head = record { name = name; imports = is; exports = es; statics = ss; externs = xs; main = m }; declared = ds }

-- what was read when these parts were read
abbrev read : List ℕ → List Part → Reading
read name ps = record { head = head_with name ps; declared = filter_map name_in ps }

same_reading : (name : List ℕ) {is is' : List Import} {es es' ss ss' : List Entry} {xs xs' : List Extern} {m m' : Option MainClause} {ds ds' : List (List ℕ)}
    → is ≡ is' → es ≡ es' → ss ≡ ss' → xs ≡ xs' → m ≡ m' → ds ≡ ds' → reading name is es ss xs m ds ≡ reading name is' es' ss' xs' m' ds'
same_reading name {is} {is'} {es} {es'} {ss} {ss'} {xs} {xs'} {m} {m'} {ds} {ds'} a b c d e f =
    ap (λ is. reading name is es ss xs m ds) a
    ∙ ap (λ es. reading name is' es ss xs m ds) b
    ∙ ap (λ ss. reading name is' es' ss xs m ds) c
    ∙ ap (λ xs. reading name is' es' ss' xs m ds) d
    ∙ ap (λ m. reading name is' es' ss' xs' m ds) e
    ∙ ap (λ ds. reading name is' es' ss' xs' m' ds) f

-- a part that says nothing of this kind, and one that says it
other : {A : Type 0} (h : Part → Option A) (before : List Part) (p : Part) → filter_map h (p ∷ []) ≡ [] → filter_map h before ≡ filter_map h (before ++ p ∷ [])
other h before p e = sym (filter_map-append h before (p ∷ []) ∙ ap (λ more. filter_map h before ++ more) e ∙ append-nil (filter_map h before))

one : {A : Type 0} (h : Part → Option A) (before : List Part) (p : Part) (a : A) → filter_map h (p ∷ []) ≡ a ∷ [] → filter_map h before ++ a ∷ [] ≡ filter_map h (before ++ p ∷ [])
one h before p a e = sym (filter_map-append h before (p ∷ []) ∙ ap (λ more. filter_map h before ++ more) e)

-- where a breach stands, or else how far the reading has come
abbrev turned : List Breach → Reading → Step
turned [] r = on r
turned (b ∷ bs) r = off b

unless_is : (t : Bool) (b : Breach) (r s : Reading) → r ≡ s → unless t b r ≡ turned (breach_if t b) s
unless_is true b r s e = refl
unless_is false b r s e = ap on e

after_is : (t : Bool) (b : Breach) (r s : Reading) (F : Reading → Reading) → F r ≡ s → after (unless t b r) (λ r. on (F r)) ≡ turned (breach_if t b) s
after_is true b r s F e = refl
after_is false b r s F e = ap on e

main_is : (m : MainClause) (ms : List MainClause) (before : List Part) (name : List ℕ) → ms ≡ filter_map main_in before
    → unless (has_main (first_of ms)) (header m.at) (reading name (filter_map import_in before) (filter_map export_in before) (filter_map static_in before) (filter_map extern_in before) (Some m) (filter_map name_in before))
    ≡ turned (breach_if (has_main (first_of ms)) (header m.at)) (read name (before ++ main m ∷ []))
main_is m (n ∷ ms) before name e = refl
main_is m [] before name e =
    ap on (same_reading name (other import_in before (main m) refl) (other export_in before (main m) refl) (other static_in before (main m) refl) (other extern_in before (main m) refl)
    (ap (λ ms. first_of (ms ++ m ∷ [])) e ∙ ap first_of (one main_in before (main m) m refl))
    (other name_in before (main m) refl))

take_is : (name : List ℕ) (before : List Part) (p : Part) → take (read name before) p ≡ turned (breaches_at name before p) (read name (before ++ p ∷ []))
take_is name before (imported i) =
    unless_is (is_same i.module_name name) (header i.at) _ _
    (same_reading name (one import_in before (imported i) i refl) (other export_in before (imported i) refl) (other static_in before (imported i) refl) (other extern_in before (imported i) refl)
    (ap first_of (other main_in before (imported i) refl)) (other name_in before (imported i) refl))
take_is name before (exported e) =
    after_is (list_any (is_same e.name) (filter_map name_in before)) (duplicate e.name) _ _ (λ s. record s { head = record s.head { exports = s.head.exports ++ e ∷ [] } })
    (same_reading name (other import_in before (exported e) refl) (one export_in before (exported e) e refl) (other static_in before (exported e) refl) (other extern_in before (exported e) refl)
    (ap first_of (other main_in before (exported e) refl)) (one name_in before (exported e) e.name refl))
take_is name before (kept e) =
    after_is (list_any (is_same e.name) (filter_map name_in before)) (duplicate e.name) _ _ (λ s. record s { head = record s.head { statics = s.head.statics ++ e ∷ [] } })
    (same_reading name (other import_in before (kept e) refl) (other export_in before (kept e) refl) (one static_in before (kept e) e refl) (other extern_in before (kept e) refl)
    (ap first_of (other main_in before (kept e) refl)) (one name_in before (kept e) e.name refl))
take_is name before (foreign e) =
    after_is (list_any (is_same e.name) (filter_map name_in before)) (duplicate e.name) _ _ (λ s. record s { head = record s.head { externs = s.head.externs ++ e ∷ [] } })
    (same_reading name (other import_in before (foreign e) refl) (other export_in before (foreign e) refl) (other static_in before (foreign e) refl) (one extern_in before (foreign e) e refl)
    (ap first_of (other main_in before (foreign e) refl)) (one name_in before (foreign e) e.name refl))
take_is name before (main m) = main_is m (filter_map main_in before) before name refl
take_is name before (wrong at) = refl

from_here : (name : List ℕ) (before ps : List Part) → finished (take_all ps (read name before)) ≡ decided (breaches name before ps) (head_with name (before ++ ps))
from_here name before [] = ap (λ ps. right (head_with name ps)) (sym (append-nil before))
from_here name before (p ∷ ps) =
    ap (λ o. finished (after o (take_all ps))) (take_is name before p) ∙ go (breaches_at name before p) (from_here name (before ++ p ∷ []) ps)
  where
    more : List Part
    more = before ++ p ∷ []

    go : (bs : List Breach) → finished (take_all ps (read name more)) ≡ decided (breaches name more ps) (head_with name (more ++ ps))
        → finished (after (turned bs (read name more)) (take_all ps)) ≡ decided (bs ++ breaches name more ps) (head_with name (before ++ p ∷ ps))
    go (b ∷ bs) later = refl
    go [] later = later ∙ ap (λ qs. decided (breaches name more ps) (head_with name qs)) (append_assoc before (p ∷ []) ps)

all_read : (name given : List ℕ) (r : Reading) (ps : List Part) → given ≡ name → r ≡ bare given → head_of_parts name ps ≡ finished (take_all ps r)
all_read name given r ps e f = sym (ap (λ r. finished (take_all ps r)) f ∙ ap (λ name. finished (take_all ps (bare name))) e ∙ from_here name [] ps)

pub read_well : (name given : List ℕ) (r s : Reading) (ps : List Part) → given ≡ name → r ≡ bare given → take_all ps r ≡ on s → head_of_parts name ps ≡ right s.head
read_well name given r s ps e f o = all_read name given r ps e f ∙ ap finished o

pub read_not : (name given : List ℕ) (r s : Reading) (ps : List Part) (fault : HeadErr) → given ≡ name → r ≡ bare given → Follows {A = Unit {0}} (take_all ps r) (Err fault) s
    → Answers (head_of_parts name ps) (Err fault)
read_not name given r s ps (Header at) e f o = all_read name given r ps e f ∙ ap finished o
read_not name given r s ps (Duplicate x) e f o = all_read name given r ps e f ∙ ap finished o
read_not name given r s ps Memory e f o = tt
