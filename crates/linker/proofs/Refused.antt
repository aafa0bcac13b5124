-- Why objects are refused: the first cause decides.
use Rattle.std.proofs.Common.{◌≡◌, ℕ, ◌+◌, ◌<◌, List, [], ◌∷◌, ◌++◌, length, Bool, true, false, not, Option, Some, None, if◌then◌else◌, get_or, drop, add-one, refl, sym, ap, ap₂, subst, ◌∙◌}
use Rattle.std.proofs.Math.Seq.{drop-cons}
use Rattle.std.proofs.lemmas.List.{append_assoc}
use Rattle.linker.specs.declared.indexed.Indexed.{Indexed}
use Rattle.scheme_data.specs.Names.{are_distinct}
use Rattle.scheme_data.proofs.DistinctNames.{twice, added as added_name}
use Rattle.name_table.specs.Names.{has_name}
use Rattle.object_text.specs.Format.{ObjectTree}
use Rattle.linker.specs.declared.linking.LinkErr.{LinkErr}
use Rattle.std.specs.Option.{option_or}
use Rattle.linker.specs.Links.{unless, names_of, are_modules, missing_modules, missing_names, are_current, has_one_main, link_refusal}
use Rattle.linker.specs.Modules.{trees}

later_none : (first later : Option LinkErr) → option_or first later ≡ None → later ≡ None
later_none None later e = e
later_none (Some refused) later e = absurd (cc)

is_accepted : (b : Bool) → unless b ≡ None → b ≡ true
is_accepted true e = refl
is_accepted false e = absurd (cc)

pub one_main : (os : List ObjectTree) → link_refusal os ≡ None → has_one_main os ≡ true
one_main os e =
    is_accepted (has_one_main os)
    (later_none (unless (are_current os)) (unless (has_one_main os))
    (later_none (missing_names os) (option_or (unless (are_current os)) (unless (has_one_main os)))
    (later_none (missing_modules os) (option_or (missing_names os) (option_or (unless (are_current os)) (unless (has_one_main os))))
    (later_none (unless (are_modules os)) (option_or (missing_modules os) (option_or (missing_names os) (option_or (unless (are_current os)) (unless (has_one_main os))))) e))))

-- The table of the modules' names -----------------------------------------------------------

next_left : (objects : List Indexed) (k : ℕ) (o : Indexed) → k < length objects → o ≡ get_or objects k o → names_of (trees (drop k objects)) ≡ o.object.module_name ∷ names_of (trees (drop (k + 1) objects))
next_left objects k o below at =
    ap (λ (xs : List Indexed). names_of (trees xs)) (drop-cons objects k o below)
    ∙ ap₂ (λ (x : Indexed) (n : ℕ). x.object.module_name ∷ names_of (trees (drop n objects))) (sym at) (sym (add-one k))

not_new : (added there : Bool) → added ≡ not there → added ≡ false → there ≡ true
not_new added true e h = refl
not_new added false e h = absurd (cc)

is_new : (added there : Bool) → added ≡ not there → added ≡ true → there ≡ false
is_new added false e h = refl
is_new added true e h = absurd (cc)

pub listed_twice : (objects : List Indexed) (k : ℕ) (o : Indexed) (names : List (List ℕ)) (name : List ℕ) (added : Bool) → k < length objects → o ≡ get_or objects k o → names ++ names_of (trees (drop k objects)) ≡ names_of (trees objects) → name ≡ o.object.module_name
    → added ≡ not (has_name names name) → added ≡ false → are_distinct (names_of (trees objects)) ≡ false
listed_twice objects k o names name added below at are is told seen =
    ap are_distinct (sym are ∙ ap (λ (rest : List (List ℕ)). names ++ rest) (next_left objects k o below at))
    ∙ twice names o.object.module_name (names_of (trees (drop (k + 1) objects))) (subst (λ (x : List ℕ). has_name names x ≡ true) is (not_new added (has_name names name) told seen))

pub listed_more : (objects : List Indexed) (k : ℕ) (o : Indexed) (names more : List (List ℕ)) (name : List ℕ) (added : Bool) → k < length objects → o ≡ get_or objects k o → names ++ names_of (trees (drop k objects)) ≡ names_of (trees objects) → are_distinct names ≡ true → name ≡ o.object.module_name
    → added ≡ not (has_name names name) → added ≡ true → more ≡ (if added then names ++ name ∷ [] else names)
    → (more ++ names_of (trees (drop (k + 1) objects)) ≡ names_of (trees objects)) × (are_distinct more ≡ true)
listed_more objects k o names more name added below at are distinct is told fresh inserted =
    let all : more ≡ names ++ name ∷ [] = inserted ∙ ap (λ (b : Bool). if b then names ++ name ∷ [] else names) fresh in
    let rest : List (List ℕ) = names_of (trees (drop (k + 1) objects)) in (
      ap (λ (xs : List (List ℕ)). xs ++ rest) all ∙ (append_assoc names (name ∷ []) rest ∙ (ap (λ (x : List ℕ). names ++ x ∷ rest) is ∙ (ap (λ (xs : List (List ℕ)). names ++ xs) (sym (next_left objects k o below at)) ∙ are))),
      ap are_distinct all ∙ added_name names name distinct (is_new added (has_name names name) told fresh),
    )
