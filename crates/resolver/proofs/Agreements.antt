-- Functions that are looked up by their names, and how many parameters they have.
use Rattle.std.proofs.Common.{◌≡◌, ℕ, zero, suc, ◌+◌, ◌<◌, ◌≤◌, Bool, true, false, not, if◌then◌else◌, cond, nat_eq, nat_lt, List, [], ◌∷◌, length, get_or, slice_get, Option, Some, None, refl, sym, ap, ◌∙◌, arith}
use Rattle.std.proofs.lemmas.List.{length-map}
use Rattle.std.proofs.lemmas.Bool.Decides.{nat_tests}
use Rattle.std.specs.List.{position_or_len}
use Rattle.std.specs.Cmp.Lexicographic.{pointwise, nat_list_eq_equiv}
use Rattle.scheme_data.specs.Names.{are_distinct}
use Rattle.name_table.specs.Names.{place_of}
use Rattle.resolver.specs.Drafts.{Definition, function_names, definition_named, takes_as_many}
use Rattle.resolver.specs.Parts.{param_counts, distinct}

-- Look-up -----------------------------------------------------------------------------------

abbrev spot : List Definition → List ℕ → ℕ
spot ds name = position_or_len (pointwise nat_eq name) (function_names ds)

named_where : (d : Definition) (rest : Option Definition) (name : List ℕ) (t : Bool) → pointwise nat_eq name d.name ≡ t
    → (if pointwise nat_eq d.name name then Some d else rest) ≡ (if t then Some d else rest)
named_where d rest name t e = ap (λ t. if t then Some d else rest) (nat_list_eq_equiv.symm d.name name ∙ e)

named_here : (ds : List Definition) (name : List ℕ) → spot ds name < length ds → definition_named ds name ≡ slice_get ds (spot ds name)
named_here [] name l = absurd (omega arith)
named_here (x ∷ xs) name l = go (pointwise nat_eq name x.name) refl l (named_here xs name)
  where
    go : (t : Bool) → pointwise nat_eq name x.name ≡ t → cond (not t) (1 + spot xs name) 0 < suc (length xs)
        → (spot xs name < length xs → definition_named xs name ≡ slice_get xs (spot xs name))
        → definition_named (x ∷ xs) name ≡ slice_get (x ∷ xs) (cond (not t) (1 + spot xs name) 0)
    go true e l h = named_where x (definition_named xs name) name true e
    go false e l h =
        let step : suc (spot xs name) ≡ 1 + spot xs name = omega arith in
        named_where x (definition_named xs name) name false e ∙ h (omega arith) ∙ ap (λ n. slice_get (x ∷ xs) n) step

named_nowhere : (ds : List Definition) (name : List ℕ) → length ds ≤ spot ds name → definition_named ds name ≡ None
named_nowhere [] name l = refl
named_nowhere (x ∷ xs) name l = go (pointwise nat_eq name x.name) refl l (named_nowhere xs name)
  where
    go : (t : Bool) → pointwise nat_eq name x.name ≡ t → suc (length xs) ≤ cond (not t) (1 + spot xs name) 0
        → (length xs ≤ spot xs name → definition_named xs name ≡ None) → definition_named (x ∷ xs) name ≡ None
    go true e l h = absurd (omega arith)
    go false e l h = named_where x (definition_named xs name) name false e ∙ h (omega arith)

-- a table of names of which none stands twice
pub listed_names : (names all : List (List ℕ)) → Some names ≡ distinct (Some all) → names ≡ all
listed_names names all e = go (are_distinct all) refl
  where
    go : (t : Bool) → are_distinct all ≡ t → names ≡ all
    go true d = let some : Some names ≡ Some all = e ∙ ap (λ t. if t then Some all else None) d in cc
    go false d = let some : Some names ≡ None = e ∙ ap (λ t. if t then Some all else None) d in absurd (cc)

place_is : (o : Option ℕ) (names : List (List ℕ)) (ds : List Definition) (name : List ℕ) → Some names ≡ distinct (Some (function_names ds)) → o ≡ place_of name names
    → o ≡ cond (nat_lt (spot ds name) (length ds)) (Some (spot ds name)) None
place_is o names ds name n e =
    e ∙ ap (place_of name) (listed_names names (function_names ds) n)
    ∙ ap (λ n. cond (nat_lt (spot ds name) n) (Some (spot ds name)) None) (length-map ds (λ d. d.name))

-- the definition of a name stands at the name's place
record IsNamed (ds : List Definition) (name : List ℕ) (i : ℕ) : Type 0 where
  pub within : i < length ds
  pub named : definition_named ds name ≡ slice_get ds i

named_at : (i : ℕ) (names : List (List ℕ)) (ds : List Definition) (name : List ℕ) → Some names ≡ distinct (Some (function_names ds)) → Some i ≡ place_of name names → IsNamed ds name i
named_at i names ds name n e = go (nat_lt (spot ds name) (length ds)) refl
  where
    go : (t : Bool) → nat_lt (spot ds name) (length ds) ≡ t → IsNamed ds name i
    go true l =
        let some : Some i ≡ Some (spot ds name) = place_is (Some i) names ds name n e ∙ ap (λ t. cond t (Some (spot ds name)) None) l in
        let same : i ≡ spot ds name = cc in
        let below : spot ds name < length ds = grind (arith, nat_tests) in
        record { within = omega arith; named = named_here ds name below ∙ ap (slice_get ds) (sym same) }
    go false l =
        let some : Some i ≡ None = place_is (Some i) names ds name n e ∙ ap (λ t. cond t (Some (spot ds name)) None) l in
        absurd (cc)

pub taken_nowhere : (count : ℕ) (names : List (List ℕ)) (ds : List Definition) (name : List ℕ) → Some names ≡ distinct (Some (function_names ds))
    → None ≡ place_of name names → false ≡ takes_as_many count (definition_named ds name)
taken_nowhere count names ds name n e = go (nat_lt (spot ds name) (length ds)) refl
  where
    go : (t : Bool) → nat_lt (spot ds name) (length ds) ≡ t → false ≡ takes_as_many count (definition_named ds name)
    go true l =
        let some : None ≡ Some (spot ds name) = place_is None names ds name n e ∙ ap (λ t. cond t (Some (spot ds name)) None) l in
        absurd (cc)
    go false l =
        let past : length ds ≤ spot ds name = grind (arith, nat_tests) in
        sym (ap (takes_as_many count) (named_nowhere ds name past))

-- Counts ------------------------------------------------------------------------------------

count_at : (ds : List Definition) (i count : ℕ) → i < length ds → nat_eq (get_or (param_counts ds) i 0) count ≡ takes_as_many count (slice_get ds i)
count_at [] i count l = absurd (omega arith)
count_at (d ∷ ds) zero count l = refl
count_at (d ∷ ds) (suc i) count l = count_at ds i count (omega arith)

pub taken_here : (count i : ℕ) (names : List (List ℕ)) (counts : List ℕ) (ds : List Definition) (name : List ℕ) → Some names ≡ distinct (Some (function_names ds)) → counts ≡ param_counts ds
    → Some i ≡ place_of name names → nat_eq (get_or counts i 0) count ≡ takes_as_many count (definition_named ds name)
taken_here count i names counts ds name l c e =
    let at = named_at i names ds name l e in
    ap (λ counts. nat_eq (get_or counts i 0) count) c ∙ count_at ds i count at.within ∙ sym (ap (takes_as_many count) at.named)
