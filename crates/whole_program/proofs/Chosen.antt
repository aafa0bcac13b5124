-- What holds of the items at chosen places.
use Rattle.std.proofs.Common.{◌≡◌, ℕ, Bool, true, false, not, List, [], ◌∷◌, map, Option, Some, None, slice_get, nat_eq, inl, inr, refl, sym, ap, ◌∙◌}
use Rattle.std.specs.List.{list_any}
use Rattle.std.specs.Option.{option_map}
use Rattle.std.proofs.lemmas.Bool.{and_from, not_from_false, or_parts, or_from, or_left, or_right, eq-eqb, false_from_ne_true, true≢false}
use Rattle.std.proofs.lemmas.Option.{slice_get-map}
use Rattle.scheme_data.specs.Names.{are_distinct, is_same}
use Rattle.std.specs.List.{cons_option}
use Rattle.meaning.specs.Order.{is_marked, chosen}
use Rattle.whole_program.proofs.Members.{Among, one_place, same_name}
use Rattle.whole_program.proofs.Visits.{Once, either}

-- it stands at one of these places
pub record Standing {A : Type 0} (xs : List A) (ks : List ℕ) (x : A) : Type 0 where
  pub place : ℕ
  pub chosen_place : is_marked ks place ≡ true
  pub stands : slice_get xs place ≡ Some x

further : {A : Type 0} (xs : List A) (k : ℕ) (ks : List ℕ) (x : A) → Standing xs ks x → Standing xs (k ∷ ks) x
further xs k ks x h = record { place = h.place; chosen_place = or_right (nat_eq h.place k) (is_marked ks h.place) h.chosen_place; stands = h.stands }

pub standing : {A : Type 0} (xs : List A) (ks : List ℕ) (x : A) → Among x (chosen xs ks) → Standing xs ks x
standing xs [] x i = absurd i
standing {A = A} xs (k ∷ ks) x i = go (slice_get xs k) refl i (λ j. further xs k ks x (standing xs ks x j))
  where
    go : (q : Option A) → slice_get xs k ≡ q → Among x (cons_option q (chosen xs ks)) → (Among x (chosen xs ks) → Standing xs (k ∷ ks) x) → Standing xs (k ∷ ks) x
    go None e j others = others j
    go (Some y) e (inl same) others = record { place = k; chosen_place = or_left (nat_eq k k) (is_marked ks k) (eq-eqb k k refl); stands = e ∙ ap Some (sym same) }
    go (Some y) e (inr j) others = others j

among_first : {A : Type 0} (q : Option A) (xs : List A) (x : A) → q ≡ Some x → Among x (cons_option q xs)
among_first None xs x e = absurd (cc)
among_first (Some y) xs x e = let same : x ≡ y = cc in inl same

among_later : {A : Type 0} (q : Option A) (xs : List A) (x : A) → Among x xs → Among x (cons_option q xs)
among_later None xs x i = i
among_later (Some y) xs x i = inr i

pub is_chosen : {A : Type 0} (xs : List A) (ks : List ℕ) (k : ℕ) (x : A) → slice_get xs k ≡ Some x → is_marked ks k ≡ true → Among x (chosen xs ks)
is_chosen xs [] k x e i = absurd (true≢false (sym i))
is_chosen xs (j ∷ js) k x e i =
    either k j (is_marked js k) i
    (λ same. among_first (slice_get xs j) (chosen xs js) x (ap (slice_get xs) (sym same) ∙ e))
    (λ others. among_later (slice_get xs j) (chosen xs js) x (is_chosen xs js k x e others))

-- Distinct names ----------------------------------------------------------------------------

none_onto : {A : Type 0} (name : A → List ℕ) (p : List ℕ → Bool) (q : Option A) (xs : List A) → ((x : A) → q ≡ Some x → p (name x) ≡ false) → list_any p (map name xs) ≡ false → list_any p (map name (cons_option q xs)) ≡ false
none_onto name p None xs first later = later
none_onto name p (Some x) xs first later = or_from (p (name x)) (list_any p (map name xs)) (first x refl) later

-- the name at another place isn't among those that are chosen
apart : {A : Type 0} (name : A → List ℕ) (xs : List A) → are_distinct (map name xs) ≡ true → (k : ℕ) (x : A) → slice_get xs k ≡ Some x → (ks : List ℕ) → is_marked ks k ≡ false → list_any (is_same (name x)) (map name (chosen xs ks)) ≡ false
apart name xs d k x e [] i = refl
apart {A = A} name xs d k x e (j ∷ js) i =
    let parts = or_parts (nat_eq k j) (is_marked js k) i in
    none_onto name (is_same (name x)) (slice_get xs j) (chosen xs js) (λ y f. false_from_ne_true (is_same (name x) (name y)) (λ s. true≢false (sym (eq-eqb k j (place y f s)) ∙ parts.0))) (apart name xs d k x e js parts.1)
  where
    place : (y : A) → slice_get xs j ≡ Some y → is_same (name x) (name y) ≡ true → k ≡ j
    place y f s =
        one_place (map name xs) d k j (name x)
        (slice_get-map name xs k ∙ ap (option_map name) e)
        (slice_get-map name xs j ∙ ap (option_map name) f ∙ ap Some (sym (same_name (name x) (name y) s)))

distinct_onto : {A : Type 0} (name : A → List ℕ) (q : Option A) (xs : List A) → ((x : A) → q ≡ Some x → list_any (is_same (name x)) (map name xs) ≡ false) → are_distinct (map name xs) ≡ true → are_distinct (map name (cons_option q xs)) ≡ true
distinct_onto name None xs first later = later
distinct_onto name (Some x) xs first later =
    and_from (not (list_any (is_same (name x)) (map name xs))) (are_distinct (map name xs)) (not_from_false (list_any (is_same (name x)) (map name xs)) (first x refl)) later

pub distinct_chosen : {A : Type 0} (name : A → List ℕ) (xs : List A) → are_distinct (map name xs) ≡ true → (ks : List ℕ) → Once ks → are_distinct (map name (chosen xs ks)) ≡ true
distinct_chosen name xs d [] h = refl
distinct_chosen name xs d (k ∷ ks) h =
    distinct_onto name (slice_get xs k) (chosen xs ks) (λ x e. apart name xs d k x e ks h.0) (distinct_chosen name xs d ks h.1)
