-- Names with a type.
use Rattle.std.proofs.Common.{◌≡◌, ℕ, ◌+◌, ◌-◌, ◌<◌, true, false, ◌||◌, List, [], ◌∷◌, length, drop, take, get_or, sym, ap, ◌∙◌}
use Rattle.std.proofs.lemmas.List.{drop_more}
use Rattle.resolver.specs.BuiltHeads.{begins_type, has_type}
use Rattle.resolver.proofs.HeadLayers.{rest_is}

type_here : (name : List ℕ) → begins_type name ≡ true → has_type name ≡ true
type_here [] e = absurd (cc)
type_here (b ∷ bs) e = ap (λ t. t || has_type bs) e

pub type_found : (name : List ℕ) (i : ℕ) → has_type name ≡ has_type (drop i name) → begins_type (take (length name - i) (drop i name)) ≡ true → true ≡ has_type name
type_found name i h e = sym (h ∙ type_here (drop i name) (sym (ap begins_type (rest_is i name)) ∙ e))

pub type_later : (name : List ℕ) (i : ℕ) → i < length name → has_type name ≡ has_type (drop i name) → begins_type (take (length name - i) (drop i name)) ≡ false
    → has_type name ≡ has_type (drop (i + 1) name)
type_later name i l h e =
    let here : begins_type (get_or name i 0 ∷ drop (i + 1) name) ≡ false = sym (ap begins_type (rest_is i name ∙ drop_more name i 0 l)) ∙ e in
    h ∙ ap has_type (drop_more name i 0 l) ∙ ap (λ t. t || has_type (drop (i + 1) name)) here
