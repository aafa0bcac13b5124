-- Names where they are bound, and new names.
use Rattle.std.specs.Prelude.{ℕ, ◌+◌, Bool, true, false, not, if◌then◌else◌, ◌&&◌, List, [], ◌∷◌, codes, Option, Some, None}
use Rattle.scheme_data.specs.declared.datum.Place.{Place}
use Rattle.scheme_data.specs.Forms.{Form, Forms, symbol, listed, end, next}
use Rattle.scheme_data.specs.TypedNames.{Typed, typed, has_type}
use Rattle.core_forms.specs.Scope.{is_bound, all_marked}
use Rattle.core_forms.specs.declared.core_form.Binder.{Binder}
use Rattle.core_forms.specs.declared.counting.Counts.{Counts}

-- the k-th name that a row makes: new names are called `t`, and their marks lie above those of expansions
abbrev pub new_name : Place → Counts → ℕ → Form
new_name at n k = symbol at (codes "t") (20001 + (n.names + k))

-- a new name for each of these, from the k-th on
abbrev pub new_names : Place → Counts → ℕ → Forms → Forms
new_names at n k end = end
new_names at n k (next d ds) = next (new_name at n k) (new_names at n (k + 1) ds)

abbrev pub with_names : Counts → ℕ → Counts
with_names n k = record { expansions = n.expansions; filled = n.filled; names = n.names + k }

abbrev pub binder_with : Place → ℕ → Option Typed → Option Binder
binder_with at m None = None
binder_with at m (Some x) = Some (record { at = at; name = x.name; mark = m; ty = x.ty })

-- a symbol in a binding place, where types may stand or not
abbrev pub binder_of : Bool → Form → Option Binder
binder_of types (symbol at x m) = if has_type x && not types then None else binder_with at m (typed x)
binder_of types _ = None

abbrev pub onto_binders : Option Binder → Option (List Binder) → Option (List Binder)
onto_binders None xs = None
onto_binders (Some x) None = None
onto_binders (Some x) (Some xs) = if is_bound x.name x.mark (all_marked xs) then None else Some (x ∷ xs)

-- distinct names
abbrev pub binders_of : Bool → Forms → Option (List Binder)
binders_of types end = Some []
binders_of types (next d ds) = onto_binders (binder_of types d) (binders_of types ds)

-- Bindings ------------------------------------------------------------------------------

-- `((x e) ...)`
abbrev pub are_pairs : Forms → Bool
are_pairs end = true
are_pairs (next (listed at (next x (next e end))) ds) = are_pairs ds
are_pairs _ = false

abbrev pub firsts : Forms → Forms
firsts end = end
firsts (next (listed at (next x es)) ds) = next x (firsts ds)
firsts (next d ds) = firsts ds

abbrev pub seconds : Forms → Forms
seconds end = end
seconds (next (listed at (next x (next e es))) ds) = next e (seconds ds)
seconds (next d ds) = seconds ds

abbrev pub pairs_of : Place → Forms → Forms → Forms
pairs_of at (next x xs) (next e es) = next (listed at (next x (next e end))) (pairs_of at xs es)
pairs_of at _ _ = end

-- the names of bindings, where these are well formed
abbrev pub names_of : Bool → Forms → Option (List Binder)
names_of types ds = if are_pairs ds then binders_of types (firsts ds) else None
