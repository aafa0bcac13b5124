-- Looking a name up in the entries of a map by name.
use Rattle.std.proofs.Common.{◌≡◌, ℕ, List, [], ◌∷◌, Some, cond, refl, ap, sym, ◌∙◌}
use Rattle.std.specs.Ordering.{nat_cmp, eq_by_cmp, match_ordering}
use Rattle.std.specs.declared.cmp.Ordering.TheVariants.{Less, Equal, Greater}
use Rattle.std.specs.BTreeMap.{is_at, insert_entry}
use Rattle.std.specs.Map.{lookup}
use Rattle.std.specs.Cmp.Lexicographic.{slice_cmp, nat_list_cmp_total, texts_ties}
use Rattle.std.specs.FinMap.{find, put}
use Rattle.std.specs.FinMap.Entries.{by_order, find-put}
use Rattle.std.specs.Global.{Vec}
use Rattle.scheme_data.specs.Names.{is_same, named}

-- what a look-up by name gives is what stands at the name
pub lookup-named : {X : Type 0} (name : List ℕ) (es : List (Vec ℕ × X)) → lookup (is_at (λ k. slice_cmp nat_cmp name k.items)) es ≡ find (slice_cmp nat_cmp) name (named es)
lookup-named name [] = refl
lookup-named name (e ∷ es) = ap (cond (eq_by_cmp (slice_cmp nat_cmp) name e.0.items) (Some e.1)) (lookup-named name es)

-- what is inserted is put at the name of its key
pub insert_entry-named : {X : Type 0} (key : Vec ℕ) (x : X) (es : List (Vec ℕ × X)) → named (insert_entry (λ x y. slice_cmp nat_cmp x.items y.items) es key x) ≡ put (slice_cmp nat_cmp) key.items x (named es)
insert_entry-named key x [] = refl
insert_entry-named key x (e ∷ es) = elim (slice_cmp nat_cmp key.items e.0.items) as (λ r. named (match_ordering r ((key, x) ∷ e ∷ es) ((e.0, x) ∷ es) (e ∷ insert_entry (λ x y. slice_cmp nat_cmp x.items y.items) es key x)) ≡ by_order r ((key.items, x) ∷ named (e ∷ es)) ((e.0.items, x) ∷ named es) ((e.0.items, e.1) ∷ put (slice_cmp nat_cmp) key.items x (named es))) [
  | Less ↦ refl
  | Equal ↦ refl
  | Greater ↦ ap (λ rest. (e.0.items, e.1) ∷ rest) (insert_entry-named key x es)
]

-- a look-up finds what was inserted at its name, and else what it found before
pub lookup-inserted : {X : Type 0} (name : List ℕ) (key : Vec ℕ) (x : X) (es : List (Vec ℕ × X))
    → lookup (is_at (λ k. slice_cmp nat_cmp name k.items)) (insert_entry (λ x y. slice_cmp nat_cmp x.items y.items) es key x) ≡ cond (is_same name key.items) (Some x) (lookup (is_at (λ k. slice_cmp nat_cmp name k.items)) es)
lookup-inserted name key x es =
    lookup-named name (insert_entry (λ x y. slice_cmp nat_cmp x.items y.items) es key x)
    ∙ ap (find (slice_cmp nat_cmp) name) (insert_entry-named key x es)
    ∙ find-put (slice_cmp nat_cmp) nat_list_cmp_total name key.items x (named es)
    ∙ ap (λ b. cond b (Some x) (find (slice_cmp nat_cmp) name (named es))) (sym (texts_ties name key.items))
    ∙ ap (λ o. cond (is_same name key.items) (Some x) o) (sym (lookup-named name es))
