-- The head of a function, part after part.
use Rattle.std.proofs.Common.{◌≡◌, ℕ, ◌+◌, ◌≤◌, ◌<◌, Bool, true, false, not, List, [], ◌∷◌, ◌++◌, length, drop, get_or, slice_get, nat_le, Option, Some, None, is_some, refl, sym, ap, ◌∙◌, arith, inl, inr, ◌⊎◌, append_assoc}
use Rattle.std.proofs.lemmas.Bool.Decides.{nat_tests}
use Rattle.std.proofs.lemmas.List.{drop_all, map-append}
use Rattle.std.proofs.lemmas.Option.{slice_get_cases}
use Rattle.c_tree.specs.declared.tree.CTy.{CTy}
use Rattle.c_tree.specs.declared.tree.CVar.{CVar}
use Rattle.c_meaning.specs.declared.breach.BadCause.{BadCause}
use Rattle.c_meaning.specs.declared.breach.BadCause.TheVariants.{Twice}
use Rattle.c_meaning.specs.Plain.{Role, Signature}
use Rattle.c_meaning.specs.Breaches.{unless, has}
use Rattle.c_meaning.specs.Checked.{params_behind, are_all, result_breaches, param_breaches, types_breaches, params_breaches, locals_breaches}
use Rattle.c_check.specs.Firsts.{first}
use Rattle.c_check.specs.Variables.{names_of}
use Rattle.c_check.specs.Heads.{dropped, result_wrong}
use Rattle.c_check.specs.Knowns.{gives_of}
use Rattle.c_check.proofs.Firsts.{first_behind}
use Rattle.c_check.proofs.Rest.{rest_of}

pub all_at : (us : List CTy) (n : ℕ) → nat_le (length us) n ≡ are_all (dropped n (Some us))
all_at us n = by (slice_get_cases us n).1
  where
    by : (((u : CTy) × (n < length us) × (slice_get us n ≡ Some u) × (get_or us n u ≡ u)) ⊎ ((length us ≤ n) × (slice_get us n ≡ None))) → nat_le (length us) n ≡ are_all (dropped n (Some us))
    by (inl (u, inside, is, same)) =
        let few : nat_le (length us) n ≡ false = grind (arith, nat_tests) in
        few ∙ ap (λ l. are_all (Some l)) (sym (rest_of us n u is))
    by (inr (past, none)) =
        let enough : nat_le (length us) n ≡ true = grind (arith, nat_tests) in
        enough ∙ ap (λ l. are_all (Some l)) (sym (drop_all n us past))

drop-behind : (us : List CTy) (i : ℕ) → params_behind (Some (drop i us)) ≡ Some (drop (i + 1) us)
drop-behind us i = by (slice_get_cases us i).1
  where
    by : (((u : CTy) × (i < length us) × (slice_get us i ≡ Some u) × (get_or us i u ≡ u)) ⊎ ((length us ≤ i) × (slice_get us i ≡ None))) → params_behind (Some (drop i us)) ≡ Some (drop (i + 1) us)
    by (inl (u, inside, is, same)) = ap (λ l. params_behind (Some l)) (rest_of us i u is)
    by (inr (past, none)) = ap (λ l. params_behind (Some l)) (drop_all i us past) ∙ ap Some (sym (drop_all (i + 1) us (omega arith)))

behind-at : (before : Option (List CTy)) (i : ℕ) → params_behind (dropped i before) ≡ dropped (i + 1) before
behind-at None i = refl
behind-at (Some us) i = drop-behind us i

-- The types of a declaration
module _ (role : Role) (before : Option (List CTy)) (ts : List CTy) where
  abbrev pub TypesFrom : ℕ → Type 0
  TypesFrom i = first (types_breaches role before ts) ≡ first (types_breaches role (dropped i before) (drop i ts))

  module _ (i : ℕ) (so_far : TypesFrom i) (t : CTy) (at : drop i ts ≡ t ∷ drop (i + 1) ts) (r : Option BadCause) (is : r ≡ first (param_breaches role (dropped i before) t)) where
    split : first (types_breaches role before ts) ≡ first (param_breaches role (dropped i before) t ++ types_breaches role (dropped (i + 1) before) (drop (i + 1) ts))
    split = so_far ∙ ap (λ l. first (types_breaches role (dropped i before) l)) at ∙ ap (λ b. first (param_breaches role (dropped i before) t ++ types_breaches role b (drop (i + 1) ts))) (behind-at before i)

    pub type_right : is_some r ≡ false → TypesFrom (i + 1)
    type_right none = split ∙ first_behind (param_breaches role (dropped i before) t) (types_breaches role (dropped (i + 1) before) (drop (i + 1) ts)) r is none

-- The parameters of a definition
module _ (role : Role) (before : Option (List CTy)) (vs : List CVar) where
  pub record ParamsFrom (i : ℕ) (made : List CVar) : Type 0 where
    pub wrong : first (params_breaches role before [] vs) ≡ first (params_breaches role (dropped i before) (names_of made) (drop i vs))
    pub all : made ++ drop i vs ≡ vs

  module _ (i : ℕ) (made : List CVar) (so_far : ParamsFrom i made) (v : CVar) (at : drop i vs ≡ v ∷ drop (i + 1) vs) (r : Option BadCause) (is : r ≡ first (param_breaches role (dropped i before) v.ty)) where
    params_split : first (params_breaches role before [] vs) ≡ first (param_breaches role (dropped i before) v.ty ++ (unless Twice (not (has (names_of made) v.name)) ++ params_breaches role (dropped (i + 1) before) (names_of made ++ v.name ∷ []) (drop (i + 1) vs)))
    params_split = so_far.wrong ∙ ap (λ l. first (params_breaches role (dropped i before) (names_of made) l)) at
        ∙ ap (λ b. first (param_breaches role (dropped i before) v.ty ++ (unless Twice (not (has (names_of made) v.name)) ++ params_breaches role b (names_of made ++ v.name ∷ []) (drop (i + 1) vs)))) (behind-at before i)

    fits : is_some r ≡ false → first (params_breaches role before [] vs) ≡ first (unless Twice (not (has (names_of made) v.name)) ++ params_breaches role (dropped (i + 1) before) (names_of made ++ v.name ∷ []) (drop (i + 1) vs))
    fits none =
        params_split ∙ first_behind (param_breaches role (dropped i before) v.ty) (unless Twice (not (has (names_of made) v.name)) ++ params_breaches role (dropped (i + 1) before) (names_of made ++ v.name ∷ []) (drop (i + 1) vs)) r is none

    pub param_right : is_some r ≡ false → (added : Bool) → added ≡ not (has (names_of made) v.name) → added ≡ true → (more : List CVar) → more ≡ made ++ v ∷ [] → ParamsFrom (i + 1) more
    param_right none added new yes_new more is_more = record {
      wrong = fits none
          ∙ ap (λ b. first (unless Twice b ++ params_breaches role (dropped (i + 1) before) (names_of made ++ v.name ∷ []) (drop (i + 1) vs))) (sym new ∙ yes_new)
          ∙ ap (λ ns. first (params_breaches role (dropped (i + 1) before) ns (drop (i + 1) vs))) (sym (map-append (λ w. w.name) made (v ∷ [])) ∙ ap names_of (sym is_more));
      all = ap (λ m. m ++ drop (i + 1) vs) is_more ∙ append_assoc made (v ∷ []) (drop (i + 1) vs) ∙ ap (λ l. made ++ l) (sym at) ∙ so_far.all;
    }

-- The locals
module _ (start vs : List CVar) where
  pub record LocalsFrom (i : ℕ) (made : List CVar) : Type 0 where
    pub wrong : first (locals_breaches (names_of start) vs) ≡ first (locals_breaches (names_of made) (drop i vs))
    pub all : made ++ drop i vs ≡ start ++ vs

-- The result
pub wrong-result : (role : Role) (o : Option Signature) (t : CTy) → result_wrong role (gives_of o) t ≡ result_breaches role o t
wrong-result role None t = refl
wrong-result role (Some s) t = refl
