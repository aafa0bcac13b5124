-- Drafts of sources, by the parts that were read.
use Rattle.std.proofs.Common.{◌≡◌, ℕ, ◌≤◌, Bool, true, if◌then◌else◌, List, [], ◌∷◌, length, get_or, Option, Some, None, Result, IfOk, sym, ap, subst, ◌∙◌, arith}
use Rattle.std.specs.Option.{option_map}
use Rattle.scheme_data.specs.Names.{is_same}
use Rattle.scheme_data.specs.Data.{plain, plain_all}
use Rattle.scheme_data.specs.declared.datum.Datum.{Datum}
use Rattle.resolver.specs.BuiltHeads.{HeadTree, head_of}
use Rattle.resolver.specs.declared.drafts.Draft.{Draft}
use Rattle.resolver.specs.Drafts.{TopForm, tops, definitions_in, function_names, imported_names, outside_in_tops, outside_of, agrees, draft_in, draft_of, draft}
use Rattle.resolver.specs.Drafts as drafts
use Rattle.resolver.specs.Parts.{draft_tree, distinct, with_first}
use Rattle.resolver.proofs.Agreements.{listed_names}
use Rattle.resolver.proofs.Firsts.{names_first}
use Rattle.resolver.proofs.Calls.{rest_of}
use Rattle.resolver.proofs.Lists.{rest_is}

pub draft_is : (h : HeadTree) (ts : List TopForm) (names outside : List (List ℕ)) (t : Bool) (o : Option drafts.Draft) → Some names ≡ distinct (Some (function_names (definitions_in ts)))
    → t ≡ agrees h (definitions_in ts) → t ≡ true → outside ≡ with_first is_same [] (outside_in_tops (imported_names h.imports) names ts) → o ≡ draft_in h names outside ts
    → o ≡ draft_of (Some h) (Some ts)
draft_is h ts names outside t o n a e s d =
    let all : List (List ℕ) = function_names (definitions_in ts) in
    let same : names ≡ all = listed_names names (function_names (definitions_in ts)) n in
    let called : outside ≡ outside_of h ts = s ∙ ap (λ names. with_first is_same [] (outside_in_tops (imported_names h.imports) names ts)) same ∙ names_first (outside_in_tops (imported_names h.imports) all ts) in
    d ∙ ap (λ names. draft_in h names outside ts) same ∙ ap (λ outside. draft_in h (function_names (definitions_in ts)) outside ts) called
    ∙ sym (ap (λ t. if t then draft_in h (function_names (definitions_in ts)) (outside_of h ts) ts else None) (sym a ∙ e))

pub source_is : {E : Type 0} (ds : List Datum) (first : Datum) (h : HeadTree) (ts : List TopForm) (r : Result (Option Draft) E) → 1 ≤ length ds → first ≡ get_or ds 0 first
    → Some h ≡ head_of (plain first) → Some ts ≡ tops (plain_all (rest_of ds)) → IfOk r (λ d. option_map draft_tree d ≡ draft_of (Some h) (Some ts))
    → IfOk r (λ d. option_map draft_tree d ≡ draft (plain_all ds))
unfolding draft
source_is [] first h ts r l e p q is = absurd (omega arith)
source_is (x ∷ xs) first h ts r l e p q is =
    subst (λ o. IfOk r (λ d. option_map draft_tree d ≡ o))
    (ap (λ o. draft_of o (Some ts)) (p ∙ ap (λ (y : Datum). head_of (plain y)) e)
    ∙ ap (draft_of (head_of (plain x))) (q ∙ ap (λ (ds : List Datum). tops (plain_all ds)) (rest_is 1 (x ∷ xs))))
    is
