-- The functions among top-level forms, in a list of their own.
use Rattle.std.proofs.Common.{◌≡◌, ℕ, ◌+◌, ◌<◌, List, [], ◌∷◌, ◌++◌, length, map, take, get_or, refl, sym, ap, ◌∙◌}
use Rattle.std.proofs.lemmas.List.{map-append, take_more}
use Rattle.core_tree.specs.declared.tree.Top.{Top}
use Rattle.core_tree.specs.declared.tree.Top.TheVariants.{Function, Form}
use Rattle.core_tree.specs.Tree.{function_tree, functions_in}
use Rattle.code_gen.specs.declared.callees.OwnFunction.{OwnFunction}
use Rattle.code_gen.specs.Callees.{function_of}

-- The list is made --------------------------------------------------------------------------

functions_append : (xs ys : List Top) → functions_in (xs ++ ys) ≡ functions_in xs ++ functions_in ys
functions_append [] ys = refl
functions_append (Function name lambda ∷ xs) ys = ap (λ fs. function_tree name lambda ∷ fs) (functions_append xs ys)
functions_append (Form n ∷ xs) ys = functions_append xs ys

pub listed_more : (tops : List Top) (i : ℕ) (top : Top) (before after : List OwnFunction) → i < length tops → top ≡ get_or tops i top → map function_of before ≡ functions_in (take i tops)
    → map function_of after ≡ map function_of before ++ functions_in (top ∷ []) → map function_of after ≡ functions_in (take (i + 1) tops)
listed_more tops i top before after within top_is so e =
    e ∙ ap (λ fs. fs ++ functions_in (top ∷ [])) so ∙ sym (ap functions_in (take_more tops i top within ∙ ap (λ (t : Top). take i tops ++ t ∷ []) (sym top_is)) ∙ functions_append (take i tops) (top ∷ []))

-- It is walked ------------------------------------------------------------------------------

pub own_more : (ds : List OwnFunction) (i : ℕ) (d : OwnFunction) → i < length ds → d ≡ get_or ds i d → map function_of (take (i + 1) ds) ≡ map function_of (take i ds) ++ function_of d ∷ []
own_more ds i d within d_is = ap (map function_of) (take_more ds i d within ∙ ap (λ (e : OwnFunction). take i ds ++ e ∷ []) (sym d_is)) ∙ map-append function_of (take i ds) (d ∷ [])
