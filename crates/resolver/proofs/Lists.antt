-- A list that is read item by item: some items, and then the rest, where there is one.
use Rattle.std.proofs.Common.{◌≡◌, ℕ, ◌-◌, List, [], ◌∷◌, ◌++◌, length, drop, take, Option, Some, None, refl, sym, ap, append_assoc, arith}
use Rattle.std.proofs.lemmas.List.{take_all, length-drop}
use Rattle.core_tree.specs.Tree.{FunctionTree}
use Rattle.resolver.specs.BuiltHeads.{onto}
use Rattle.resolver.specs.Drafts.{TopForm}

-- `&xs[i..]`
pub rest_is : {A : Type 0} (i : ℕ) (xs : List A) → take (length xs - i) (drop i xs) ≡ drop i xs
rest_is i xs = take_all (length xs - i) (drop i xs) (omega (arith, length-drop i xs))

abbrev pub ahead : {A : Type 0} → List A → Option (List A) → Option (List A)
ahead xs None = None
ahead xs (Some ys) = Some (xs ++ ys)

pub top_more : (ts : List TopForm) (t : TopForm) (o : Option (List TopForm)) → ahead ts (onto (Some t) o) ≡ ahead (ts ++ t ∷ []) o
top_more ts t None = refl
top_more ts t (Some us) = ap Some (sym (append_assoc ts (t ∷ []) us))

pub function_more : (fs : List FunctionTree) (f : FunctionTree) (o : Option (List FunctionTree)) → ahead fs (onto (Some f) o) ≡ ahead (fs ++ f ∷ []) o
function_more fs f None = refl
function_more fs f (Some gs) = ap Some (sym (append_assoc fs (f ∷ []) gs))
