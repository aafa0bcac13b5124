-- Variables in order of their numbers.
use Rattle.std.proofs.Common.{◌≡◌, ℕ, zero, suc, ◌+◌, ◌-◌, ◌≤◌, List, [], ◌∷◌, ◌++◌, length, refl, sym, ap, ◌∙◌, arith}
use Rattle.core_tree.specs.declared.tree.VarId.{VarId}
use Rattle.resolver.specs.Drafts.{variables}
use Rattle.resolver.specs.Parts.{numbered_from}

pub variables_are : (first : ℕ) (names : List (List ℕ)) → variables first names ≡ numbered_from first (length names)
variables_are first [] = refl
variables_are first (x ∷ xs) = ap (λ vs. record { 0 = first } ∷ vs) (variables_are (suc first) xs)

numbered_last : (first n : ℕ) → numbered_from first (suc n) ≡ numbered_from first n ++ record { 0 = first + n } ∷ []
numbered_last first zero = ap (λ k. record { 0 = k } ∷ []) (omega arith)
numbered_last first (suc n) =
    let same : suc first + n ≡ first + suc n = omega arith in
    ap (λ vs. record { 0 = first } ∷ vs) (numbered_last (suc first) n ∙ ap (λ k. numbered_from (suc first) n ++ record { 0 = k } ∷ []) same)

pub numbered_more : (first n : ℕ) (vs ws : List VarId) → first ≤ n → vs ≡ numbered_from first (n - first) → ws ≡ vs ++ record { 0 = n } ∷ [] → ws ≡ numbered_from first (n + 1 - first)
numbered_more first n vs ws l h w =
    let at : n ≡ first + (n - first) = omega arith in
    let next : suc (n - first) ≡ n + 1 - first = omega arith in
    w ∙ ap (λ vs. vs ++ record { 0 = n } ∷ []) h ∙ ap (λ k. numbered_from first (n - first) ++ record { 0 = k } ∷ []) at
    ∙ sym (numbered_last first (n - first)) ∙ ap (numbered_from first) next
