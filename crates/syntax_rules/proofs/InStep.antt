-- Lists that are matched in step.
use Rattle.std.proofs.lemmas.Bool.Decides.{nat_tests}
use Rattle.std.proofs.Common.{◌≡◌, ℕ, nat_eq, zero, suc, ◌-◌, ◌<◌, ◌&&◌, Bool, true, false, List, [], ◌∷◌, length, map, take, drop, refl, sym, ap, ◌∙◌, arith, inl, inr, ◌⊎◌}
use Rattle.std.proofs.lemmas.List.{length-map, drop_all, take_rest}
use Rattle.scheme_data.specs.Forms.{Form, form, forms}
use Rattle.scheme_data.specs.declared.datum.Datum.{Datum}
use Rattle.syntax_rules.specs.Matching.{matches, all_match, every, at_end}
use Rattle.syntax_rules.specs.TreeViews.{the_pattern, in_turn}
use Rattle.syntax_rules.specs.Trees.{Patterns, no_more, each}
use Rattle.syntax_rules.specs.Trees as tree
use Rattle.syntax_rules.specs.declared.tree.Pattern.{Pattern}

and-false : (b : Bool) → (b && false) ≡ false
and-false true = refl
and-false false = refl

and-true : (b : Bool) → (b && true) ≡ b
and-true true = refl
and-true false = refl

few : (ps : List tree.Pattern) (rest : Patterns) (fs : List Form) → length fs < length ps → all_match (in_turn ps rest) (forms fs) ≡ false
few [] rest fs h = absurd (omega arith)
few (p ∷ ps) rest [] h = refl
few (p ∷ ps) rest (f ∷ fs) h = ap (λ b. matches p f && b) (few ps rest fs (omega arith)) ∙ and-false (matches p f)

many : (ps : List tree.Pattern) (fs : List Form) → length ps < length fs → all_match (in_turn ps no_more) (forms fs) ≡ false
many [] [] h = absurd (omega arith)
many [] (f ∷ fs) h = refl
many (p ∷ ps) [] h = absurd (omega arith)
many (p ∷ ps) (f ∷ fs) h = ap (λ b. matches p f && b) (many ps fs (omega arith)) ∙ and-false (matches p f)

differ : (a b : ℕ) → (a ≡ b → ⊥) → (a < b) ⊎ (b < a)
differ zero zero h = absurd (h refl)
differ zero (suc b) h = inl (omega arith)
differ (suc a) zero h = inr (omega arith)
differ (suc a) (suc b) h = elim (differ a b (λ e. h (ap suc e))) [ inl k ↦ inl (omega arith) | inr k ↦ inr (omega arith) ]

-- too few data
pub few_data : (ps : List Pattern) (rest : Patterns) (ds : List Datum) → length ds < length ps → false ≡ all_match (in_turn (map the_pattern ps) rest) (forms (map form ds))
few_data ps rest ds h = sym (few (map the_pattern ps) rest (map form ds) (simp length-map (omega arith)))

many_data : (ps : List Pattern) (ds : List Datum) → length ps < length ds → false ≡ all_match (in_turn (map the_pattern ps) no_more) (forms (map form ds))
many_data ps ds h = sym (many (map the_pattern ps) (map form ds) (simp length-map (omega arith)))

-- a list of another length
pub another_length : (ps : List Pattern) (ds : List Datum) → (length ps ≡ length ds → ⊥) → false ≡ all_match (in_turn (map the_pattern ps) no_more) (forms (map form ds))
another_length ps ds h = elim (differ (length ps) (length ds) h) [ inl k ↦ many_data ps ds k | inr k ↦ few_data ps no_more ds k ]

-- what `first_match` answers
abbrev pub InStep : List Pattern → List Datum → Bool → Type 0
InStep ps ds b = (rest : Patterns) → all_match (in_turn (map the_pattern ps) rest) (forms (map form ds)) ≡ (b && all_match rest (forms (map form (drop (length ps) ds))))

pub same_length : (ps : List Pattern) (ds : List Datum) (b : Bool) → length ps ≡ length ds → InStep ps ds b → b ≡ all_match (in_turn (map the_pattern ps) no_more) (forms (map form ds))
same_length ps ds b n h =
    let none : drop (length ps) ds ≡ [] = drop_all (length ps) ds (omega arith) in
    sym (h no_more ∙ ap (λ es. b && all_match no_more (forms (map form es))) none ∙ and-true b)

pub front_wrong : (ps : List Pattern) (rest : Patterns) (ds : List Datum) (b : Bool) → InStep ps ds b → b ≡ false → false ≡ all_match (in_turn (map the_pattern ps) rest) (forms (map form ds))
front_wrong ps rest ds b h e = sym (h rest ∙ ap (λ b. b && all_match rest (forms (map form (drop (length ps) ds)))) e)

pub others_match : (ps : List Pattern) (p : Pattern) (ds : List Datum) (b r : Bool) → InStep ps ds b → b ≡ true → r ≡ every (matches (the_pattern p)) (forms (map form (take (length ds - length ps) (drop (length ps) ds))))
    → r ≡ all_match (in_turn (map the_pattern ps) (each (the_pattern p))) (forms (map form ds))
others_match ps p ds b r h e g =
    g ∙ ap (λ es. every (matches (the_pattern p)) (forms (map form es))) (take_rest ds (length ps))
    ∙ sym (h (each (the_pattern p)) ∙ ap (λ b. b && all_match (each (the_pattern p)) (forms (map form (drop (length ps) ds)))) e)

pub no_data : (ds : List Datum) → nat_eq (length ds) 0 ≡ at_end (forms (map form ds))
no_data [] = refl
no_data (d ∷ ds) = grind (arith, nat_tests)
