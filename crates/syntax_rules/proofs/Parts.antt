-- What the parts of a list's pattern are.
use Rattle.std.proofs.Common.{◌≡◌, ℕ, Bool, true, false, ◌-◌, ◌<◌, List, length, map, take, drop, sym, ap, ◌∙◌, subst}
use Rattle.scheme_data.specs.Forms.{form, forms}
use Rattle.scheme_data.specs.declared.datum.Datum.{Datum}
use Rattle.syntax_rules.specs.Matching.{matches, all_match, every}
use Rattle.syntax_rules.specs.TreeViews.{the_pattern, in_turn, parts}
use Rattle.syntax_rules.specs.Trees.{no_more, each}
use Rattle.syntax_rules.specs.declared.tree.Pattern.{Pattern}
use Rattle.syntax_rules.specs.declared.tree.Pattern.TheViews as pattern
use Rattle.syntax_rules.proofs.InStep.{few_data, another_length, InStep, same_length, front_wrong, others_match}
use Rattle.syntax_rules.proofs.Layers.{pattern-Exactly, pattern-Dots}

parts-Exactly : (ps : List Pattern) (ds : List Datum) → all_match (in_turn (map the_pattern ps) no_more) (forms (map form ds)) ≡ all_match (parts (the_pattern (pattern.Exactly ps))) (forms (map form ds))
parts-Exactly ps ds = ap (λ p. all_match (parts p) (forms (map form ds))) (sym (pattern-Exactly ps))

parts-Dots : (ps : List Pattern) (p : Pattern) (ds : List Datum) → all_match (in_turn (map the_pattern ps) (each (the_pattern p))) (forms (map form ds)) ≡ all_match (parts (the_pattern (pattern.Dots ps p))) (forms (map form ds))
parts-Dots ps p ds = ap (λ p. all_match (parts p) (forms (map form ds))) (sym (pattern-Dots ps p))

pub exactly_wrong : (ps : List Pattern) (ds : List Datum) → (length ps ≡ length ds → ⊥) → false ≡ all_match (parts (the_pattern (pattern.Exactly ps))) (forms (map form ds))
exactly_wrong ps ds h = another_length ps ds h ∙ parts-Exactly ps ds

pub exactly_right : (ps qs : List Pattern) (ds : List Datum) (b : Bool) → qs ≡ ps → length ps ≡ length ds → InStep qs ds b → b ≡ all_match (parts (the_pattern (pattern.Exactly ps))) (forms (map form ds))
exactly_right ps qs ds b e n h = same_length ps ds b n (subst (λ (qs : List Pattern). InStep qs ds b) e h) ∙ parts-Exactly ps ds

pub dots_few : (ps : List Pattern) (p : Pattern) (ds : List Datum) → length ds < length ps → false ≡ all_match (parts (the_pattern (pattern.Dots ps p))) (forms (map form ds))
dots_few ps p ds h = few_data ps (each (the_pattern p)) ds h ∙ parts-Dots ps p ds

pub dots_wrong : (ps qs : List Pattern) (p : Pattern) (ds : List Datum) (b : Bool) → qs ≡ ps → InStep qs ds b → b ≡ false → false ≡ all_match (parts (the_pattern (pattern.Dots ps p))) (forms (map form ds))
dots_wrong ps qs p ds b e h f = front_wrong ps (each (the_pattern p)) ds b (subst (λ (qs : List Pattern). InStep qs ds b) e h) f ∙ parts-Dots ps p ds

pub dots_right : (ps qs : List Pattern) (p q : Pattern) (ds : List Datum) (n : ℕ) (b r : Bool) → qs ≡ ps → q ≡ p → n ≡ length ps → InStep qs ds b → b ≡ true
    → r ≡ every (matches (the_pattern q)) (forms (map form (take (length ds - n) (drop n ds)))) → r ≡ all_match (parts (the_pattern (pattern.Dots ps p))) (forms (map form ds))
dots_right ps qs p q ds n b r e f k h g i =
    others_match ps p ds b r (subst (λ (qs : List Pattern). InStep qs ds b) e h) g
    (i ∙ ap (λ (q : Pattern). every (matches (the_pattern q)) (forms (map form (take (length ds - n) (drop n ds))))) f
    ∙ ap (λ n. every (matches (the_pattern p)) (forms (map form (take (length ds - n) (drop n ds))))) k)
    ∙ parts-Dots ps p ds
