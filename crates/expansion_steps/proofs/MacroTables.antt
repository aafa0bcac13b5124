-- Macros in a table by their names.
use Rattle.std.proofs.Common.{◌≡◌, ℕ, suc, Bool, true, false, List, [], ◌∷◌, ◌++◌, map, Option, None, Some, slice_get, refl, sym, ap, ◌∙◌}
use Rattle.std.specs.Option.{is_some, option_map, option_copied}
use Rattle.std.specs.Borrow.{Bor}
use Rattle.scheme_data.specs.Names.{is_same}
use Rattle.name_table.specs.Names.{has_name, place_of}
use Rattle.name_table.proofs.Places.{place-cons}
use Rattle.syntax_rules.specs.Trees.{Macro}
use Rattle.syntax_rules.specs.Views.{the_macro}
use Rattle.syntax_rules.specs.declared.rules.Rules.{Rules}
use Rattle.core_forms.specs.Scope.{macro_named, unless_named, with_macro}
use Rattle.expansion_steps.specs.Heads.{macro_name, macros_of, some_macro}

abbrev at_place : List Rules → Option ℕ → Option Macro
at_place rs None = None
at_place rs (Some i) = option_map the_macro (slice_get rs i)

at-more : (r : Rules) (rs : List Rules) (o : Option ℕ) → at_place (r ∷ rs) (option_map (λ n. suc n) o) ≡ at_place rs o
at-more r rs None = refl
at-more r rs (Some n) = refl

named-by : (x : List ℕ) (r : Rules) (rs : List Rules) (b : Bool) → is_same x (macro_name r) ≡ b → at_place rs (place_of x (map macro_name rs)) ≡ macro_named x (macros_of rs)
    → at_place (r ∷ rs) (place_of x (map macro_name (r ∷ rs))) ≡ macro_named x (macros_of (r ∷ rs))
named-by x r rs true e more = ap (at_place (r ∷ rs)) (place-cons x (macro_name r) (map macro_name rs) true e) ∙ rw e refl
named-by x r rs false e more = ap (at_place (r ∷ rs)) (place-cons x (macro_name r) (map macro_name rs) false e) ∙ (at-more r rs (place_of x (map macro_name rs)) ∙ (more ∙ rw e refl))

-- a macro is found where its name stands
pub named-at : (x : List ℕ) (rs : List Rules) → at_place rs (place_of x (map macro_name rs)) ≡ macro_named x (macros_of rs)
named-at x [] = refl
named-at x (r ∷ rs) = named-by x r rs (is_same x (macro_name r)) refl (named-at x rs)

copied-macro : (o : Option (Bor Rules)) → some_macro o ≡ option_map the_macro (option_copied o)
copied-macro None = refl
copied-macro (Some r) = refl

pub found-at : (x : List ℕ) (names : List (List ℕ)) (rs all : List Rules) (o : Option (Bor Rules)) (i : ℕ) → names ≡ map macro_name rs → rs ≡ all → Some i ≡ place_of x names → option_copied o ≡ slice_get rs i
    → some_macro o ≡ macro_named x (macros_of all)
found-at x names rs all o i n same p g =
    copied-macro o ∙ (ap (option_map the_macro) g ∙ (ap (at_place rs) (p ∙ ap (place_of x) n) ∙ (named-at x rs ∙ ap (λ rs. macro_named x (macros_of rs)) same)))

pub none-at : (x : List ℕ) (names : List (List ℕ)) (rs all : List Rules) → names ≡ map macro_name rs → rs ≡ all → None ≡ place_of x names → None ≡ macro_named x (macros_of all)
none-at x names rs all n same p = ap (at_place rs) (p ∙ ap (place_of x) n) ∙ (named-at x rs ∙ ap (λ rs. macro_named x (macros_of rs)) same)

is-named-by : (x : List ℕ) (r : Rules) (rs : List Rules) (b : Bool) → is_same x (macro_name r) ≡ b → is_some (macro_named x (macros_of rs)) ≡ has_name (map macro_name rs) x
    → is_some (macro_named x (macros_of (r ∷ rs))) ≡ has_name (map macro_name (r ∷ rs)) x
is-named-by x r rs true e more = rw e refl
is-named-by x r rs false e more = rw e more

pub is-named : (x : List ℕ) (rs : List Rules) → is_some (macro_named x (macros_of rs)) ≡ has_name (map macro_name rs) x
is-named x [] = refl
is-named x (r ∷ rs) = is-named-by x r rs (is_same x (macro_name r)) refl (is-named x rs)

unless-known : (ks : List Macro) (k : Macro) (o : Option Macro) → is_some o ≡ true → ks ≡ unless_named ks k o
unless-known ks k None e = absurd (cc)
unless-known ks k (Some j) e = refl

unless-new : (ks : List Macro) (k : Macro) (o : Option Macro) → is_some o ≡ false → ks ++ k ∷ [] ≡ unless_named ks k o
unless-new ks k None e = refl
unless-new ks k (Some j) e = absurd (cc)

all-with : (rs : List Rules) (r : Rules) → macros_of (rs ++ r ∷ []) ≡ macros_of rs ++ the_macro r ∷ []
all-with [] r = refl
all-with (q ∷ rs) r = ap (λ ks. the_macro q ∷ ks) (all-with rs r)

pub names-with : (rs : List Rules) (r : Rules) → map macro_name (rs ++ r ∷ []) ≡ map macro_name rs ++ macro_name r ∷ []
names-with [] r = refl
names-with (q ∷ rs) r = ap (λ ks. macro_name q ∷ ks) (names-with rs r)

pub known-stays : (x : List ℕ) (names : List (List ℕ)) (rs all : List Rules) (r : Rules) → x ≡ macro_name r → names ≡ map macro_name rs → rs ≡ all → has_name names x ≡ true
    → macros_of rs ≡ with_macro (macros_of all) (the_macro r)
known-stays x names rs all r h n same e =
    ap macros_of same ∙ unless-known (macros_of all) (the_macro r) (macro_named (macro_name r) (macros_of all))
    (is-named (macro_name r) all ∙ (ap (λ rs. has_name (map macro_name rs) (macro_name r)) (sym same) ∙ (ap (λ names. has_name names (macro_name r)) (sym n) ∙ (ap (has_name names) (sym h) ∙ e))))

pub new-joins : (x : List ℕ) (names : List (List ℕ)) (rs all new : List Rules) (r : Rules) → x ≡ macro_name r → names ≡ map macro_name rs → rs ≡ all → has_name names x ≡ false → new ≡ rs ++ r ∷ []
    → macros_of new ≡ with_macro (macros_of all) (the_macro r)
new-joins x names rs all new r h n same e more =
    ap macros_of (more ∙ ap (λ rs. rs ++ r ∷ []) same) ∙ (all-with all r ∙ unless-new (macros_of all) (the_macro r) (macro_named (macro_name r) (macros_of all))
    (is-named (macro_name r) all ∙ (ap (λ rs. has_name (map macro_name rs) (macro_name r)) (sym same) ∙ (ap (λ names. has_name names (macro_name r)) (sym n) ∙ (ap (has_name names) (sym h) ∙ e)))))
