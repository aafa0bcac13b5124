-- The rule of a pattern and a template.
use Rattle.std.proofs.Common.{◌≡◌, ℕ, Bool, true, false, if◌then◌else◌, List, [], Option, Some, None, refl, sym, ap, ◌∙◌}
use Rattle.scheme_data.specs.Forms.{Form}
use Rattle.syntax_rules.specs.Macros.{with_pattern, with_template}
use Rattle.syntax_rules.specs.Patterns.{are_apart, as_list}
use Rattle.syntax_rules.specs.Templates.{template_of}
use Rattle.syntax_rules.specs.TreeViews.{parts}
use Rattle.syntax_rules.specs.Trees.{Patterns, Template, Pattern, Path, Rule}
use Rattle.syntax_rules.specs.Trees as tree

pub not_apart : (names start : List (List ℕ × ℕ)) (paths : List Path) (t : Form) (o : Option Patterns) (b : Bool) → start ≡ [] → b ≡ are_apart start names → b ≡ false → None ≡ with_pattern names paths t o
not_apart names start paths t None b e f g = refl
not_apart names start paths t (Some p) b e f g =
    sym (ap (λ c. if c then with_template p paths (template_of names paths 0 t) else None) (ap (λ s. are_apart s names) (sym e) ∙ sym f ∙ g))

no_template_by : (names : List (List ℕ × ℕ)) (paths : List Path) (p : Patterns) (b : Bool) → None ≡ (if b then with_template p paths None else None)
no_template_by names paths p true = refl
no_template_by names paths p false = refl

pub no_template : (names table : List (List ℕ × ℕ)) (paths ways : List Path) (t : Form) (o : Option Patterns) → table ≡ names → ways ≡ paths → None ≡ template_of table ways 0 t → None ≡ with_pattern names paths t o
no_template names table paths ways t None e f g = refl
no_template names table paths ways t (Some p) e f g =
    no_template_by names paths p (are_apart [] names)
    ∙ ap (λ o. if are_apart [] names then with_template p paths o else None) (g ∙ ap (λ n. template_of n ways 0 t) e ∙ ap (λ w. template_of names w 0 t) f)

made_by : (names : List (List ℕ × ℕ)) (paths : List Path) (t : Form) (p : Patterns) (u : Template) (b : Bool) → b ≡ true → Some u ≡ template_of names paths 0 t
    → Some (record { pattern = p; paths = paths; template = u }) ≡ (if b then with_template p paths (template_of names paths 0 t) else None)
made_by names paths t p u b e f = rw (e, sym f) refl

-- a pattern whose names are apart, and a template, are a rule
pub made : (names start table : List (List ℕ × ℕ)) (paths ways : List Path) (t : Form) (o : Option Patterns) (b : Bool) (p : Pattern) (u : Template) → start ≡ [] → table ≡ names → ways ≡ paths
    → Some p ≡ as_list o → b ≡ are_apart start names → b ≡ true → Some u ≡ template_of table ways 0 t
    → Some (record { pattern = parts p; paths = ways; template = u }) ≡ with_pattern names paths t o
made names start table paths ways t None b p u e f g h i j k = absurd (cc)
made names start table paths ways t (Some q) b p u e f g h i j k =
    let is : p ≡ tree.listed q = cc in
    ap (λ (p : Pattern). Some (record { pattern = parts p; paths = ways; template = u })) is
    ∙ ap (λ (w : List Path). Some (record { pattern = q; paths = w; template = u })) g
    ∙ made_by names paths t q u (are_apart [] names) (ap (λ (s : List (List ℕ × ℕ)). are_apart s names) (sym e) ∙ sym i ∙ j)
    (k ∙ ap (λ n. template_of n ways 0 t) f ∙ ap (λ w. template_of names w 0 t) g)

pub no_pattern : (names : List (List ℕ × ℕ)) (paths : List Path) (t : Form) (o : Option Patterns) → None ≡ as_list o → None ≡ with_pattern names paths t o
no_pattern names paths t None e = refl
no_pattern names paths t (Some ps) e = absurd (cc)
