-- The forms of rules by their parts.
use Rattle.std.proofs.Common.{◌≡◌, ◌≢◌, ℕ, ◌-◌, ◌<◌, ◌≤◌, Bool, true, false, if◌then◌else◌, codes, List, [], ◌∷◌, length, take, drop, get_or, Option, Some, None, Result, IfOk, refl, ap, ◌∙◌, sym, subst, arith}
use Rattle.std.proofs.lemmas.List.{take_all, length-drop}
use Rattle.scheme_data.specs.Forms.{Form, Forms, form, form_says}
use Rattle.scheme_data.specs.declared.datum.Datum.{Datum}
use Rattle.syntax_rules.specs.Macros.{literals_of, with_literals, parts_of, symbol_of, rule_of, rule_from, rule_with, rules_for, rules_from, with_parts, named_rules, macro_of, macro_from, with_pattern}
use Rattle.syntax_rules.specs.Patterns.{names_in, paths_in, patterns_of}
use Rattle.syntax_rules.specs.Trees.{Macro}
use Rattle.syntax_rules.specs.Views.{forms_of, macro_if}
use Rattle.syntax_rules.specs.declared.rules.Rules.{Rules}
use Rattle.scheme_data.specs.declared.text.OutOfMemory.{OutOfMemory}

-- A definition of a macro --------------------------------------------------------------------

no_macro_from : (ds : List Datum) → length ds ≢ 3 → None ≡ macro_from (Some (forms_of ds))
no_macro_from [] n = refl
no_macro_from (a ∷ []) n = refl
no_macro_from (a ∷ b ∷ []) n = refl
no_macro_from (a ∷ b ∷ c ∷ []) n = absurd (n (omega arith))
no_macro_from (a ∷ b ∷ c ∷ d ∷ ds) n = refl

pub no_macro : (d : Form) (ds : List Datum) → Some (forms_of ds) ≡ parts_of d → length ds ≢ 3 → None ≡ macro_of d
no_macro d ds p n = no_macro_from ds n ∙ ap macro_from p

macro_from_three : (ds : List Datum) (x y : Datum) → length ds ≡ 3 → x ≡ get_or ds 1 x → y ≡ get_or ds 2 y → named_rules (symbol_of (form x)) (form y) ≡ macro_from (Some (forms_of ds))
macro_from_three [] x y n e f = absurd (omega arith)
macro_from_three (a ∷ []) x y n e f = absurd (omega arith)
macro_from_three (a ∷ b ∷ []) x y n e f = absurd (omega arith)
macro_from_three (a ∷ b ∷ c ∷ []) x y n e f = ap (λ (x : Datum). named_rules (symbol_of (form x)) (form y)) e ∙ ap (λ (y : Datum). named_rules (symbol_of (form b)) (form y)) f
macro_from_three (a ∷ b ∷ c ∷ d ∷ ds) x y n e f = absurd (omega arith)

pub macro_is : (d : Form) (ds : List Datum) (x y : Datum) → Some (forms_of ds) ≡ parts_of d → length ds ≡ 3 → x ≡ get_or ds 1 x → y ≡ get_or ds 2 y → named_rules (symbol_of (form x)) (form y) ≡ macro_of d
macro_is d ds x y p n e f = macro_from_three ds x y n e f ∙ ap macro_from p

-- Its rules ----------------------------------------------------------------------------------

no_rules_from : (x : List ℕ) (ds : List Datum) → length ds < 2 → None ≡ rules_from x (Some (forms_of ds))
no_rules_from x [] n = refl
no_rules_from x (a ∷ []) n = refl
no_rules_from x (a ∷ b ∷ ds) n = absurd (omega arith)

pub no_rules : (x : List ℕ) (d : Form) (ds : List Datum) → Some (forms_of ds) ≡ parts_of d → length ds < 2 → None ≡ rules_for x d
no_rules x d ds p n = no_rules_from x ds n ∙ ap (rules_from x) p

rules_from_two : (x : List ℕ) (ds : List Datum) (a b : Datum) → 2 ≤ length ds → a ≡ get_or ds 0 a → b ≡ get_or ds 1 b
    → (if form_says (form a) (codes "syntax-rules") then with_parts x (forms_of (drop 2 ds)) (parts_of (form b)) else None) ≡ rules_from x (Some (forms_of ds))
rules_from_two x [] a b n e f = absurd (omega arith)
rules_from_two x (c ∷ []) a b n e f = absurd (omega arith)
rules_from_two x (c ∷ d ∷ ds) a b n e f =
    ap (λ (a : Datum). if form_says (form a) (codes "syntax-rules") then with_parts x (forms_of ds) (parts_of (form b)) else None) e
    ∙ ap (λ (b : Datum). if form_says (form c) (codes "syntax-rules") then with_parts x (forms_of ds) (parts_of (form b)) else None) f

rules_is : (x : List ℕ) (d : Form) (ds : List Datum) (a b : Datum) → Some (forms_of ds) ≡ parts_of d → 2 ≤ length ds → a ≡ get_or ds 0 a → b ≡ get_or ds 1 b
    → (if form_says (form a) (codes "syntax-rules") then with_parts x (forms_of (drop 2 ds)) (parts_of (form b)) else None) ≡ rules_for x d
rules_is x d ds a b p n e f = rules_from_two x ds a b n e f ∙ ap (rules_from x) p

no_rules_if : (s t : Bool) (o : Option Macro) → s ≡ t → t ≡ false → None ≡ (if s then o else None)
no_rules_if s t o e f = rw (e ∙ f) refl

another_word_from : (x : List ℕ) (ds : List Datum) (a : Datum) → 2 ≤ length ds → a ≡ get_or ds 0 a → form_says (form a) (codes "syntax-rules") ≡ false → None ≡ rules_from x (Some (forms_of ds))
another_word_from x [] a n e s = absurd (omega arith)
another_word_from x (c ∷ []) a n e s = absurd (omega arith)
another_word_from x (c ∷ d ∷ ds) a n e s =
    no_rules_if (form_says (form c) (codes "syntax-rules")) (form_says (form a) (codes "syntax-rules")) (with_parts x (forms_of ds) (parts_of (form d)))
    (ap (λ (a : Datum). form_says (form a) (codes "syntax-rules")) (sym e)) s

pub another_word : (x : List ℕ) (d : Form) (ds : List Datum) (a : Datum) → Some (forms_of ds) ≡ parts_of d → 2 ≤ length ds → a ≡ get_or ds 0 a
    → form_says (form a) (codes "syntax-rules") ≡ false → None ≡ rules_for x d
another_word x d ds a p n e s = another_word_from x ds a n e s ∙ ap (rules_from x) p

if_true : (s : Bool) (o : Option Macro) → s ≡ true → o ≡ (if s then o else None)
if_true s o e = rw e refl

rules_with : (x : List ℕ) (d : Form) (ds : List Datum) (a b : Datum) → Some (forms_of ds) ≡ parts_of d → 2 ≤ length ds → a ≡ get_or ds 0 a → b ≡ get_or ds 1 b
    → form_says (form a) (codes "syntax-rules") ≡ true → with_parts x (forms_of (drop 2 ds)) (parts_of (form b)) ≡ rules_for x d
rules_with x d ds a b p n e f s =
    if_true (form_says (form a) (codes "syntax-rules")) (with_parts x (forms_of (drop 2 ds)) (parts_of (form b))) s ∙ rules_is x d ds a b p n e f

-- `&ds[2..]`
pub rest_is : (i : ℕ) (ds : List Datum) → take (length ds - i) (drop i ds) ≡ drop i ds
rest_is i ds = take_all (length ds - i) (drop i ds) (omega (arith, length-drop i ds))

-- what is read of the literals and the rules behind them
pub listed_is : (x : List ℕ) (d : Form) (ds words : List Datum) (a b : Datum) → Some (forms_of ds) ≡ parts_of d → 2 ≤ length ds → a ≡ get_or ds 0 a → b ≡ get_or ds 1 b
    → form_says (form a) (codes "syntax-rules") ≡ true → Some (forms_of words) ≡ parts_of (form b)
    → with_literals x (forms_of (take (length ds - 2) (drop 2 ds))) (literals_of [] (forms_of words)) ≡ rules_for x d
listed_is x d ds words a b p n e f s w =
    ap (λ (ds : List Datum). with_literals x (forms_of ds) (literals_of [] (forms_of words))) (rest_is 2 ds)
    ∙ ap (with_parts x (forms_of (drop 2 ds))) w ∙ rules_with x d ds a b p n e f s

pub same_macro : (r : Result (Option Rules) OutOfMemory) (m n : Option Macro) → m ≡ n → IfOk r (λ o. macro_if o ≡ m) → IfOk r (λ o. macro_if o ≡ n)
same_macro r m n e h = subst (λ (n : Option Macro). IfOk r (λ o. macro_if o ≡ n)) e h

-- A rule -------------------------------------------------------------------------------------

no_rule_from : (literals : List (List ℕ)) (ds : List Datum) → length ds ≢ 2 → None ≡ rule_from literals (Some (forms_of ds))
no_rule_from literals [] n = refl
no_rule_from literals (a ∷ []) n = refl
no_rule_from literals (a ∷ b ∷ []) n = absurd (n (omega arith))
no_rule_from literals (a ∷ b ∷ c ∷ ds) n = refl

pub no_rule : (literals : List (List ℕ)) (d : Form) (ds : List Datum) → Some (forms_of ds) ≡ parts_of d → length ds ≢ 2 → None ≡ rule_of literals d
no_rule literals d ds p n = no_rule_from literals ds n ∙ ap (rule_from literals) p

rule_from_two : (literals : List (List ℕ)) (ds : List Datum) (a b : Datum) → length ds ≡ 2 → a ≡ get_or ds 0 a → b ≡ get_or ds 1 b → rule_with literals (parts_of (form a)) (form b) ≡ rule_from literals (Some (forms_of ds))
rule_from_two literals [] a b n e f = absurd (omega arith)
rule_from_two literals (c ∷ []) a b n e f = absurd (omega arith)
rule_from_two literals (c ∷ d ∷ []) a b n e f = ap (λ (a : Datum). rule_with literals (parts_of (form a)) (form b)) e ∙ ap (λ (b : Datum). rule_with literals (parts_of (form c)) (form b)) f
rule_from_two literals (c ∷ d ∷ k ∷ ds) a b n e f = absurd (omega arith)

pub rule_is : (literals : List (List ℕ)) (d : Form) (ds : List Datum) (a b : Datum) → Some (forms_of ds) ≡ parts_of d → length ds ≡ 2 → a ≡ get_or ds 0 a → b ≡ get_or ds 1 b
    → rule_with literals (parts_of (form a)) (form b) ≡ rule_of literals d
rule_is literals d ds a b p n e f = rule_from_two literals ds a b n e f ∙ ap (rule_from literals) p

pub empty_pattern : (literals : List (List ℕ)) (ds : List Datum) (p t : Form) → Some (forms_of ds) ≡ parts_of p → ds ≡ [] → None ≡ rule_with literals (parts_of p) t
empty_pattern literals ds p t e f = ap (λ (ds : List Datum). rule_with literals (Some (forms_of ds)) t) (sym f) ∙ ap (λ (o : Option Forms). rule_with literals o t) e

pub pattern_with : (literals : List (List ℕ)) (ds : List Datum) (p t : Form) → Some (forms_of ds) ≡ parts_of p → 1 ≤ length ds
    → with_pattern (names_in literals (forms_of (drop 1 ds))) (paths_in literals [] 1 (forms_of (drop 1 ds))) t (patterns_of literals (forms_of (drop 1 ds))) ≡ rule_with literals (parts_of p) t
pattern_with literals [] p t e n = absurd (omega arith)
pattern_with literals (a ∷ ds) p t e n = ap (λ (o : Option Forms). rule_with literals o t) e
