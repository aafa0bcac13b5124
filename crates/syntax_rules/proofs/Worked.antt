-- Worked rows, by computation: rules and a use of them, and what it becomes, or nothing. A mark stands behind its name.
use Rattle.std.proofs.Common.{◌≡◌, ℕ, List, [], Option, Some, None, refl}
use Rattle.std.specs.Prelude.{codes}
use Rattle.scheme_data.specs.Forms.{Form, Forms, next, end, form_place}
use Rattle.syntax_rules.specs.Macros.{macro_of}
use Rattle.syntax_rules.specs.Trees.{Macro}
use Rattle.syntax_rules.specs.Uses.{used_once}
use Rattle.syntax_rules.proofs.Texts.{source, form_text}

abbrev texted : Option Form → List ℕ
texted None = codes "no rule"
texted (Some d) = form_text d

abbrev with_macro : Option Macro → Form → List ℕ
with_macro None d = codes "bad rules"
with_macro (Some k) d = texted (used_once k (form_place d) 7 d)

abbrev used_in : Forms → List ℕ
used_in (next rules (next use_form end)) = with_macro (macro_of rules) use_form
used_in _ = []

abbrev become : List ℕ → List ℕ
become bytes = used_in (source bytes)

new_symbols_are_marked : become (codes "(define-syntax swap! (syntax-rules () ((_ a b) (let ((tmp a)) (set! a b) (set! b tmp))))) (swap! x tmp)") ≡ codes "(let~7 ((tmp~7 x)) (set!~7 x tmp) (set!~7 tmp tmp~7))"
new_symbols_are_marked = refl

the_first_rule_that_matches : become (codes "(define-syntax m (syntax-rules () ((_) 0) ((_ a) (1 a)) ((_ a) (2 a)))) (m x)") ≡ codes "(1 x)"
the_first_rule_that_matches = refl

no_rule_matches : become (codes "(define-syntax m (syntax-rules () ((_) 0) ((_ a) (1 a)))) (m x y)") ≡ codes "no rule"
no_rule_matches = refl

rows_of_rows : become (codes "(define-syntax m (syntax-rules () ((_ (a b ...) ...) ((a ...) (b ... a) ...)))) (m (1 2 3) (4) (5 6))") ≡ codes "((1 4 5) (2 3 1) (4) (6 5))"
rows_of_rows = refl

two_lists_in_step : become (codes "(define-syntax m (syntax-rules () ((_ (a ...) b ...) ((a b) ...)))) (m (1 2) 3 4)") ≡ codes "((1 3) (2 4))"
two_lists_in_step = refl

lengths_that_differ : become (codes "(define-syntax m (syntax-rules () ((_ (a ...) b ...) ((a b) ...)) ((_ a ...) 1))) (m (1 2) 3)") ≡ codes "no rule"
lengths_that_differ = refl

a_literal : become (codes "(define-syntax m (syntax-rules (to) ((_ a to b) (a b)) ((_ a b c) 0))) (m 1 to 2)") ≡ codes "(1 2)"
a_literal = refl

another_word : become (codes "(define-syntax m (syntax-rules (to) ((_ a to b) (a b)) ((_ a b c) 0))) (m 1 from 2)") ≡ codes "0"
another_word = refl

dots_after_nothing : become (codes "(define-syntax m (syntax-rules () ((_ a ...) (... a)))) (m 1)") ≡ codes "bad rules"
dots_after_nothing = refl

too_few_dots : become (codes "(define-syntax m (syntax-rules () ((_ a ...) (a)))) (m 1)") ≡ codes "bad rules"
too_few_dots = refl

a_name_twice : become (codes "(define-syntax m (syntax-rules () ((_ a (a)) 1))) (m 1 (2))") ≡ codes "bad rules"
a_name_twice = refl
