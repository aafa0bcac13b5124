-- Worked rows, by computation: a source, and its core forms or what refuses it. A mark stands behind its name: `x~1` comes from the first expansion, and `t^1` is the first new name.
use Rattle.std.proofs.Common.{◌≡◌, [], ◌∷◌, refl}
use Rattle.std.specs.Prelude.{codes}
use Rattle.core_forms.proofs.Runs.{expanded}

-- Hygiene ------------------------------------------------------------------------------

swap_keeps_names_apart : expanded (codes "(define-syntax swap! (syntax-rules () ((_ a b) (let ((tmp a)) (set! a b) (set! b tmp))))) (let ((tmp 1) (x 2)) (swap! tmp x) x)")
    ≡ codes "(define-syntax swap!)" ∷ codes "(let ((tmp 1) (x 2)) (begin (let ((tmp~1 tmp)) (begin (set! tmp x) (set! x tmp~1))) x))" ∷ []
swap_keeps_names_apart = refl

or_of_a_macro : expanded (codes "(define-syntax my-or (syntax-rules () ((_) #f) ((_ e) e) ((_ e f ...) (let ((t e)) (if t t (my-or f ...)))))) (let ((t 5)) (my-or #f t))")
    ≡ codes "(define-syntax my-or)" ∷ codes "(let ((t 5)) (let ((t~1 #f)) (if t~1 t~1 t)))" ∷ []
or_of_a_macro = refl

new_names_are_apart : expanded (codes "(let ((t 5)) (or #f (or t 1)))")
    ≡ codes "(let ((t 5)) (let ((t^1 #f)) (if t^1 t^1 (let ((t^2 t)) (if t^2 t^2 1)))))" ∷ []
new_names_are_apart = refl

right_sides_are_core : expanded (codes "(define-syntax if (syntax-rules () ((_ a ...) (list a ...)))) (if 1 2) (when 1 2)")
    ≡ codes "(define-syntax if)" ∷ codes "(list~1 1 2)" ∷ codes "(if 1 (begin 2))" ∷ []
right_sides_are_core = refl

a_local_name_hides_a_macro : expanded (codes "(define-syntax swap! (syntax-rules () ((_ a b) (let ((tmp a)) (set! a b) (set! b tmp))))) (lambda (swap!) (swap! 1 2))")
    ≡ codes "(define-syntax swap!)" ∷ codes "(lambda (swap!) (swap! 1 2))" ∷ []
a_local_name_hides_a_macro = refl

a_local_name_hides_a_special_form : expanded (codes "(let ((if f)) (if 1) (when 2 3))")
    ≡ codes "(let ((if f)) (begin (if 1) (if 2 (begin 3))))" ∷ []
a_local_name_hides_a_special_form = refl

another_mark_hides_nothing : expanded (codes "(define-syntax m (syntax-rules () ((_ e) (let ((if 1)) e)))) (m (if 1 2))")
    ≡ codes "(define-syntax m)" ∷ codes "(let ((if~1 1)) (if 1 2))" ∷ []
another_mark_hides_nothing = refl

of_one_name_the_first_counts : expanded (codes "(m) (define-syntax m (syntax-rules () ((_) 1))) (define-syntax m (syntax-rules () ((_) 2)))")
    ≡ codes "1" ∷ codes "(define-syntax m)" ∷ codes "(define-syntax m)" ∷ []
of_one_name_the_first_counts = refl

the_first_counts_also_of_what_macros_make : expanded (codes "(define-syntax make (syntax-rules () ((_ n v) (define-syntax n (syntax-rules () ((_) v)))))) (make one 1) (make one 2) (one)")
    ≡ codes "(define-syntax make)" ∷ codes "(define-syntax one)" ∷ codes "(define-syntax one)" ∷ codes "1" ∷ []
the_first_counts_also_of_what_macros_make = refl

what_is_written_counts_before_what_macros_make : expanded (codes "(define-syntax make (syntax-rules () ((_ n v) (define-syntax n (syntax-rules () ((_) v)))))) (make one 1) (one) (define-syntax one (syntax-rules () ((_) 2)))")
    ≡ codes "(define-syntax make)" ∷ codes "(define-syntax one)" ∷ codes "2" ∷ codes "(define-syntax one)" ∷ []
what_is_written_counts_before_what_macros_make = refl

quoted_symbols_keep_marks_of_their_own : expanded (codes "(define-syntax q (syntax-rules () ((_ a) '(a b)))) (q c)")
    ≡ codes "(define-syntax q)" ∷ codes "'(c b~1)" ∷ []
quoted_symbols_keep_marks_of_their_own = refl

ellipses_in_two_rows : expanded (codes "(define-syntax my-let (syntax-rules () ((_ ((x e) ...) b ...) ((lambda (x ...) b ...) e ...)))) (my-let ((a 1) (b 2)) (f a) b)")
    ≡ codes "(define-syntax my-let)" ∷ codes "((lambda (a b) (begin (f a) b)) 1 2)" ∷ []
ellipses_in_two_rows = refl

literals_match_whatever_their_mark : expanded (codes "(define-syntax k (syntax-rules (to) ((_ a to b) (f a b)) ((_ a b c) 0))) (define-syntax h (syntax-rules () ((_ x) (k x to 1)))) (h 2) (k 1 2 3)")
    ≡ codes "(define-syntax k)" ∷ codes "(define-syntax h)" ∷ codes "(f~2 2 1)" ∷ codes "0" ∷ []
literals_match_whatever_their_mark = refl

-- Bodies -------------------------------------------------------------------------------

definitions_are_lets : expanded (codes "(lambda (a) (define x 1) (define y::long x) (f y) (g y))")
    ≡ codes "(lambda (a) (let ((x 1)) (let ((y::long x)) (begin (f y) (g y)))))" ∷ []
definitions_are_lets = refl

neighbours_are_one_letrec : expanded (codes "(lambda () (define (f x) (g x)) (define g (lambda (y::long) (f y))) (f 1))")
    ≡ codes "(lambda () (letrec ((f (lambda (x) (g x))) (g (lambda (y::long) (f y)))) (f 1)))" ∷ []
neighbours_are_one_letrec = refl

a_variable_parts_two_groups : expanded (codes "(lambda () (define (f) 1) (define x (f)) (define (g) x) (g))")
    ≡ codes "(lambda () (letrec ((f (lambda () 1))) (let ((x (f))) (letrec ((g (lambda () x))) (g)))))" ∷ []
a_variable_parts_two_groups = refl

expressions_before_a_definition : expanded (codes "(lambda () (f 1) (begin (g 2) (define x 3) (h x)) x)")
    ≡ codes "(lambda () (begin (f 1) (g 2) (let ((x 3)) (begin (h x) x))))" ∷ []
expressions_before_a_definition = refl

begin_is_spliced_in_a_group : expanded (codes "(lambda () (define (f) 1) (begin (define (g) 2) (begin (define (h) 3))) (f))")
    ≡ codes "(lambda () (letrec ((f (lambda () 1)) (g (lambda () 2)) (h (lambda () 3))) (f)))" ∷ []
begin_is_spliced_in_a_group = refl

a_definition_from_a_macro : expanded (codes "(define-syntax def (syntax-rules () ((_ x e) (define x e)))) (lambda () (def a 1) (def f (lambda () a)) (def g (lambda () f)) (g))")
    ≡ codes "(define-syntax def)" ∷ codes "(lambda () (let ((a 1)) (letrec ((f (lambda () a)) (g (lambda () f))) (g))))" ∷ []
a_definition_from_a_macro = refl

a_value_that_becomes_a_lambda : expanded (codes "(define-syntax fn (syntax-rules () ((_ e) (lambda () e)))) (lambda () (define f (fn 1)) (define g (fn 2)) (f))")
    ≡ codes "(define-syntax fn)" ∷ codes "(lambda () (letrec ((f (lambda () 1)) (g (lambda () 2))) (f)))" ∷ []
a_value_that_becomes_a_lambda = refl

a_marked_definition : expanded (codes "(define-syntax def (syntax-rules () ((_ e b) (begin (define x e) (f x b))))) (lambda (x) (def 1 x))")
    ≡ codes "(define-syntax def)" ∷ codes "(lambda (x) (let ((x~1 1)) (f~1 x~1 x)))" ∷ []
a_marked_definition = refl

a_definition_hides_a_macro : expanded (codes "(define-syntax swap! (syntax-rules () ((_ a b) (let ((tmp a)) (set! a b) (set! b tmp))))) (lambda (a b) (swap! a b) (define swap! f) (swap! a b))")
    ≡ codes "(define-syntax swap!)" ∷ codes "(lambda (a b) (begin (let ((tmp~1 a)) (begin (set! a b) (set! b tmp~1))) (let ((swap! f)) (swap! a b))))" ∷ []
a_definition_hides_a_macro = refl

a_function_hides_a_macro_for_its_neighbours : expanded (codes "(define-syntax m (syntax-rules () ((_ x) (define (x) 1)))) (lambda () (m f) (define (m x) (m f)) (m g))")
    ≡ codes "(define-syntax m)" ∷ codes "(lambda () (letrec ((f (lambda () 1)) (m (lambda (x) (m f)))) (m g)))" ∷ []
a_function_hides_a_macro_for_its_neighbours = refl

a_body_of_one_is_that_form : expanded (codes "(lambda () (begin (begin (f))))")
    ≡ codes "(lambda () (f))" ∷ []
a_body_of_one_is_that_form = refl

-- Core and derived forms ---------------------------------------------------------------

let_star_is_nested : expanded (codes "(let* ((x 1) (y::long x)) (f y))")
    ≡ codes "(let ((x 1)) (let ((y::long x)) (let () (f y))))" ∷ []
let_star_is_nested = refl

let_star_of_none : expanded (codes "(let* () 1 2)")
    ≡ codes "(let () (begin 1 2))" ∷ []
let_star_of_none = refl

a_named_let : expanded (codes "(let loop ((i 0) (s 1)) (if i s (loop s i)))")
    ≡ codes "(let ((t^1 0) (t^2 1)) (letrec ((loop (lambda (i s) (if i s (loop s i))))) (loop t^1 t^2)))" ∷ []
a_named_let = refl

cond_with_arrow : expanded (codes "(cond ((f 1) => g) ((h)) ((k) 1 2) (else 3))")
    ≡ codes "(let ((t^1 (f 1))) (if t^1 (g t^1) (let ((t^2 (h))) (if t^2 t^2 (if (k) (begin 1 2) (begin 3))))))" ∷ []
cond_with_arrow = refl

cond_without_else : expanded (codes "(cond)")
    ≡ codes "#unspecified" ∷ []
cond_without_else = refl

case_by_eqv : expanded (codes "(define (f eqv?) (case eqv? ((1 a) 'one) ((()) 2) (() 3) (else 4)))")
    ≡ codes "(define f (lambda (eqv?) (let ((t^1 eqv?)) (if (let ((t^2 (%eqv? t^1 '1))) (if t^2 t^2 (%eqv? t^1 'a))) (begin 'one) (if (%eqv? t^1 '()) (begin 2) (if #f (begin 3) (begin 4)))))))" ∷ []
case_by_eqv = refl

and_or : expanded (codes "(and) (and 1) (and 1 2 3) (or) (or (f))")
    ≡ codes "#t" ∷ codes "1" ∷ codes "(if 1 (if 2 3 #f) #f)" ∷ codes "#f" ∷ codes "(f)" ∷ []
and_or = refl

when_unless : expanded (codes "(when 1 2 3) (unless 1 2)")
    ≡ codes "(if 1 (begin 2 3))" ∷ codes "(if 1 #unspecified (begin 2))" ∷ []
when_unless = refl

do_is_a_loop : expanded (codes "(do ((i 0 (f i)) (x::long 1)) ((g i) x) (h i))")
    ≡ codes "(let ((t^2 0) (t^3 1)) (letrec ((t^1 (lambda (i x::long) (if (g i) (begin x) (begin (h i) (t^1 (f i) x)))))) (t^1 t^2 t^3)))" ∷ []
do_is_a_loop = refl

do_without_results : expanded (codes "(do () (#t))")
    ≡ codes "(let () (letrec ((t^1 (lambda () (if #t #unspecified (begin (t^1)))))) (t^1)))" ∷ []
do_without_results = refl

letrec_of_macro_uses : expanded (codes "(define-syntax fn (syntax-rules () ((_ e) (lambda () e)))) (letrec ((f (fn (g))) (g (lambda () (f)))) (f))")
    ≡ codes "(define-syntax fn)" ∷ codes "(letrec ((f (lambda () (g))) (g (lambda () (f)))) (f))" ∷ []
letrec_of_macro_uses = refl

exits_and_protection : expanded (codes "(bind-exit (k) (unwind-protect (k 1) (f) (g)))")
    ≡ codes "(bind-exit (k) (unwind-protect (k 1) (f) (g)))" ∷ []
exits_and_protection = refl

constants : expanded (codes "'(a . b) '() #t")
    ≡ codes "'(a . b)" ∷ codes "'()" ∷ codes "#t" ∷ []
constants = refl

-- Top level ----------------------------------------------------------------------------

spliced_at_top_level : expanded (codes "(begin (define x 1) (begin) (begin (define (f y::long) x) (f x)))")
    ≡ codes "(define x 1)" ∷ codes "(define f (lambda (y::long) x))" ∷ codes "(f x)" ∷ []
spliced_at_top_level = refl

a_definition_of_a_macro : expanded (codes "(define-syntax def (syntax-rules () ((_ n v) (define n v)))) (def y::long (lambda () 1))")
    ≡ codes "(define-syntax def)" ∷ codes "(define y::long (lambda () 1))" ∷ []
a_definition_of_a_macro = refl

a_macro_from_a_macro : expanded (codes "(define-syntax make (syntax-rules () ((_ n v) (define-syntax n (syntax-rules () ((_) v)))))) (make one 1) (one)")
    ≡ codes "(define-syntax make)" ∷ codes "(define-syntax one)" ∷ codes "1" ∷ []
a_macro_from_a_macro = refl

a_macro_from_a_macro_uses_others : expanded (codes "(define-syntax make (syntax-rules () ((_ n) (begin (define-syntax n (syntax-rules () ((_ v) (define v 1)))) (n x))))) (make def) (def y)")
    ≡ codes "(define-syntax make)" ∷ codes "(define-syntax def)" ∷ codes "(define x 1)" ∷ codes "(define y 1)" ∷ []
a_macro_from_a_macro_uses_others = refl

definitions_from_one_use : expanded (codes "(define-syntax two (syntax-rules () ((_ a b e) (begin (define a e) (define (b x) a))))) (two p q (f 1))")
    ≡ codes "(define-syntax two)" ∷ codes "(define p (f 1))" ∷ codes "(define q (lambda (x~1) p))" ∷ []
definitions_from_one_use = refl

a_macro_in_a_begin_is_known_before : expanded (codes "(m) (begin (define x 1) (begin (define-syntax m (syntax-rules () ((_) 2)))))")
    ≡ codes "2" ∷ codes "(define x 1)" ∷ codes "(define-syntax m)" ∷ []
a_macro_in_a_begin_is_known_before = refl

a_macro_called_begin : expanded (codes "(define-syntax begin (syntax-rules () ((_ a ...) (f a ...)))) (begin 1 2)")
    ≡ codes "(define-syntax begin)" ∷ codes "(f~1 1 2)" ∷ []
a_macro_called_begin = refl

a_begin_of_none_at_top_level : expanded (codes "(begin) 1")
    ≡ codes "1" ∷ []
a_begin_of_none_at_top_level = refl

a_begin_that_a_macro_makes_is_spliced : expanded (codes "(define-syntax all (syntax-rules () ((_ e ...) (begin e ...)))) (all) (all 1 (define x 2))")
    ≡ codes "(define-syntax all)" ∷ codes "1" ∷ codes "(define x 2)" ∷ []
a_begin_that_a_macro_makes_is_spliced = refl

a_definition_of_a_function_of_a_type : expanded (codes "(define f::long (lambda (x) x)) (define (g::long x::long) x)")
    ≡ codes "(define f::long (lambda (x) x))" ∷ codes "(define g::long (lambda (x::long) x))" ∷ []
a_definition_of_a_function_of_a_type = refl

a_name_at_top_level_has_no_mark : expanded (codes "(define-syntax def (syntax-rules () ((_ v) (define x v)))) (def 1)")
    ≡ codes "(define-syntax def)" ∷ codes "(define x 1)" ∷ []
a_name_at_top_level_has_no_mark = refl

an_inline : expanded (codes "(define-inline (f::long x) (g x))")
    ≡ codes "(define-inline f::long (lambda (x) (g x)))" ∷ []
an_inline = refl

an_inline_from_a_macro : expanded (codes "(define-syntax fast (syntax-rules () ((_ n x e) (define-inline (n x) e)))) (fast f::long y (when y 1))")
    ≡ codes "(define-syntax fast)" ∷ codes "(define-inline f::long (lambda (y) (if y (begin 1))))" ∷ []
an_inline_from_a_macro = refl

-- Refusals -----------------------------------------------------------------------------

bad_rules_come_first : expanded (codes "(if)\n(define-syntax m (syntax-rules () ((_ x x) 1)))")
    ≡ codes "BadRules 2:1" ∷ []
bad_rules_come_first = refl

bad_rules_in_a_begin_come_first : expanded (codes "(if)\n(begin (define-syntax m (syntax-rules () ((_ ... x) 1))))")
    ≡ codes "BadRules 2:8" ∷ []
bad_rules_in_a_begin_come_first = refl

the_first_bad_rules : expanded (codes "(define-syntax m)\n(define-syntax n)")
    ≡ codes "BadRules 1:1" ∷ []
the_first_bad_rules = refl

bad_rules_from_a_macro_stand_at_its_use : expanded (codes "(define-syntax make (syntax-rules () ((_ n) (define-syntax n 1))))\n(f)\n(make m)")
    ≡ codes "BadRules 3:1" ∷ []
bad_rules_from_a_macro_stand_at_its_use = refl

a_form_before_bad_rules_from_a_macro : expanded (codes "(define-syntax make (syntax-rules () ((_ n) (define-syntax n 1))))\n(if)\n(make m)")
    ≡ codes "Form 2:1" ∷ []
a_form_before_bad_rules_from_a_macro = refl

no_rule : expanded (codes "(define-syntax one (syntax-rules () ((_ a) a)))\n(f (one 1 2))")
    ≡ codes "NoRule 2:4" ∷ []
no_rule = refl

no_rule_in_a_body : expanded (codes "(define-syntax one (syntax-rules () ((_ a) a)))\n(lambda ()\n (one)\n (if))")
    ≡ codes "NoRule 3:2" ∷ []
no_rule_in_a_body = refl

no_rule_where_rows_differ : expanded (codes "(define-syntax z (syntax-rules () ((_ (a ...) (b ...)) (f (g a b) ...))))\n(z (1 2) (3))")
    ≡ codes "NoRule 2:1" ∷ []
no_rule_where_rows_differ = refl

a_form_of_a_macro_stands_at_its_use : expanded (codes "(define-syntax m (syntax-rules () ((_) (if))))\n(f (m))")
    ≡ codes "Form 2:4" ∷ []
a_form_of_a_macro_stands_at_its_use = refl

the_outer_form_first : expanded (codes "(let ((x (if)) (x 2)) x)")
    ≡ codes "Form 1:1" ∷ []
the_outer_form_first = refl

from_left_to_right : expanded (codes "(f (g 1 (if)) (lambda))")
    ≡ codes "Form 1:9" ∷ []
from_left_to_right = refl

a_body_without_expression : expanded (codes "(lambda (x)\n  (f x) (define y (if)))")
    ≡ codes "Form 2:9" ∷ []
a_body_without_expression = refl

two_neighbours_of_one_name : expanded (codes "(lambda () (define (f) 1)\n (define (f) 2) (f))")
    ≡ codes "Form 2:2" ∷ []
two_neighbours_of_one_name = refl

a_second_neighbour_of_one_name_waits : expanded (codes "(lambda () (define (f) (if))\n (define (f) 2) (f))")
    ≡ codes "Form 1:24" ∷ []
a_second_neighbour_of_one_name_waits = refl

a_third_neighbour_of_one_name : expanded (codes "(lambda () (define (f) 1) (define (g) 2)\n (define f (lambda () 3)) (if))")
    ≡ codes "Form 2:2" ∷ []
a_third_neighbour_of_one_name = refl

two_functions_of_one_name_that_are_no_neighbours : expanded (codes "(lambda () (define (f) 1) (f) (define (f) 2) (f))")
    ≡ codes "(lambda () (letrec ((f (lambda () 1))) (begin (f) (letrec ((f (lambda () 2))) (f)))))" ∷ []
two_functions_of_one_name_that_are_no_neighbours = refl

neighbours_of_one_name_and_two_marks : expanded (codes "(define-syntax def (syntax-rules () ((_ n) (begin (define (n) 1) (define (f) 2))))) (lambda () (def f) (f))")
    ≡ codes "(define-syntax def)" ∷ codes "(lambda () (letrec ((f (lambda () 1)) (f~1 (lambda () 2))) (f)))" ∷ []
neighbours_of_one_name_and_two_marks = refl

a_breach_behind_a_group_waits : expanded (codes "(lambda () (define (f) (if))\n (define (g)) (f))")
    ≡ codes "Form 1:24" ∷ []
a_breach_behind_a_group_waits = refl

a_use_behind_a_group_waits : expanded (codes "(define-syntax one (syntax-rules () ((_ a) a)))\n(lambda () (define (f) (if)) (one) (f))")
    ≡ codes "Form 2:24" ∷ []
a_use_behind_a_group_waits = refl

a_definition_ends_no_body : expanded (codes "(lambda () (define (f) 1)\n (define (g) 2))")
    ≡ codes "Form 2:2" ∷ []
a_definition_ends_no_body = refl

a_special_word_is_not_defined : expanded (codes "(lambda () (define if 1) if)")
    ≡ codes "Form 1:12" ∷ []
a_special_word_is_not_defined = refl

letrec_wants_lambdas : expanded (codes "(f (letrec ((g 1)) g))")
    ≡ codes "Form 1:4" ∷ []
letrec_wants_lambdas = refl

types_not_on_a_named_let : expanded (codes "(let f::long ((x 1)) x)")
    ≡ codes "Form 1:1" ∷ []
types_not_on_a_named_let = refl

a_type_in_an_expression : expanded (codes "(f x::long)")
    ≡ codes "Form 1:4" ∷ []
a_type_in_an_expression = refl

a_type_that_is_none : expanded (codes "(lambda (x::int) x)")
    ≡ codes "Form 1:1" ∷ []
a_type_that_is_none = refl

case_of_a_bad_datum : expanded (codes "(case 1 ((1) 2) (((a)) 3))")
    ≡ codes "Form 1:1" ∷ []
case_of_a_bad_datum = refl

else_is_last : expanded (codes "(cond (else 1) (2 3))")
    ≡ codes "Form 1:1" ∷ []
else_is_last = refl

no_expression : expanded (codes "(f ())")
    ≡ codes "Form 1:4" ∷ []
no_expression = refl

an_inline_is_a_function : expanded (codes "(define-inline f 1)")
    ≡ codes "Form 1:1" ∷ []
an_inline_is_a_function = refl

an_inline_has_a_body : expanded (codes "(define-inline (f x))")
    ≡ codes "Form 1:1" ∷ []
an_inline_has_a_body = refl

no_definition_in_an_expression : expanded (codes "(f (define x 1))")
    ≡ codes "Form 1:4" ∷ []
no_definition_in_an_expression = refl

no_macro_in_a_body : expanded (codes "(lambda ()\n (define-syntax m (syntax-rules () ((_) 1))) 2)")
    ≡ codes "Form 2:2" ∷ []
no_macro_in_a_body = refl

no_word_of_a_special_form_is_defined : expanded (codes "1\n(define let 1)")
    ≡ codes "Form 2:1" ∷ []
no_word_of_a_special_form_is_defined = refl

no_type_in_an_assignment : expanded (codes "(lambda (x) (set! x::long 1))")
    ≡ codes "Form 1:13" ∷ []
no_type_in_an_assignment = refl

no_type_on_an_exit : expanded (codes "(bind-exit (k::obj) 1)")
    ≡ codes "Form 1:1" ∷ []
no_type_on_an_exit = refl

a_begin_of_none_in_a_body : expanded (codes "(lambda () 1\n (begin) 2)")
    ≡ codes "Form 2:2" ∷ []
a_begin_of_none_in_a_body = refl

parameters_are_distinct : expanded (codes "(lambda (x x::long) x)")
    ≡ codes "Form 1:1" ∷ []
parameters_are_distinct = refl

a_clause_of_cond_that_is_none : expanded (codes "(cond (1 2)\n (else))")
    ≡ codes "Form 1:1" ∷ []
a_clause_of_cond_that_is_none = refl
