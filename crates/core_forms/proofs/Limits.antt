-- Limits, each at its last value and one over, by single steps where so many lists may still stand and so much was counted.
use Rattle.std.proofs.Common.{◌≡◌, refl}
use Rattle.std.specs.Prelude.{codes}
use Rattle.core_forms.proofs.Runs.{stepped, top_stepped, counts}

no_room_for_a_call : stepped 0 (counts 0 0) (codes "(f)") ≡ codes "Depth"
no_room_for_a_call = refl

form_before_depth : stepped 0 (counts 0 0) (codes "(if)") ≡ codes "Form 1:1"
form_before_depth = refl

a_let_needs_three_lists : stepped 2 (counts 0 0) (codes "(let ((x 1)) x)") ≡ codes "Depth"
a_let_needs_three_lists = refl

three_lists_suffice : stepped 3 (counts 0 0) (codes "(let ((x 1)) x)") ≡ codes "moves"
three_lists_suffice = refl

a_row_needs_no_room : stepped 0 (counts 0 0) (codes "(or 1 2)") ≡ codes "moves"
a_row_needs_no_room = refl

expansions_are_used_up : stepped 1000 (counts 20000 0) (codes "(define-syntax one (syntax-rules () ((_ a) (f a)))) (one 1)") ≡ codes "Expansions"
expansions_are_used_up = refl

one_is_left : stepped 1000 (counts 19999 0) (codes "(define-syntax one (syntax-rules () ((_ a) (f a)))) (one 1)") ≡ codes "moves"
one_is_left = refl

no_rule_before_expansions : stepped 1000 (counts 20000 0) (codes "(define-syntax one (syntax-rules () ((_ a) (f a)))) (one)") ≡ codes "NoRule 1:53"
no_rule_before_expansions = refl

too_many_data : stepped 1000 (counts 0 999998) (codes "(define-syntax one (syntax-rules () ((_ a) (f a)))) (one 1)") ≡ codes "Filled"
too_many_data = refl

just_enough_data : stepped 1000 (counts 0 999997) (codes "(define-syntax one (syntax-rules () ((_ a) (f a)))) (one 1)") ≡ codes "moves"
just_enough_data = refl

a_lambda_needs_two_lists : stepped 1 (counts 0 0) (codes "(lambda (x) x)") ≡ codes "Depth"
a_lambda_needs_two_lists = refl

two_lists_suffice : stepped 2 (counts 0 0) (codes "(lambda (x) x)") ≡ codes "moves"
two_lists_suffice = refl

an_exit_needs_two_lists : stepped 1 (counts 0 0) (codes "(bind-exit (k) k)") ≡ codes "Depth"
an_exit_needs_two_lists = refl

a_quotation_needs_its_own : stepped 1 (counts 0 0) (codes "'(a)") ≡ codes "Depth"
a_quotation_needs_its_own = refl

two_lists_quote_a_list : stepped 2 (counts 0 0) (codes "'(a)") ≡ codes "moves"
two_lists_quote_a_list = refl

a_name_needs_no_room : stepped 0 (counts 0 0) (codes "x") ≡ codes "moves"
a_name_needs_no_room = refl

-- the result of a use has a nesting of its own, wherever it stands
a_result_needs_no_room : stepped 0 (counts 0 0) (codes "(define-syntax one (syntax-rules () ((_ a) (f (a))))) (one 1)") ≡ codes "moves"
a_result_needs_no_room = refl

-- what a definition defines stands in one list more than an expression
a_value_stands_in_a_list : top_stepped (counts 0 0) (codes "(define x (f))") ≡ codes "(define x _) in 1"
a_value_stands_in_a_list = refl

a_function_stands_for_its_lambda : top_stepped (counts 0 0) (codes "(define (f x) x)") ≡ codes "(define f _) in 0"
a_function_stands_for_its_lambda = refl

no_use_is_left_at_top_level : top_stepped (counts 20000 0) (codes "(define-syntax one (syntax-rules () ((_ a) (define a 1)))) (one x)") ≡ codes "Expansions"
no_use_is_left_at_top_level = refl

one_use_is_left_at_top_level : top_stepped (counts 19999 0) (codes "(define-syntax one (syntax-rules () ((_ a) (define a 1)))) (one x)") ≡ codes "moves"
one_use_is_left_at_top_level = refl
