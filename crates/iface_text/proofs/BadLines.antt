-- Worked rows: the first bad line of small texts, and an interface that is read.
use Rattle.std.proofs.Common.{◌≡◌, [], ◌∷◌, Ok, refl}
use Rattle.std.specs.Prelude.{codes}
use Rattle.iface_text.specs.Refusal.{FirstBad}
use Rattle.iface_text.specs.Lines.{untyped_row, module_line_name, row_of}
use Rattle.iface_text.specs.Reading.{answer_of, answer_to, step}
use Rattle.iface_text.specs.Rows.{exporting}
use Rattle.iface_text.proofs.Refusals.{bad_line}

whole_text : answer_of (codes "bigloo-interface 1\nmodule a\nfun f (obj) obj\nend\n") ≡ Ok (exporting (untyped_row (codes "f") 1 ∷ []))
unfolding answer_to step module_line_name row_of
whole_text = refl

cut_before_the_first_line : FirstBad (codes "") 1
unfolding answer_to step module_line_name row_of
cut_before_the_first_line = bad_line (codes "") 1 refl

cut_after_the_version : FirstBad (codes "bigloo-interface 1\n") 2
unfolding answer_to step module_line_name row_of
cut_after_the_version = bad_line (codes "bigloo-interface 1\n") 2 refl

cut_after_the_module : FirstBad (codes "bigloo-interface 1\nmodule a\n") 3
unfolding answer_to step module_line_name row_of
cut_after_the_module = bad_line (codes "bigloo-interface 1\nmodule a\n") 3 refl

cut_after_a_row : FirstBad (codes "bigloo-interface 1\nmodule a\nfun f (obj) obj\n") 4
unfolding answer_to step module_line_name row_of
cut_after_a_row = bad_line (codes "bigloo-interface 1\nmodule a\nfun f (obj) obj\n") 4 refl

cut_in_the_last_line : FirstBad (codes "bigloo-interface 1\nmodule a\nfun f (obj) obj\nend") 4
unfolding answer_to step module_line_name row_of
cut_in_the_last_line = bad_line (codes "bigloo-interface 1\nmodule a\nfun f (obj) obj\nend") 4 refl

line_after_end : FirstBad (codes "bigloo-interface 1\nmodule a\nend\n\n") 4
unfolding answer_to step module_line_name row_of
line_after_end = bad_line (codes "bigloo-interface 1\nmodule a\nend\n\n") 4 refl

bytes_after_end : FirstBad (codes "bigloo-interface 1\nmodule a\nend\nx") 4
unfolding answer_to step module_line_name row_of
bytes_after_end = bad_line (codes "bigloo-interface 1\nmodule a\nend\nx") 4 refl

blank_more_in_a_row : FirstBad (codes "bigloo-interface 1\nmodule a\nfun f (obj  obj) obj\nend\n") 3
unfolding answer_to step module_line_name row_of
blank_more_in_a_row = bad_line (codes "bigloo-interface 1\nmodule a\nfun f (obj  obj) obj\nend\n") 3 refl

blank_more_before_a_name : FirstBad (codes "bigloo-interface 1\nmodule  a\nend\n") 2
unfolding answer_to step module_line_name row_of
blank_more_before_a_name = bad_line (codes "bigloo-interface 1\nmodule  a\nend\n") 2 refl

two_rows_of_one_name : FirstBad (codes "bigloo-interface 1\nmodule a\nfun f () obj\nfun g () obj\nfun f (obj) obj\nend\n") 5
unfolding answer_to step module_line_name row_of
two_rows_of_one_name = bad_line (codes "bigloo-interface 1\nmodule a\nfun f () obj\nfun g () obj\nfun f (obj) obj\nend\n") 5 refl

another_version : FirstBad (codes "bigloo-interface 2\nmodule a\nend\n") 1
unfolding answer_to step module_line_name row_of
another_version = bad_line (codes "bigloo-interface 2\nmodule a\nend\n") 1 refl

typed_row : FirstBad (codes "bigloo-interface 1\nmodule a\nfun f (long) long\nend\n") 3
unfolding answer_to step module_line_name row_of
typed_row = bad_line (codes "bigloo-interface 1\nmodule a\nfun f (long) long\nend\n") 3 refl
