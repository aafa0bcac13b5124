use Rattle.std.proofs.Common.{arith}
use Rattle.syntax_rules.proofs.Sizes.{left_list, left_vector, left_dotted, none_left_dotted}
use Rattle.syntax_rules.proofs.filling.+counting.Goals as goal

pub without-returns-in-List : goal.without-returns-in-List
without-returns-in-List t c = rw c.in-List.is
    (left_list c.in-List.field-0 c.in-List.ds _ c.in_ok-left.left c.args.left c.without_all.result (omega (arith, c.in_ok-left.ensures)) c.as_slice.ensures c.without_all.ensures)

pub without-returns-in-Vector : goal.without-returns-in-Vector
without-returns-in-Vector t c = rw c.in-Vector.is
    (left_vector c.in-Vector.field-0 c.in-Vector.ds _ c.in_ok-left.left c.args.left c.without_all-in-Vector.result (omega (arith, c.in_ok-left.ensures)) c.as_slice-in-Vector.ensures c.without_all-in-Vector.ensures)

pub without-returns-in_err-without_all-in-Dotted : goal.without-returns-in_err-without_all-in-Dotted
without-returns-in_err-without_all-in-Dotted t c = rw (c.from_residual-in_err-without_all-in-Dotted.ensures, c.in-Dotted.is)
    (none_left_dotted c.in-Dotted.field-0 c.in-Dotted.ds _ c.in-Dotted.tail c.in_ok-left.left c.args.left (omega (arith, c.in_ok-left.ensures)) c.as_slice-in-Dotted.ensures c.in_err-without_all-in-Dotted.ensures)

pub without-returns-in_ok-without_all-in-Dotted : goal.without-returns-in_ok-without_all-in-Dotted
without-returns-in_ok-without_all-in-Dotted t c = rw c.in-Dotted.is
    (left_dotted c.in-Dotted.field-0 c.in-Dotted.ds _ c.in-Dotted.tail _ c.in_ok-left.left c.in_ok-without_all-in-Dotted.field-0 c.args.left c.without.result (omega (arith, c.in_ok-left.ensures))
    c.as_slice-in-Dotted.ensures c.get.ensures c.in_ok-without_all-in-Dotted.ensures c.without.ensures)
