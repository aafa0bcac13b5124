use Rattle.std.proofs.Common.{[], sym, ap, ◌∙◌}
use Rattle.core_tree.specs.WellFormed.{are_ordered}
use Rattle.object_text.specs.Header.{are_new}
use Rattle.object_text.specs.Headers.{tree_of}
use Rattle.object_text.proofs.Objects.{no_header, not_ordered, not_distinct, begins, only_header}
use Rattle.object_text.proofs.header.read_header.Goals as goal

pub returns-in_default-clause-none : goal.returns-in_default-clause-none
returns-in_default-clause-none c = no_header c.args.bytes.now (rw c.in_default.is at c.in_ok-header.ensures.none)

pub returns-then-not-is_ordered-clause-none : goal.returns-then-not-is_ordered-clause-none
returns-then-not-is_ordered-clause-none c =
    let only = rw c.in-Some.is at c.in_ok-header.ensures.only in
    not_ordered c.args.bytes.now c.in-Some.header only (ap are_ordered (sym c.as_slice.ensures) ∙ sym c.if-not-is_ordered.ensures)

pub returns-then-not-branch-clause-none : goal.returns-then-not-branch-clause-none
returns-then-not-branch-clause-none c =
    let only = rw c.in-Some.is at c.in_ok-header.ensures.only in
    not_distinct c.args.bytes.now c.in-Some.header only (ap (are_new []) (sym c.as_slice-2.ensures) ∙ sym c.in_ok-are_distinct.ensures ∙ c.if-not-branch.true)

pub returns-clause-some : goal.returns-clause-some
returns-clause-some c =
    let some = rw c.in-Some.is at c.in_ok-header.ensures.some in
    begins c.args.bytes.now (tree_of c.in-Some.header []) c.in-Some.header.unit.now some
    (ap are_ordered (sym c.as_slice.ensures) ∙ sym c.if-not-is_ordered.ensures)
    (ap (are_new []) (sym c.as_slice-2.ensures) ∙ sym c.in_ok-are_distinct.ensures ∙ c.if-not-branch.false)

pub returns-clause-only : goal.returns-clause-only
returns-clause-only c = only_header c.args.bytes.now c.in-Some.header (rw c.in-Some.is at c.in_ok-header.ensures.only)
