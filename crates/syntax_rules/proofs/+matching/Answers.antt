use Rattle.std.proofs.Common.{◌∙◌, arith}
use Rattle.syntax_rules.proofs.InStep.{no_data}
use Rattle.syntax_rules.proofs.Layers.{pattern-Any, pattern-Literal, pattern-Constant}
use Rattle.syntax_rules.proofs.Parts.{exactly_wrong, exactly_right, dots_few, dots_wrong, dots_right}
use Rattle.syntax_rules.proofs.+matching.Goals as goal

pub tree::Pattern::parts_match-returns-then-len-ds : goal.tree::Pattern::parts_match-returns-then-len-ds
tree::Pattern::parts_match-returns-then-len-ds t c = rw c.in-Exactly.is (exactly_wrong c.in-Exactly.ps c.args.ds.now (λ e. omega arith))

pub tree::Pattern::parts_match-returns-then-len-ds-2 : goal.tree::Pattern::parts_match-returns-then-len-ds-2
tree::Pattern::parts_match-returns-then-len-ds-2 t c = rw c.in-Dots.is (dots_few c.in-Dots.ps c.in-Dots.p c.args.ds.now (omega arith))

pub tree::Pattern::parts_match-returns-then-not-first_match : goal.tree::Pattern::parts_match-returns-then-not-first_match
tree::Pattern::parts_match-returns-then-not-first_match t c = rw c.in-Dots.is
    (dots_wrong c.in-Dots.ps _ c.in-Dots.p c.args.ds.now _ c.as_slice-in-Dots.ensures c.first_match-in-Dots.ensures c.if-not-first_match.true)

pub tree::Pattern::parts_match-returns-else-len-ds : goal.tree::Pattern::parts_match-returns-else-len-ds
tree::Pattern::parts_match-returns-else-len-ds t c = rw c.in-Exactly.is
    (exactly_right c.in-Exactly.ps _ c.args.ds.now c.first_match.result c.as_slice.ensures (omega arith) c.first_match.ensures)

pub tree::Pattern::parts_match-returns-else-not-first_match : goal.tree::Pattern::parts_match-returns-else-not-first_match
tree::Pattern::parts_match-returns-else-not-first_match t c = rw c.in-Dots.is
    (dots_right c.in-Dots.ps _ c.in-Dots.p _ c.args.ds.now _ _ c.each_matches.result c.as_slice-in-Dots.ensures c.get.ensures c.len-in-Dots-2.ensures c.first_match-in-Dots.ensures c.if-not-first_match.false c.each_matches.ensures)

pub tree::Pattern::parts_match-returns-in-Any : goal.tree::Pattern::parts_match-returns-in-Any
tree::Pattern::parts_match-returns-in-Any t c = rw c.in-Any.is (rw pattern-Any (c.is_empty.ensures ∙ no_data c.args.ds.now))

pub tree::Pattern::parts_match-returns-in-Literal : goal.tree::Pattern::parts_match-returns-in-Literal
tree::Pattern::parts_match-returns-in-Literal t c = rw c.in-Literal.is (rw (pattern-Literal c.in-Literal.field-0) (c.is_empty-in-Literal.ensures ∙ no_data c.args.ds.now))

pub tree::Pattern::parts_match-returns-in-Constant : goal.tree::Pattern::parts_match-returns-in-Constant
tree::Pattern::parts_match-returns-in-Constant t c = rw c.in-Constant.is (rw (pattern-Constant c.in-Constant.field-0) (c.is_empty-in-Constant.ensures ∙ no_data c.args.ds.now))
