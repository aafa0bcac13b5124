use Rattle.std.proofs.Common.{◌∷◌, ◌++◌, codes, sym, ap, ◌∙◌}
use Rattle.std.proofs.lemmas.Bool.{ne_eqb}
use Rattle.c_tree.specs.Operations.{op_named}
use Rattle.c_words.specs.Kinds.{by_operation, fixed_kind}
use Rattle.c_words.proofs.FixedWords.{of_no_operation, of_nothing, of_rest}
use Rattle.c_words.proofs.fixed.fixed_kind.Goals as goal

pub returns-then-first-ne98-clause-kind : goal.returns-then-first-ne98-clause-kind
returns-then-first-ne98-clause-kind c =
    c.reserved_kind.ensures.kind ∙ of_no_operation c.args.first c.args.cursor.now.left (ne_eqb 98 c.args.first (λ e. c.if-first-ne98.true (sym e)))

pub returns-then-not-goes_over-clause-kind : goal.returns-then-not-goes_over-clause-kind
returns-then-not-goes_over-clause-kind c =
    let left = c.args.cursor.now.left in
    of_nothing left (sym c.goes_over.ensures.starts ∙ c.if-not-goes_over.true) ∙ ap (λ f. fixed_kind (f ∷ left)) (sym c.if-first-ne98.false)

pub returns-in-Some-clause-kind : goal.returns-in-Some-clause-kind
returns-in-Some-clause-kind c =
    let left = c.args.cursor.now.left in
    ap by_operation (c.in-Some.ensures.op ∙ ap (λ xs. op_named (codes "bgl_" ++ xs)) (c.goes_over.ensures.left c.if-not-goes_over.false))
    ∙ of_rest left (sym c.goes_over.ensures.starts ∙ c.if-not-goes_over.false)
    ∙ ap (λ f. fixed_kind (f ∷ left)) (sym c.if-first-ne98.false)

pub returns-in-None-clause-kind : goal.returns-in-None-clause-kind
returns-in-None-clause-kind c =
    let left = c.args.cursor.now.left in
    ap by_operation (c.in-None.ensures.op ∙ ap (λ xs. op_named (codes "bgl_" ++ xs)) (c.goes_over.ensures.left c.if-not-goes_over.false))
    ∙ of_rest left (sym c.goes_over.ensures.starts ∙ c.if-not-goes_over.false)
    ∙ ap (λ f. fixed_kind (f ∷ left)) (sym c.if-first-ne98.false)
