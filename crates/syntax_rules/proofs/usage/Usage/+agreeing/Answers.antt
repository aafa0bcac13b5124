use Rattle.std.proofs.Common.{◌∙◌, ◌++◌, ◌∷◌, [], ap, arith}
use Rattle.scheme_data.specs.Forms.{form}
use Rattle.syntax_rules.specs.Filling.{agrees}
use Rattle.syntax_rules.specs.TreeViews.{the_template}
use Rattle.syntax_rules.proofs.Sizes.{row_disagrees}
use Rattle.syntax_rules.proofs.usage.Usage.+agreeing.Goals as goal

pub rows_agree-returns-then-not-branch : goal.rows_agree-returns-then-not-branch
rows_agree-returns-then-not-branch t c =
    row_disagrees (λ r. agrees c.args.self.now.paths.now (form c.args.self.now.call.now) (c.args.rows.now ++ r ∷ []) (the_template c.args.t.now)) c.args.times c.loop-row.row c.in_ok-agrees.field-0 (omega arith)
    (c.in_ok-agrees.ensures ∙ ap (λ rows. agrees c.args.self.now.paths.now (form c.args.self.now.call.now) rows (the_template c.args.t.now)) (c.as_slice.ensures ∙ c.in_ok-inner.ensures))
    c.if-not-branch.true
