use Rattle.std.proofs.Common.{sym, ◌∙◌}
use Rattle.derived_forms.proofs.RowSteps.{let_is_core, meant_as}
use Rattle.derived_forms.proofs.derived.let_row.Goals as goal

pub returns-then-not-begins_with_symbol : goal.returns-then-not-begins_with_symbol
returns-then-not-begins_with_symbol c = let_is_core c.args.n.now c.args.at c.args.forms (sym c.begins_with_symbol.ensures ∙ c.if-not-begins_with_symbol.true)

pub returns : goal.returns
returns c = meant_as _ c.args.at c.args.forms c.args.n.now c.named_let.new.n c.named_let.result c.meant.result c.meant.ensures
    (c.named_let.ensures (sym c.begins_with_symbol.ensures ∙ c.if-not-begins_with_symbol.false))
