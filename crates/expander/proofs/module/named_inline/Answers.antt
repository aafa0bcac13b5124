use Rattle.std.proofs.Common.{sym, ◌∙◌}
use Rattle.expansion_steps.proofs.Decisions.{empty_is, not_empty}
use Rattle.expander.proofs.TopDefines.{names_missing, body_missing, name_missing, named_made}
use Rattle.expander.proofs.module.named_inline.Goals as goal

pub returns-then-is_empty : goal.returns-then-is_empty
returns-then-is_empty c p = names_missing p c.args.at c.args.names c.args.body (empty_is c.is_empty.result c.args.names c.if-is_empty.true c.is_empty.ensures)

pub returns-then-is_empty-2 : goal.returns-then-is_empty-2
returns-then-is_empty-2 c p = body_missing p c.args.at c.args.names c.args.body (empty_is c.is_empty-2.result c.args.body c.if-is_empty-2.true c.is_empty-2.ensures)

pub returns-in_default : goal.returns-in_default
returns-in_default c p =
    name_missing p c.args.at c.args.names c.remove-symbol.result c.remove-symbol.new.self c.remove-symbol.ensures.item c.remove-symbol.ensures.rest c.args.body
    (not_empty c.is_empty-2.result c.args.body c.if-is_empty-2.false c.is_empty-2.ensures) (sym c.in_default.is ∙ c.in_ok-binder.ensures)

pub returns : goal.returns
returns c p =
    named_made p c.args.at c.args.names c.remove-symbol.result c.remove-symbol.new.self c.remove-symbol.ensures.item c.remove-symbol.ensures.rest c.args.body c.push.new.self c.in-Some.binder
    (not_empty c.is_empty-2.result c.args.body c.if-is_empty-2.false c.is_empty-2.ensures) (sym c.in-Some.is ∙ c.in_ok-binder.ensures) ((c.in_ok-push.ensures {u = tt}).ok)
