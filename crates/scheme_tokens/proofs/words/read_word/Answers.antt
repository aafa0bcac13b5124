use Rattle.std.proofs.Common.{sym, ◌∙◌}
use Rattle.scheme_tokens.proofs.Fronts.{is_number, is_the_dot, is_name, is_bad}
use Rattle.scheme_tokens.proofs.words.read_word.Goals as goal

pub returns-in-Some : goal.returns-in-Some
returns-in-Some c = is_number c.args.text.now c.in-Some.word c.in-Some.ensures

pub returns-then-is_dot : goal.returns-then-is_dot
returns-then-is_dot c = is_the_dot c.args.text.now (sym c.in_default.is ∙ c.number.ensures) (sym c.is_dot.ensures ∙ c.if-is_dot.true)

pub returns-then-has_symbol_form : goal.returns-then-has_symbol_form
returns-then-has_symbol_form c =
    is_name c.args.text.now c.in_ok-from_bytes.field-0 (sym c.in_default.is ∙ c.number.ensures) (sym c.is_dot.ensures ∙ c.if-is_dot.false) (sym c.has_symbol_form.ensures ∙ c.if-has_symbol_form.true) c.in_ok-from_bytes.ensures

pub returns : goal.returns
returns c =
    is_bad c.args.text.now (sym c.in_default.is ∙ c.number.ensures) (sym c.is_dot.ensures ∙ c.if-is_dot.false) (sym c.has_symbol_form.ensures ∙ c.if-has_symbol_form.false)
