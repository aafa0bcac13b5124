use Rattle.std.proofs.Common.{sym, ap, ◌∙◌, arith, length}
use Rattle.scheme_data.specs.TypedNames.{has_type}
use Rattle.core_forms.proofs.Rows.{made-as, set-other, set-name}
use Rattle.core_forms.proofs.core_rows.set.Goals as goal

pub returns-then-len-ne1 : goal.returns-then-len-ne1
returns-then-len-ne1 c = λ n. set-other n c.args.at c.args.forms c.pop.new.self c.in-Some-Sym.field-0 c.in-Some-Sym.field-0-0 c.in-Some-Sym.name c.in-Some-Sym.mark c.in-Some-Sym.ensures c.in-Some-Sym.field-0-is (λ e. c.if-len-ne1.true (c.len.ensures ∙ e))

pub returns : goal.returns
returns c = λ n. made-as _ _ c.node.result n (set-name n c.args.at c.args.forms c.pop.new.self c.in-Some-Sym.field-0 c.in-Some-Sym.field-0-0 c.in-Some-Sym.name _ c.in-Some-Sym.mark _ c.in-Some-Sym.ensures c.in-Some-Sym.field-0-is (sym c.len.ensures ∙ c.if-len-ne1.false)
    (ap has_type (sym c.as_bytes.ensures) ∙ sym c.if-has_type.ensures) c.in-Some-Sym.name-is c.in-Some-Sym.mark-is) (c.node.ensures n)

pub node-requires-clause-some : goal.node-requires-clause-some
node-requires-clause-some c = λ e. absurd (omega (arith, c.if-len-ne1.false, c.len.ensures, ap length e))
