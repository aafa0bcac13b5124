use Rattle.std.proofs.Common.{◌≡◌, length, codes, refl, ◌∙◌, arith}
use Rattle.scheme_data.specs.Forms.{form, listed, end, next}
use Rattle.core_forms.specs.Table.{core}
use Rattle.core_forms.specs.Code.{data_of}
use Rattle.expansion_steps.proofs.Turns.{wrong-length, first-made}
use Rattle.expansion_steps.proofs.turning.let_first.Goals as goal

pub returns-then-len-ne2 : goal.returns-then-len-ne2
returns-then-len-ne2 c = λ n.
    let bs = next (core c.args.at (codes "let*") (next (listed c.args.at (data_of c.args.bindings)) (data_of c.args.forms))) end in
    wrong-length n c.args.at bs (form c.args.binding) c.in-Some.pair c.in-Some.ensures (λ e. c.if-len-ne2.true (c.len.ensures ∙ e))

pub returns : goal.returns
returns c = λ n.
    let bs = next (core c.args.at (codes "let*") (next (listed c.args.at (data_of c.args.bindings)) (data_of c.args.forms))) end in
    let two : length c.in-Some.pair ≡ 2 = omega arith in
    first-made n c.args.at bs (form c.args.binding) c.in-Some.pair c.pop.new.self c.in-Some-pop.value c.let_one.result c.in-Some.ensures two c.in-Some-pop.ensures (c.let_one.ensures n bs refl)
