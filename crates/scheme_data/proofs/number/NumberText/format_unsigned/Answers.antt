use Rattle.std.proofs.Common.{◌<◌, ◌^◌, ◌∙◌, sym, arith}
use Rattle.scheme_data.proofs.NumberTexts.{decimal_text-decimal}
use Rattle.scheme_data.proofs.number.NumberText.format_unsigned.Goals as goal

pub returns : goal.returns
returns c =
    let fits = c.ranges.n in
    let small : c.args.n < 2 ^ 64 = omega arith in
    c.as_bytes.ensures.value ∙ c.format.ensures.text ∙ sym (decimal_text-decimal c.args.n small)
