use Rattle.std.proofs.Common.{◌<◌, length, refl, arith}
use Rattle.iface_text.proofs.Bytes.{nowhere, cut_there, lacks_before}
use Rattle.iface_text.proofs.lines.cut_at.Goals as goal

pub returns-then-len-bytes-clause-none : goal.returns-then-len-bytes-clause-none
returns-then-len-bytes-clause-none c = nowhere c.args.byte c.len_before-len.result c.args.bytes.now c.len_before-len.ensures.value c.if-len-bytes.true

pub returns-clause-some : goal.returns-clause-some
returns-clause-some c =
    let within : c.len_before-len.result < length c.args.bytes.now = omega arith in
    cut_there c.args.byte c.len_before-len.result c.args.bytes.now _ _ c.len_before-len.ensures.value within refl refl

pub returns-clause-before : goal.returns-clause-before
returns-clause-before c = lacks_before c.args.byte c.len_before-len.result c.args.bytes.now _ c.len_before-len.ensures.value refl
