use Rattle.std.proofs.Common.{◌∙◌}
use Rattle.session.proofs.Top.{named_long, named_done}
use Rattle.session.proofs.script.do_script.Goals as goal

pub returns-then-as_bytes-gt-LONGEST-clause-told : goal.returns-then-as_bytes-gt-LONGEST-clause-told
returns-then-as_bytes-gt-LONGEST-clause-told g c = named_long c.args.name.now c.in_ok-script.script c.as_bytes.result.now _ _ _ c.in_ok-script.ensures.told c.as_bytes.ensures c.in_ok-script.ensures.same c.if-as_bytes-gt-LONGEST.true

pub returns-clause-told : goal.returns-clause-told
returns-clause-told g c = named_done c.args.name.now c.in_ok-script.script c.as_bytes.result.now c.as_bytes-2.result.now c.as_slice.result.now _ _ _ _ _ _ c.in_ok-script.ensures.told c.as_bytes.ensures c.as_bytes-2.ensures c.in_ok-script.ensures.same c.if-as_bytes-gt-LONGEST.false (c.as_slice.ensures ∙ c.in_ok-lines.ensures) c.do_lines.ensures.told
