use Rattle.std.proofs.Common.{◌∙◌, refl, sym, ap, arith, map, Some, None, ℕ, ◌+◌}
use Rattle.commands.specs.Commands.{parsed}
use Rattle.session.specs.declared.answer.Answer.TheVariants.{BadLine}
use Rattle.session.specs.Scripts.{answer_of}
use Rattle.session.proofs.Folding.{so_far_start, so_far_more, script_finished, script_bad, script_no_memory, script_halted, here_is, in_parsed, all_parsed, within}
use Rattle.session.proofs.script.do_lines.Goals as goal

pub loop-line-init : goal.loop-line-init
loop-line-init g c = record {
  count = refl;
  files_later = omega arith;
  out_later = omega arith;
  told = so_far_start (map parsed c.args.lines.now) _ _ _ c.new-ends.ensures;
}

pub returns-in-Err-clause-told : goal.returns-in-Err-clause-told
returns-in-Err-clause-told g c = script_no_memory (map parsed c.args.lines.now) _ _ c.loop-line.line-index _ _ c.loop-line.ends (within _ _ (in_parsed c.args.lines.now c.loop-line.line-index c.loop-line-test.true)) c.loop-line.invariant.told

pub returns-in-Ok-None-clause-told : goal.returns-in-Ok-None-clause-told
returns-in-Ok-None-clause-told g c =
    let place = here_is c.args.lines.now c.loop-line.line-index c.line-item.result c.as_bytes.result.now None c.loop-line-test.true c.line-item.is c.as_bytes.ensures (sym c.in-Ok-None.field-0-is ∙ c.in-Ok-None.ensures) in
    script_bad (map parsed c.args.lines.now) _ _ c.loop-line.line-index _ _ c.loop-line.ends _ (in_parsed c.args.lines.now c.loop-line.line-index c.loop-line-test.true) place (ap (λ (n : ℕ). BadLine (n + 1)) c.loop-line.invariant.count) c.loop-line.invariant.told

pub returns-in-Err-do_line-clause-told : goal.returns-in-Err-do_line-clause-told
returns-in-Err-do_line-clause-told g c =
    let place = here_is c.args.lines.now c.loop-line.line-index c.line-item.result c.as_bytes.result.now (Some c.in-Ok-Some.command) c.loop-line-test.true c.line-item.is c.as_bytes.ensures (rw c.in-Ok-Some.field-0-is at c.in-Ok-Some.ensures) in
    script_halted (map parsed c.args.lines.now) _ _ c.loop-line.line-index _ _ c.loop-line.ends _ _ c.do_line.new.ends c.in-Ok-Some.command c.in-Err-do_line.halt _ (in_parsed c.args.lines.now c.loop-line.line-index c.loop-line-test.true) place (ap (λ (n : ℕ). answer_of c.in-Err-do_line.halt (n + 1)) c.loop-line.invariant.count) c.loop-line.invariant.told c.in-Err-do_line.ensures.told

pub loop-line-preserved : goal.loop-line-preserved
loop-line-preserved g c =
    let place = here_is c.args.lines.now c.loop-line.line-index c.line-item.result c.as_bytes.result.now (Some c.in-Ok-Some.command) c.loop-line-test.true c.line-item.is c.as_bytes.ensures (rw c.in-Ok-Some.field-0-is at c.in-Ok-Some.ensures) in
    record {
      count = ap (λ (n : ℕ). n + 1) c.loop-line.invariant.count;
      files_later = omega (arith, c.loop-line.invariant.files_later, c.do_line.ensures.files_later);
      out_later = omega (arith, c.loop-line.invariant.out_later, c.do_line.ensures.out_later);
      told = so_far_more (map parsed c.args.lines.now) _ _ c.loop-line.line-index _ _ c.loop-line.ends _ _ c.do_line.new.ends c.in-Ok-Some.command place c.loop-line.invariant.told c.in-Ok.ensures.told;
    }

pub returns-clause-told : goal.returns-clause-told
returns-clause-told g c = script_finished (map parsed c.args.lines.now) _ _ c.loop-line.line-index _ _ c.loop-line.ends (all_parsed c.args.lines.now c.loop-line.line-index (omega (arith, c.loop-line.auto.line-index-end, c.loop-line-test.false))) c.loop-line.invariant.told
