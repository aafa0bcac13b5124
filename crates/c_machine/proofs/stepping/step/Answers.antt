use Rattle.std.proofs.Common.{subst, sym, slice_get}
use Rattle.c_machine.specs.declared.program.Instr.{Instr}
use Rattle.c_machine.specs.Steps.{Does, act, config_of}
use Rattle.c_machine.proofs.Calls.{called_does, called_writes_nothing}
use Rattle.c_machine.proofs.stepping.step.Goals as goal

pub returns-in-Call-clause-does : goal.returns-in-Call-clause-does
returns-in-Call-clause-does g c =
    let old = config_of c.args.regs.now c.args.stacks.now c.args.acc.now.value in
    let new = config_of c.call.new.regs c.call.new.stacks c.args.acc.now.value in
    let w = g.K.Sink.written c.args.out.now in
    let a = called_does (slice_get c.args.funs.now c.in-Call.fun) c.function_at-callee.result.now c.in-Call.to c.in-Call.fun c.in-Call.args old c.call.result new c.args.acc.now.end w c.function_at-callee.ensures c.call.ensures in
    subst (λ (i : Instr). Does (act i c.args.funs.now old) c.call.result new c.args.acc.now.end w w) (sym c.in-Call.is) a

pub returns-in-Call-clause-cause : goal.returns-in-Call-clause-cause
returns-in-Call-clause-cause g c e =
    let old = config_of c.args.regs.now c.args.stacks.now c.args.acc.now.value in
    let new = config_of c.call.new.regs c.call.new.stacks c.args.acc.now.value in
    absurd (called_writes_nothing c.function_at-callee.result.now c.in-Call.to c.in-Call.fun c.in-Call.args old c.call.result new c.call.ensures e)
