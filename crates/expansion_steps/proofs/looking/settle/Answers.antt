use Rattle.std.proofs.Common.{Ok, Err, subst}
use Rattle.scheme_data.specs.Forms.{form}
use Rattle.core_forms.specs.Working.{open_of}
use Rattle.expansion_steps.specs.Heads.{macros_of}
use Rattle.expansion_steps.specs.Decided.{StepAs}
use Rattle.expansion_steps.specs.Steps.{Settles}
use Rattle.expansion_steps.specs.declared.looking.Step.{Step}
use Rattle.expansion_steps.proofs.Decisions.{settles_more, settles_on}
use Rattle.expansion_steps.proofs.looking.settle.Goals as goal

pub loop-init : goal.loop-init
loop-init c = Settles.here

pub returns-in-Ok-Done : goal.returns-in-Ok-Done
returns-in-Ok-Done c =
    settles_on (macros_of c.args.ks.now) c.args.s.now c.args.n.now c.loop.n c.settle_step.new.n (form c.args.datum) (open_of c.loop.value) (Ok c.in-Ok-Done.settled) c.loop.invariant
    (subst (λ (x : Step). StepAs (macros_of c.args.ks.now) c.args.s.now c.loop.n (open_of c.loop.value) (Ok x) c.settle_step.new.n) c.in-Ok-Done.field-0-is c.in-Ok-Done.ensures)

pub returns-in-Err : goal.returns-in-Err
returns-in-Err c =
    settles_on (macros_of c.args.ks.now) c.args.s.now c.args.n.now c.loop.n c.settle_step.new.n (form c.args.datum) (open_of c.loop.value) (Err c.in-Err.e) c.loop.invariant c.in-Err.ensures

pub loop-preserved : goal.loop-preserved
loop-preserved c =
    settles_more (macros_of c.args.ks.now) c.args.s.now c.loop.invariant
    (subst (λ (x : Step). StepAs (macros_of c.args.ks.now) c.args.s.now c.loop.n (open_of c.loop.value) (Ok x) c.settle_step.new.n) c.in-Ok-Again.field-0-is c.in-Ok-Again.ensures)
