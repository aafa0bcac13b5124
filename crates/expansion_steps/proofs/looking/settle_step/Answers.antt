use Rattle.std.proofs.Common.{sym, subst}
use Rattle.core_forms.specs.Working.{open_of}
use Rattle.core_forms.specs.declared.work.Open.{Open}
use Rattle.expansion_steps.specs.Heads.{macros_of}
use Rattle.expansion_steps.specs.Decided.{StepAs}
use Rattle.expansion_steps.proofs.Decisions.{open_now}
use Rattle.expansion_steps.proofs.looking.settle_step.Goals as goal

pub returns-in-Row : goal.returns-in-Row
returns-in-Row c =
    subst (λ (o : Open). StepAs (macros_of c.args.ks.now) c.args.s.now c.args.n.now (open_of o) c.settle_row.result c.settle_row.new.n) (sym c.in-Row.is) (c.settle_row.ensures (macros_of c.args.ks.now) c.args.s.now)

pub returns-in_default : goal.returns-in_default
returns-in_default c = open_now (macros_of c.args.ks.now) c.args.s.now c.args.n.now c.args.value c.in_default.not-Datum c.in_default.not-Row c.in_default.not-LetStar
