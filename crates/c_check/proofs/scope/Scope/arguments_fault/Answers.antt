use Rattle.std.proofs.Common.{◌∙◌, ap, sym, nat_le, length, arith}
use Rattle.c_meaning.specs.declared.breach.BadCause.TheVariants.{Types}
use Rattle.c_meaning.specs.Breaches.{unless, argument_breaches}
use Rattle.c_check.specs.Firsts.{first}
use Rattle.c_check.specs.Scopes.{scope_of}
use Rattle.c_check.specs.Asked.{wants_in, asks_more}
use Rattle.c_check.proofs.Rest.{rest_at}
use Rattle.c_check.proofs.Arguments.{argument_wrong, argument_right, arguments_end}
use Rattle.c_check.proofs.scope.Scope.arguments_fault.Goals as goal

pub returns-then-is_some : goal.returns-then-is_some
returns-then-is_some c =
    argument_wrong (scope_of c.args.self.now) (wants_in c.args.asked.now) (asks_more c.args.asked.now) c.args.args.now c.loop-i.i c.loop-i.invariant c.index-args-i.result
    (rest_at c.args.args.now c.loop-i.i c.index-args-i.result c.loop-i-test.true c.index-args-i.is) c.argument_fault-fault.result
    (c.argument_fault-fault.ensures ∙ ap (λ w. first (argument_breaches (scope_of c.args.self.now) w c.index-args-i.result)) c.at.ensures)
    (sym c.is_some.ensures ∙ c.if-is_some.true)

pub loop-i-preserved : goal.loop-i-preserved
loop-i-preserved c =
    argument_right (scope_of c.args.self.now) (wants_in c.args.asked.now) (asks_more c.args.asked.now) c.args.args.now c.loop-i.i c.loop-i.invariant c.index-args-i.result
    (rest_at c.args.args.now c.loop-i.i c.index-args-i.result c.loop-i-test.true c.index-args-i.is) c.argument_fault-fault.result
    (c.argument_fault-fault.ensures ∙ ap (λ w. first (argument_breaches (scope_of c.args.self.now) w c.index-args-i.result)) c.at.ensures)
    (sym c.is_some.ensures ∙ c.if-is_some.false)

pub returns : goal.returns
returns c =
    c.unless.ensures
    ∙ ap (λ n. first (unless Types (nat_le n (length c.args.args.now)))) c.count.ensures
    ∙ arguments_end (scope_of c.args.self.now) (wants_in c.args.asked.now) (asks_more c.args.asked.now) c.args.args.now c.loop-i.i c.loop-i.invariant (omega arith)
