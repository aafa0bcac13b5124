use Rattle.std.proofs.Common.{◌∙◌}
use Rattle.resolver.proofs.NamedParts.{takes_none, takes_so_many, takes_other}
use Rattle.resolver.proofs.scope.primitive.Goals as goal

pub returns-in_err-p : goal.returns-in_err-p
returns-in_err-p c = c.from_residual.ensures ∙ takes_none c.args.args _ c.in_err-p.ensures

pub returns-then-args-arity : goal.returns-then-args-arity
returns-then-args-arity c = takes_so_many c.args.args c.arity.result c.in_ok-p.p _ c.in_ok-p.ensures c.arity.ensures c.if-args-arity.true

pub returns-else-args-arity : goal.returns-else-args-arity
returns-else-args-arity c = takes_other c.args.args c.arity.result c.in_ok-p.p _ c.in_ok-p.ensures c.arity.ensures c.if-args-arity.false
