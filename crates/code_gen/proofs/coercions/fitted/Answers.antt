use Rattle.std.specs.Prelude.{IsTrue}
use Rattle.built_table.specs.Table.{is_parameter_type}
use Rattle.std.proofs.Common.{sym, subst, arith}
use Rattle.code_gen.proofs.Counts.{below_at, below_more}
use Rattle.code_gen.proofs.Fitting.{Fitting, fitting_none, fitting_typed, fitting_all, parameter_at, type_at}
use Rattle.code_gen.specs.Emission.{held_names, types_of}
use Rattle.code_gen.proofs.coercions.fitted.Goals as goal

pub loop-i-init : goal.loop-i-init
loop-i-init c = subst (λ made. Fitting c.args.e.now c.args.e.now (types_of c.args.wanted) c.args.held.now made 0) (sym c.new-made.ensures) (fitting_none c.args.e.now (types_of c.args.wanted) c.args.held.now)

pub fit-requires-clause-parameter : goal.fit-requires-clause-parameter
fit-requires-clause-parameter c =
    let is = type_at (types_of c.args.wanted) c.loop-i.i c.at.result c.at.ensures in
    subst (λ t. IsTrue (is_parameter_type t)) (sym is) (parameter_at (types_of c.args.wanted) c.loop-i.i c.at.result (omega arith) c.requires.parameters)

pub fit-requires-clause-below : goal.fit-requires-clause-below
fit-requires-clause-below c = below_at c.loop-i.e.next c.args.held.now c.loop-i.i _ c.loop-i-test.true
    (below_more c.args.e.now.next c.loop-i.e.next (held_names c.args.held.now) c.loop-i.invariant.emits.grows.later c.requires.below)

pub loop-i-preserved : goal.loop-i-preserved
loop-i-preserved c = fitting_typed c.args.e.now c.loop-i.e c.fit.new.e (types_of c.args.wanted) c.args.held.now c.loop-i.made c.loop-i.i c.in_ok-one.one c.at.result _
    c.requires.as_many c.loop-i-test.true c.loop-i.invariant c.at.ensures c.in_ok-one.ensures c.push.new.self (c.in_ok-push.ensures {u = tt}).ok

pub returns : goal.returns
returns c = fitting_all c.args.e.now c.loop-i.e (types_of c.args.wanted) c.args.held.now c.loop-i.made c.loop-i.i c.requires.as_many c.loop-i-test.false c.loop-i.invariant
