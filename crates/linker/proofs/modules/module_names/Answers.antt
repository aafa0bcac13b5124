use Rattle.linker.proofs.Refused.{listed_twice, listed_more}
use Rattle.linker.proofs.modules.module_names.Goals as goal

pub returns-then-not-branch-clause-none : goal.returns-then-not-branch-clause-none
returns-then-not-branch-clause-none c =
    listed_twice c.args.objects.now c.loop-indexed.indexed-index c.indexed-item.result c.loop-indexed.names c.as_bytes.result.now c.in_ok-insert.field-0
    c.loop-indexed-test.true c.indexed-item.is c.loop-indexed.invariant.0 c.as_bytes.ensures c.in_ok-insert.ensures.added c.if-not-branch.true

pub loop-indexed-preserved : goal.loop-indexed-preserved
loop-indexed-preserved c =
    listed_more c.args.objects.now c.loop-indexed.indexed-index c.indexed-item.result c.loop-indexed.names c.insert.new.self c.as_bytes.result.now c.in_ok-insert.field-0
    c.loop-indexed-test.true c.indexed-item.is c.loop-indexed.invariant.0 c.loop-indexed.invariant.1 c.as_bytes.ensures c.in_ok-insert.ensures.added c.if-not-branch.false c.in_ok-insert.ensures.ok
