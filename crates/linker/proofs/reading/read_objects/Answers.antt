use Rattle.std.proofs.Common.{refl, ◌+◌}
use Rattle.linker.proofs.Texts.{one_more, one_refused}
use Rattle.linker.proofs.reading.read_objects.Goals as goal

pub returns-in_default-clause-none : goal.returns-in_default-clause-none
returns-in_default-clause-none c =
    one_refused c.args.texts.now c.loop-text.text-index c.text-item.result c.as_bytes.result.now c.loop-text-test.true c.text-item.is c.as_bytes.ensures (rw c.in_default.is at c.in_ok-object.ensures.none)

pub loop-text-preserved : goal.loop-text-preserved
loop-text-preserved c =
    one_more c.args.texts.now c.loop-text.text-index (c.loop-text.text-index + 1) c.text-item.result c.as_bytes.result.now c.loop-text.objects.items c.push.new.self.items c.in-Some.object
    c.loop-text-test.true refl c.text-item.is c.as_bytes.ensures c.in_ok-push.ensures.items c.loop-text.invariant (rw c.in-Some.is at c.in_ok-object.ensures.some)
