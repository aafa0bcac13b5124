use Rattle.std.proofs.Common.{map, take, ◌≡◌, ◌++◌, ◌∷◌, [], rules}
use Rattle.c_machine.specs.Steps.{look}
use Rattle.c_machine.proofs.Operands.{reads_next, values_more}
use Rattle.c_machine.proofs.calling.push_values.Goals as goal

pub value-v-requires : goal.value-v-requires
value-v-requires c =
    let s = c.as_slice.ensures.value in
    let r = reads_next c.args.base c.args.slots.now.items c.loop-from.slots.items (map (look c.args.base c.args.slots.now.items) (take c.loop-from.from-index c.args.args.now)) c.args.args.now c.loop-from.from-index _ c.loop-from-test.true c.requires c.loop-from.invariant in
    rw s r

pub loop-from-preserved : goal.loop-from-preserved
loop-from-preserved c =
    let pushed : c.push.new.self.items ≡ c.loop-from.slots.items ++ c.value-v.result ∷ [] = search rules in
    values_more c.args.base c.args.slots.now.items c.loop-from.slots.items c.push.new.self.items c.args.args.now c.loop-from.from-index _ c.value-v.result c.loop-from-test.true c.requires c.loop-from.invariant (rw c.as_slice.ensures.value at c.value-v.ensures) pushed
