use Rattle.std.proofs.Common.{arith}
use Rattle.resolver.proofs.InterfaceTables.{ifaces_more, ifaces_all}
use Rattle.resolver.proofs.interfaces.Interfaces.new.Goals as goal

pub loop-i-preserved : goal.loop-i-preserved
loop-i-preserved c =
    ifaces_more c.args.ifaces.now c.loop-i.i c.index-ifaces-i.result c.loop-i.modules.entries c.insert.new.self.entries c.as_bytes.result _ _ c.loop-i-test.true c.loop-i.auto.i c.index-ifaces-i.is c.as_bytes.ensures c.as_slice.ensures
    c.in_ok-rows.ensures c.loop-i.invariant c.in_ok-insert.ensures.updates.0

-- where a later interface of the module is let go
pub loop-i-preserved-in_ok-insert : goal.loop-i-preserved-in_ok-insert
loop-i-preserved-in_ok-insert c =
    ifaces_more c.args.ifaces.now c.loop-i.i c.index-ifaces-i.result c.loop-i.modules.entries c.insert.new.self.entries c.as_bytes.result _ _ c.loop-i-test.true c.loop-i.auto.i c.index-ifaces-i.is c.as_bytes.ensures c.as_slice.ensures
    c.in_ok-rows.ensures c.loop-i.invariant c.in_ok-insert.ensures.updates.0

pub returns : goal.returns
returns c = ifaces_all c.args.ifaces.now c.loop-i.i c.loop-i.modules.entries (omega arith) c.loop-i.invariant
