use Rattle.std.proofs.Common.{map, drop}
use Rattle.iface_text.specs.Format.{iface_tree}
use Rattle.resolver.specs.UseTables.{ifaces_of, OfferSameRows}
use Rattle.resolver.proofs.interfaces.Interfaces.new.Given as goal

abbrev pub invariant-loop-i : goal.invariant-loop-i
invariant-loop-i l = OfferSameRows (ifaces_of l.modules.entries) (map iface_tree (drop l.i l.ifaces))
