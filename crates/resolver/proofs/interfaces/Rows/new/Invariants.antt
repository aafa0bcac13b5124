use Rattle.std.proofs.Common.{drop}
use Rattle.resolver.proofs.InterfaceTables.{HasRows}
use Rattle.resolver.proofs.interfaces.Rows.new.Given as goal

abbrev pub invariant-loop-i : goal.invariant-loop-i
invariant-loop-i l = HasRows l.by_name.entries (drop l.i l.rows)
