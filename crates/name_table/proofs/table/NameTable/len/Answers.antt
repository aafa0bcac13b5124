use Rattle.std.proofs.Common.{subst}
use Rattle.name_table.specs.Names.{AreDistinct}
use Rattle.name_table.proofs.Places.{distinct-places}
use Rattle.name_table.proofs.table.NameTable.len.Goals as goal

pub returns-clause-distinct : goal.returns-clause-distinct
returns-clause-distinct c = subst AreDistinct c.self.view_is (distinct-places c.self.inside.names.items c.self.invariant.distinct)
