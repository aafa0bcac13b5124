use Rattle.std.proofs.Common.{◌∙◌}
use Rattle.base_io.proofs.Entries.{get-named}
use Rattle.base_io.proofs.table.Table.get.Goals as goal

pub returns : goal.returns
returns c = c.get.ensures.value ∙ get-named c.args.name.now c.self.inside.entries.entries c.args.self.now c.self.view_is
