use Rattle.base_io.proofs.Entries.{insert-named}
use Rattle.base_io.proofs.table.Table.set.Goals as goal

pub returns-clause-ok : goal.returns-clause-ok
returns-clause-ok c = insert-named c.in_ok-key.key c.args.name.now c.args.content c.self.inside.entries.entries c.insert.new.self.entries c.args.self.now c.in_ok-key.ensures.items c.self.view_is c.in_ok-insert.ensures.entries
