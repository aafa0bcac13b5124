use Rattle.std.proofs.Common.{◌∙◌, ap}
use Rattle.std.specs.Option.{is_some}
use Rattle.name_table.specs.Names.{has_name}
use Rattle.name_table.proofs.Places.{place-has}
use Rattle.name_table.proofs.table.NameTable.contains.Goals as goal

pub returns : goal.returns
returns c =
    c.contains_key.ensures ∙ ap is_some (c.self.invariant.places c.args.name.now) ∙ place-has c.args.name.now c.self.inside.names.items
    ∙ ap (λ n. has_name n c.args.name.now) c.self.view_is
