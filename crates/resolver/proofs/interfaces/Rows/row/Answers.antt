use Rattle.std.proofs.Common.{sym, ap, ◌∙◌}
use Rattle.std.specs.Option.{option_copied}
use Rattle.resolver.specs.UseTables.{row_named}
use Rattle.resolver.proofs.InterfaceTables.{rows_found}
use Rattle.resolver.proofs.interfaces.Rows.row.Goals as goal

pub returns : goal.returns
returns c =
    ap option_copied (c.copied.ensures ∙ c.get.ensures.value)
    ∙ sym (rows_found c.self.inside.by_name.entries c.args.name.now c.self.invariant)
    ∙ ap (λ rows. row_named rows c.args.name.now) c.self.view_is
