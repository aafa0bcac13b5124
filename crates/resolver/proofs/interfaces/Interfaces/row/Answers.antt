use Rattle.std.proofs.Common.{ap, ◌∙◌}
use Rattle.std.specs.Option.{option_copied}
use Rattle.resolver.specs.Elaboration.{row_for}
use Rattle.resolver.proofs.InterfaceTables.{no_iface, iface_found}
use Rattle.resolver.proofs.interfaces.Interfaces.row.Goals as goal

pub returns-in_err-get : goal.returns-in_err-get
returns-in_err-get c =
    ap option_copied c.from_residual.ensures
    ∙ no_iface c.self.inside.modules.entries c.args.module_name.now c.args.name.now c.get.result c.in_err-get.was c.get.ensures.value
    ∙ ap (λ is. row_for is c.args.module_name.now c.args.name.now) c.self.view_is

pub returns : goal.returns
returns c =
    c.row.ensures
    ∙ iface_found c.self.inside.modules.entries c.args.module_name.now c.args.name.now c.get.result c.in_ok-get.field-0 c.in_ok-get.was c.get.ensures.value
    ∙ ap (λ is. row_for is c.args.module_name.now c.args.name.now) c.self.view_is
