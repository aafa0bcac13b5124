use Rattle.std.proofs.Common.{List, Some, sym, ap, ◌∙◌}
use Rattle.std.specs.Option.{option_map}
use Rattle.scheme_data.specs.Data.{plain_all}
use Rattle.iface_text.specs.declared.interface.Row.{Row}
use Rattle.resolver.specs.Parts.{draft_tree}
use Rattle.resolver.proofs.Results.{interface_spelled}
use Rattle.resolver.proofs.resolve.exported_interface.Goals as goal

pub returns-clause-spelled : goal.returns-clause-spelled
returns-clause-spelled c =
    interface_spelled (plain_all c.args.forms.now) (draft_tree c.in-Some.draft) _ c.requires
    (sym (ap (option_map draft_tree) c.in-Some.is) ∙ c.in_ok-draft.ensures)
    (ap (λ (rows : List Row). Some (record { module_name = c.in-Some.draft.head.name; rows = rows })) c.in_ok-rows.ensures)
