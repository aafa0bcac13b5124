use Rattle.std.proofs.Common.{◌≡◌, true, ◌++◌, [], subst, ap, ◌∙◌}
use Rattle.scheme_data.specs.Names.{are_distinct}
use Rattle.name_table.specs.Names.{has_name}
use Rattle.c_tree.specs.declared.function.CItem.{CItem}
use Rattle.c_machine.specs.Decoded.{function_names, definition_in}
use Rattle.c_machine.proofs.Distinct.{distinct_new}
use Rattle.c_machine.proofs.names.add_definition.Goals as goal

pub add-requires : goal.add-requires
add-requires c =
    let d = subst (λ (i : CItem). are_distinct (c.args.names.now ++ function_names (definition_in i)) ≡ true) c.in-Defined.is c.requires in
    ap (has_name c.args.names.now) c.as_bytes.ensures ∙ distinct_new c.args.names.now c.in-Defined.f.name [] d
