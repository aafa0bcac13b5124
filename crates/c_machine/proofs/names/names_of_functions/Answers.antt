use Rattle.std.proofs.Common.{sym, ap, ◌∙◌}
use Rattle.c_machine.specs.Decoded.{function_names}
use Rattle.c_machine.proofs.Definitions.{definition_is_new, names_more, no_definitions}
use Rattle.c_machine.proofs.names.names_of_functions.Goals as goal

pub loop-item-init : goal.loop-item-init
loop-item-init c = c.new-names.ensures ∙ ap function_names (sym no_definitions)

pub add_definition-requires : goal.add_definition-requires
add_definition-requires c =
    definition_is_new c.loop-item.names c.args.items.now c.loop-item.item-index c.item-item.result c.loop-item-test.true c.item-item.is c.loop-item.invariant c.requires

pub loop-item-preserved : goal.loop-item-preserved
loop-item-preserved c =
    names_more c.loop-item.names c.add_definition.new.names c.args.items.now c.loop-item.item-index c.item-item.result c.loop-item-test.true c.item-item.is c.loop-item.invariant (c.in_ok-add_definition.ensures {u = tt})
