use Rattle.std.proofs.Common.{◌++◌, ◌∷◌, [], ap, ◌∙◌}
use Rattle.name_table.specs.Names.{has_name}
use Rattle.c_machine.proofs.Definitions.{variable_is_new, variables_more}
use Rattle.c_machine.proofs.names.add_variables.Goals as goal

pub add_local-requires : goal.add_local-requires
add_local-requires c =
    ap (has_name c.loop-v.names) c.as_bytes.ensures ∙ variable_is_new c.args.names.now c.loop-v.names c.args.vars.now c.loop-v.v-index c.v-item.result c.loop-v-test.true c.v-item.is c.loop-v.invariant c.requires

pub loop-v-preserved : goal.loop-v-preserved
loop-v-preserved c =
    variables_more c.args.names.now c.loop-v.names c.add_local.new.names c.args.vars.now c.loop-v.v-index c.v-item.result c.loop-v-test.true c.v-item.is c.loop-v.invariant (c.in_ok-add_local.ensures {u = tt} ∙ ap (λ n. c.loop-v.names ++ n ∷ []) c.as_bytes.ensures)
