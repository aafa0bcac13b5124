use Rattle.std.proofs.Common.{refl, ◌∙◌, ap}
use Rattle.core_tree.specs.declared.tree.Module.{Module}
use Rattle.core_tree.specs.Tree.{module_tree}
use Rattle.c_tree.specs.Names.{initializer_name}
use Rattle.code_gen.specs.Emission.{IsStraight}
use Rattle.code_gen.proofs.Written.{initialization_written}
use Rattle.code_gen.proofs.definitions.initialization.Goals as goal

pub returns : goal.returns
returns c =
    let m = module_tree c.args.functions.now in
    let e = c.in_ok-pieces.field-0 in
    let straight : IsStraight m e = c.in_ok-pieces.ensures in
    let name_is = c.in_ok-initializer_name_text.ensures.value ∙ ap initializer_name (c.as_bytes.ensures ∙ ap (λ (k : Module). k.name) c.in_module.ensures) in
    initialization_written m e _ straight name_is refl c.new.ensures refl (c.in_ok-body.ensures straight.code straight.is)
