use Rattle.std.proofs.Common.{[], ◌∷◌, ◌++◌, map, ap, sym, ◌∙◌}
use Rattle.std.proofs.lemmas.List.{append-nil}
use Rattle.core_tree.specs.declared.tree.Top.{Top}
use Rattle.core_tree.specs.Tree.{functions_in}
use Rattle.code_gen.specs.Callees.{function_of}
use Rattle.code_gen.proofs.callees.add_function.Goals as goal

pub returns-in-Form : goal.returns-in-Form
returns-in-Form c =
    let own = map function_of c.args.own.now in
    sym (append-nil own) ∙ ap (λ (top : Top). own ++ functions_in (top ∷ [])) (sym c.in-Form.is)
