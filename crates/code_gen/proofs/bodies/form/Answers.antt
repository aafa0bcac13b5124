use Rattle.std.proofs.Common.{[], ◌∷◌, sym, subst}
use Rattle.std.proofs.lemmas.Result.{on_ok_weaker}
use Rattle.core_tree.specs.declared.tree.Top.{Top}
use Rattle.core_tree.specs.Tree.{tree, forms_in}
use Rattle.code_gen.specs.Settings.{setting}
use Rattle.code_gen.specs.Emission.{AreUnused}
use Rattle.code_gen.proofs.Walks.{unused_none, unused_alone}
use Rattle.code_gen.proofs.bodies.form.Goals as goal

pub returns-in-Function : goal.returns-in-Function
returns-in-Function c =
    let w = setting c.args.ctx.now in
    subst (λ (f : Top). AreUnused w c.args.e.now c.args.e.now (forms_in (f ∷ []))) (sym c.in-Function.is) (unused_none w c.args.e.now)

pub returns-in-Form : goal.returns-in-Form
returns-in-Form c =
    let w = setting c.args.ctx.now in
    on_ok_weaker c.unused.result
    (λ one. subst (λ (f : Top). AreUnused w c.args.e.now c.unused.new.e (forms_in (f ∷ []))) (sym c.in-Form.is) (unused_alone w c.args.e.now c.unused.new.e (tree c.in-Form.node) one))
    c.unused.ensures
