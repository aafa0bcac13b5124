use Rattle.std.proofs.Common.{◌≡◌, List, ◌∙◌, ap, sym, subst}
use Rattle.std.proofs.lemmas.Result.{err_from_is_err_and}
use Rattle.core_tree.specs.declared.tree.Module.{Module}
use Rattle.core_tree.specs.declared.tree.Top.{Top}
use Rattle.core_tree.specs.declared.tree.VarId.{VarId}
use Rattle.core_tree.specs.Tree.{module_tree, forms_in}
use Rattle.code_gen.specs.Settings.{AreNodes}
use Rattle.code_gen.specs.Emission.{AreUnused}
use Rattle.code_gen.proofs.Written.{straight_written}
use Rattle.code_gen.proofs.definitions.straight.Goals as goal

pub forms-requires : goal.forms-requires
forms-requires c =
    let m = module_tree c.args.functions.now in
    let tops_are : c.as_slice.result.now ≡ c.args.functions.now.tops = c.as_slice.ensures ∙ ap (λ (k : Module). k.tops) c.in_module.ensures in
    subst (λ (ts : List Top). AreNodes (record { in_module = m; params = c.in_ok-new.field-0 }) (forms_in ts)) (sym tops_are)
    (subst (λ (ps : List VarId). AreNodes (record { in_module = m; params = ps }) m.forms) (sym c.in_ok-new.ensures) c.requires)

pub returns : goal.returns
returns c =
    let m = module_tree c.args.functions.now in
    let s = c.new-e.result in
    let t = c.forms.new.e in
    let tops_are : c.as_slice.result.now ≡ c.args.functions.now.tops = c.as_slice.ensures ∙ ap (λ (k : Module). k.tops) c.in_module.ensures in
    straight_written m s t c.deliver.new.self c.new-e.ensures
    (subst (λ (ps : List VarId). AreUnused (record { in_module = m; params = ps }) s t m.forms) c.in_ok-new.ensures
    (subst (λ (ts : List Top). AreUnused (record { in_module = m; params = c.in_ok-new.field-0 }) s t (forms_in ts)) tops_are c.in_ok-forms.ensures))
    c.in_ok-deliver.ensures

pub returns-in_err-new : goal.returns-in_err-new
returns-in_err-new c =
    let p = err_from_is_err_and c.from_residual.result c.from_residual.ensures.1 in
    rw (p.1) tt

pub returns-in_err-forms : goal.returns-in_err-forms
returns-in_err-forms c =
    let p = err_from_is_err_and c.from_residual-in_err-forms.result c.from_residual-in_err-forms.ensures.1 in
    rw (p.1) tt

pub returns-in_err-deliver : goal.returns-in_err-deliver
returns-in_err-deliver c =
    let p = err_from_is_err_and c.from_residual-in_err-deliver.result c.from_residual-in_err-deliver.ensures.1 in
    rw (p.1) tt
