use Rattle.std.proofs.Common.{◌≡◌, refl, ◌∙◌, ap, subst}
use Rattle.std.proofs.lemmas.Result.{err_from_is_err_and}
use Rattle.core_tree.specs.Tree.{module_tree}
use Rattle.c_tree.specs.Names.{label_name}
use Rattle.plan_rules.specs.Translation.{c_name_of}
use Rattle.c_tree.specs.Code.{loop, done}
use Rattle.code_gen.specs.Scopes.{words}
use Rattle.code_gen.specs.Callees.{function_of}
use Rattle.code_gen.specs.Settings.{Setting}
use Rattle.code_gen.specs.Emission.{setting_of, IsLooped}
use Rattle.code_gen.proofs.Written.{function_written}
use Rattle.code_gen.proofs.definitions.definition.Goals as goal

pub returns : goal.returns
returns c =
    let m = module_tree c.args.functions.now in
    let f = function_of c.args.function.now in
    let e = c.in_ok-pieces.field-0 in
    let params_are : c.in_ok-new.field-0 ≡ f.params = c.in_ok-new.ensures ∙ c.as_slice.ensures in
    let same : ◌≡◌ {A = Setting} (record { in_module = m; params = c.in_ok-new.field-0 }) (setting_of m f) = ap (λ params. record { in_module = m; params = params }) params_are in
    let written : IsLooped (setting_of m f) f.body e = subst (λ (w : Setting). IsLooped w f.body e) same c.in_ok-pieces.ensures in
    let name_is = c.in_ok-c_name.ensures ∙ ap c_name_of c.called.ensures in
    function_written m f e _ written name_is refl (c.in_ok-variables.ensures ∙ ap (words 0) params_are) refl (c.in_ok-body.ensures (loop (label_name 0) written.code done) written.is)

pub returns-in_err-new : goal.returns-in_err-new
returns-in_err-new c =
    let p = err_from_is_err_and c.from_residual.result c.from_residual.ensures.1 in
    rw (p.1) tt

pub returns-in_err-pieces : goal.returns-in_err-pieces
returns-in_err-pieces c =
    let p = err_from_is_err_and c.from_residual-in_err-pieces.result c.from_residual-in_err-pieces.ensures.1 in
    rw (p.1) tt

pub returns-in_err-body : goal.returns-in_err-body
returns-in_err-body c =
    let p = err_from_is_err_and c.from_residual-in_err-body.result c.from_residual-in_err-body.ensures.1 in
    rw (p.1) tt

pub returns-in_err-c_name : goal.returns-in_err-c_name
returns-in_err-c_name c =
    let p = err_from_is_err_and c.from_residual-in_err-c_name.result c.from_residual-in_err-c_name.ensures.1 in
    rw (p.1) tt

pub returns-in_err-variables : goal.returns-in_err-variables
returns-in_err-variables c =
    let p = err_from_is_err_and c.from_residual-in_err-variables.result c.from_residual-in_err-variables.ensures.1 in
    rw (p.1) tt
