use Rattle.std.proofs.Common.{◌≡◌, ap, sym, ◌∙◌, subst}
use Rattle.std.proofs.lemmas.Result.{err_from_is_err_and}
use Rattle.core_tree.specs.declared.tree.Module.{Module}
use Rattle.core_tree.specs.Tree.{module_tree}
use Rattle.core_tree.specs.WellFormed.{IsWellFormed}
use Rattle.c_tree.specs.Functions.{fun_of, items_of}
use Rattle.c_tree.specs.Names.{maker_name}
use Rattle.plan_rules.specs.Translation.{IsEmpty}
use Rattle.code_gen.specs.Emission.{IsInitialization, AddsFunctions, declarations_of}
use Rattle.code_gen.proofs.Units.{pushed_two, translated_from}
use Rattle.code_gen.proofs.generate.generate_unit.Goals as goal

pub returns : goal.returns
returns c =
    let m = module_tree c.args.m.now in
    let here = module_tree c.in_ok-functions.functions in
    let maker = fun_of c.in_ok-maker.maker in
    let initializer = fun_of c.in_ok-initializer.initializer in
    let maker_named : c.in_ok-maker_name_text.field-0 ≡ maker_name m.name = c.in_ok-maker_name_text.ensures.value ∙ ap maker_name c.as_bytes.ensures in
    let made : IsEmpty (maker_name m.name) maker = subst (λ name. IsEmpty name maker) maker_named c.in_ok-maker.ensures in
    let initialized : IsInitialization m initializer = subst (λ (k : Module). IsInitialization (module_tree k) initializer) c.in_ok-functions.ensures c.in_ok-initializer.ensures in
    let defines : AddsFunctions here here.functions (declarations_of here) (items_of c.define_all.new.items) =
    subst (λ before. AddsFunctions here here.functions before (items_of c.define_all.new.items)) c.in_ok-items.ensures c.in_ok-define_all.ensures in
    let adds : AddsFunctions m m.functions (declarations_of m) (items_of c.define_all.new.items) =
    subst (λ (k : Module). AddsFunctions (module_tree k) (module_tree k).functions (declarations_of (module_tree k)) (items_of c.define_all.new.items)) c.in_ok-functions.ensures defines in
    translated_from m c.requires maker initializer made initialized (items_of c.define_all.new.items) (items_of c.push-2.new.self) adds
    (pushed_two c.define_all.new.items c.push.new.self c.push-2.new.self c.in_ok-maker.maker c.in_ok-initializer.initializer (c.in_ok-push.ensures {u = tt}).ok (c.in_ok-push-2.ensures {u = tt}).ok)

pub returns-in_err-functions : goal.returns-in_err-functions
returns-in_err-functions c =
    let p = err_from_is_err_and c.from_residual.result c.from_residual.ensures.1 in
    rw (p.1) tt

pub returns-in_err-items : goal.returns-in_err-items
returns-in_err-items c =
    let p = err_from_is_err_and c.from_residual-in_err-items.result c.from_residual-in_err-items.ensures.1 in
    rw (p.1) tt

pub returns-in_err-define_all : goal.returns-in_err-define_all
returns-in_err-define_all c =
    let p = err_from_is_err_and c.from_residual-in_err-define_all.result c.from_residual-in_err-define_all.ensures.1 in
    rw (p.1) tt

pub returns-in_err-maker_name_text : goal.returns-in_err-maker_name_text
returns-in_err-maker_name_text c =
    let p = err_from_is_err_and c.from_residual-in_err-maker_name_text.result c.from_residual-in_err-maker_name_text.ensures.1 in
    rw (p.1) tt

pub returns-in_err-maker : goal.returns-in_err-maker
returns-in_err-maker c =
    let p = err_from_is_err_and c.from_residual-in_err-maker.result c.from_residual-in_err-maker.ensures.1 in
    rw (p.1) tt

pub returns-in_err-initializer : goal.returns-in_err-initializer
returns-in_err-initializer c =
    let p = err_from_is_err_and c.from_residual-in_err-initializer.result c.from_residual-in_err-initializer.ensures.1 in
    rw (p.1) tt

pub returns-in_err-push : goal.returns-in_err-push
returns-in_err-push c =
    let p = err_from_is_err_and c.from_residual-in_err-push.result c.from_residual-in_err-push.ensures.1 in
    rw (p.1) tt

pub returns-in_err-push-2 : goal.returns-in_err-push-2
returns-in_err-push-2 c =
    let p = err_from_is_err_and c.from_residual-in_err-push-2.result c.from_residual-in_err-push-2.ensures.1 in
    rw (p.1) tt

pub define_all-requires : goal.define_all-requires
define_all-requires c =
    let right = subst (λ (k : Module). IsWellFormed (module_tree k)) (sym c.in_ok-functions.ensures) c.requires in
    right.functions

pub initialization-requires : goal.initialization-requires
initialization-requires c =
    let right = subst (λ (k : Module). IsWellFormed (module_tree k)) (sym c.in_ok-functions.ensures) c.requires in
    right.forms
