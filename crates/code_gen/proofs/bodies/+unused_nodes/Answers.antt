use Rattle.std.proofs.Common.{sym, ◌∙◌, subst, ap, map, List, Some, None, arith}
use Rattle.std.proofs.lemmas.Result.{err_from_is_err_and}
use Rattle.std.proofs.lemmas.Result.{on_ok_weaker}
use Rattle.core_tree.specs.declared.tree.Node.{Node}
use Rattle.core_tree.specs.Tree.{Tree, trees, tree}
use Rattle.code_gen.specs.Settings.{setting}
use Rattle.code_gen.specs.Emission.{IsPrimitiveCall, IsFunctionCall, IsUnused}
use Rattle.code_gen.proofs.Places.{Found, found}
use Rattle.code_gen.proofs.Shapes.{tree-Constant, tree-Variable, tree-Call, tree-Primitive, variable_part, chosen_tree, chosen_parts, weight_chosen}
use Rattle.code_gen.proofs.Walks.{unused_constant, unused_variable, unused_counted, unused_miscounted, unused_primitive, unused_if}
use Rattle.c_tree.specs.Names.{local_name}
use Rattle.code_gen.proofs.bodies.+unused_nodes.Goals as goal

pub unused-returns-in-Constant : goal.unused-returns-in-Constant
unused-returns-in-Constant t c =
    let w = setting c.args.ctx.now in
    subst (λ (n : Tree). IsUnused w c.args.e.now c.args.e.now n) (sym (ap tree c.in-Constant.is ∙ tree-Constant c.in-Constant.field-0)) (unused_constant w c.args.e.now c.in-Constant.field-0)

pub unused-returns-in-Variable : goal.unused-returns-in-Variable
unused-returns-in-Variable t c =
    let w = setting c.args.ctx.now in
    let x = c.in-Variable.field-0 in
    let f : Found x 0 w.params = found x 0 w.params (variable_part w c.args.node.now x c.in-Variable.is c.requires) in
    subst (λ (n : Tree). IsUnused w c.args.e.now c.args.e.now n) (sym (ap tree c.in-Variable.is ∙ tree-Variable x)) (unused_variable w c.args.e.now x (local_name f.number) f.is)

pub unused-returns-in-Some : goal.unused-returns-in-Some
unused-returns-in-Some t c =
    let w = setting c.args.ctx.now in
    let ns = c.in-Call.nodes in
    let called : IsFunctionCall w c.args.e.now c.function_call.new.e c.in-Call.g (trees (map tree ns)) (Some c.in-Some.call) =
    subst (λ (ms : List Node). IsFunctionCall w c.args.e.now c.function_call.new.e c.in-Call.g (trees (map tree ms)) (Some c.in-Some.call)) c.as_slice.ensures (rw c.in-Some.is at c.in_ok-call-in-Call.ensures) in
    on_ok_weaker c.put.result
    (λ puts. subst (λ (n : Tree). IsUnused w c.args.e.now c.put.new.self n) (sym (ap tree c.in-Call.is ∙ tree-Call c.in-Call.g ns))
    (unused_counted w c.args.e.now c.function_call.new.e c.put.new.self c.in-Call.g (trees (map tree ns)) c.in-Some.call called puts))
    c.put.ensures

pub unused-returns-in-None : goal.unused-returns-in-None
unused-returns-in-None t c =
    let w = setting c.args.ctx.now in
    let ns = c.in-Call.nodes in
    let called : IsFunctionCall w c.args.e.now c.function_call.new.e c.in-Call.g (trees (map tree ns)) None =
    subst (λ (ms : List Node). IsFunctionCall w c.args.e.now c.function_call.new.e c.in-Call.g (trees (map tree ms)) None) c.as_slice.ensures (rw c.in-None.is at c.in_ok-call-in-Call.ensures) in
    subst (λ (n : Tree). IsUnused w c.args.e.now c.function_call.new.e n) (sym (ap tree c.in-Call.is ∙ tree-Call c.in-Call.g ns))
    (unused_miscounted w c.args.e.now c.function_call.new.e c.in-Call.g (trees (map tree ns)) called)

pub unused-returns-in_ok-call-in-Primitive : goal.unused-returns-in_ok-call-in-Primitive
unused-returns-in_ok-call-in-Primitive t c =
    let w = setting c.args.ctx.now in
    let p = c.in-Primitive.p in
    let ns = c.in-Primitive.nodes in
    let called = subst (λ (ms : List Node). IsPrimitiveCall w c.args.e.now c.primitive_call.new.e p (trees (map tree ms)) c.in_ok-call-in-Primitive.call) c.as_slice-in-Primitive.ensures c.in_ok-call-in-Primitive.ensures in
    on_ok_weaker c.put-in-Primitive.result
    (λ puts. subst (λ (n : Tree). IsUnused w c.args.e.now c.put-in-Primitive.new.self n) (sym (ap tree c.in-Primitive.is ∙ tree-Primitive p ns))
    (unused_primitive w c.args.e.now c.primitive_call.new.e c.put-in-Primitive.new.self p (trees (map tree ns)) c.in_ok-call-in-Primitive.call called puts))
    c.put-in-Primitive.ensures

pub unused-unused_branches-requires : goal.unused-unused_branches-requires
unused-unused_branches-requires t c =
    let n = c.args.node.now in
    let a = c.in-If.test in
    let b = c.in-If.first in
    let d = c.in-If.second in
    let less = weight_chosen n a b d c.get.result.now c.get-in-If.result.now c.get-in-If-2.result.now c.in-If.is c.get.ensures c.get-in-If.ensures c.get-in-If-2.ensures in
    (omega (arith, less), chosen_parts (setting c.args.ctx.now) n a b d c.get.result.now c.get-in-If.result.now c.get-in-If-2.result.now c.in-If.is c.get.ensures c.get-in-If.ensures c.get-in-If-2.ensures c.requires)

pub unused-returns-in-If : goal.unused-returns-in-If
unused-returns-in-If t c =
    on_ok_weaker c.unused_branches.result
    (λ all. subst (λ (n : Tree). IsUnused (setting c.args.ctx.now) c.args.e.now c.unused_branches.new.e n)
    (sym (chosen_tree c.args.node.now c.in-If.test c.in-If.first c.in-If.second c.get.result.now c.get-in-If.result.now c.get-in-If-2.result.now c.in-If.is c.get.ensures c.get-in-If.ensures c.get-in-If-2.ensures)) all)
    c.unused_branches.ensures

pub unused_branches-returns : goal.unused_branches-returns
unused_branches-returns t c =
    on_ok_weaker c.put-3.result
    (λ closes. unused_if (setting c.args.ctx.now) c.args.e.now c.tested.new.e c.put.new.self c.unused.new.e c.put-2.new.self c.unused-2.new.e c.put-3.new.self
    (tree c.args.test.now) (tree c.args.first.now) (tree c.args.second.now) c.in_ok-chosen.chosen
    c.in_ok-chosen.ensures c.in_ok-put.ensures c.in_ok-unused.ensures c.in_ok-put-2.ensures c.in_ok-unused-2.ensures closes)
    c.put-3.ensures

pub unused-returns-in_err-call-in-Call : goal.unused-returns-in_err-call-in-Call
unused-returns-in_err-call-in-Call t c =
    let p = err_from_is_err_and c.from_residual.result c.from_residual.ensures.1 in
    rw (p.1) tt

pub unused-returns-in_err-call-in-Primitive : goal.unused-returns-in_err-call-in-Primitive
unused-returns-in_err-call-in-Primitive t c =
    let p = err_from_is_err_and c.from_residual-in_err-call-in-Primitive.result c.from_residual-in_err-call-in-Primitive.ensures.1 in
    rw (p.1) tt
