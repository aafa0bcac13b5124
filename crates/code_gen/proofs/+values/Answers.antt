use Rattle.std.proofs.Common.{sym, ◌∙◌, subst, ap, map, length, arith, List, Some, None}
use Rattle.std.proofs.lemmas.Result.{IfOk-weaker, on_ok_weaker}
use Rattle.core_tree.specs.declared.tree.Node.{Node}
use Rattle.core_tree.specs.Tree.{Tree, trees, tree}
use Rattle.core_tree.specs.WellFormed.{AsMany}
use Rattle.plan_rules.specs.Representation.{rep_of}
use Rattle.code_gen.specs.Callees.{callee_in}
use Rattle.code_gen.specs.Settings.{setting}
use Rattle.code_gen.specs.declared.emitter.Target.TheVariants.{Into}
use Rattle.code_gen.specs.Emission.{types_of, IsValue, IsDelivered, AreArguments, IsReady, IsPrimitiveCall, IsFunctionCall}
use Rattle.code_gen.proofs.Shapes.{weight-Primitive, weight-Call, weight_chosen, weight_at, tree-Constant, tree-Variable, tree-If, tree-Call, tree-Primitive, chosen_tree, chosen_parts, primitive_parts, call_parts, as_many_length, node_at, objects_are, objects_as_many, right_count, wrong_count}
use Rattle.code_gen.proofs.Fitting.{primitive_parameters, word_parameters, type_at}
use Rattle.code_gen.proofs.Values.{Arguing, arguing_none, arguing_one, arguing_all, held_length, ready_from}
use Rattle.code_gen.proofs.Evaluated.{value_constant, value_variable, value_primitive, value_chosen, value_counted, value_miscounted, is_tested, call_counted, call_miscounted}
use Rattle.code_gen.proofs.Delivered.{delivered_constant, delivered_variable, delivered_primitive, delivered_counted, delivered_miscounted, delivered_if}
use Rattle.code_gen.proofs.+values.Goals as goal

-- Arguments ---------------------------------------------------------------------------------

pub calls::arguments-loop-i-init : goal.calls::arguments-loop-i-init
calls::arguments-loop-i-init t c =
    let w = setting c.args.ctx.now in
    subst (λ held. Arguing w c.args.e.now c.args.e.now (types_of c.args.wanted) c.args.nodes.now held 0) (sym c.new-held.ensures) (arguing_none w c.args.e.now (types_of c.args.wanted) c.args.nodes.now)

pub calls::arguments-at-requires : goal.calls::arguments-at-requires
calls::arguments-at-requires t c = omega (arith, as_many_length (types_of c.args.wanted) c.args.nodes.now c.requires.as_many)

pub calls::arguments-value-requires : goal.calls::arguments-value-requires
calls::arguments-value-requires t c =
    let less = weight_at c.args.nodes.now c.loop-i.i c.index-nodes-i.result c.loop-i-test.true c.index-nodes-i.is in
    (omega (arith, less), node_at (setting c.args.ctx.now) c.args.nodes.now c.loop-i.i c.index-nodes-i.result c.loop-i-test.true c.index-nodes-i.is c.requires.expressions)

pub calls::arguments-loop-i-preserved : goal.calls::arguments-loop-i-preserved
calls::arguments-loop-i-preserved t c =
    arguing_one (setting c.args.ctx.now) c.args.e.now c.loop-i.e c.value.new.e (types_of c.args.wanted) c.args.nodes.now c.loop-i.held c.loop-i.i _ c.index-nodes-i.result c.rep.result c.in_ok-one.one
    (as_many_length (types_of c.args.wanted) c.args.nodes.now c.requires.as_many) c.loop-i-test.true (c.rep.ensures ∙ ap rep_of (type_at (types_of c.args.wanted) c.loop-i.i c.at.result c.at.ensures)) c.index-nodes-i.is c.loop-i.invariant c.in_ok-one.ensures c.push.new.self (c.in_ok-push.ensures {u = tt}).ok

pub calls::arguments-returns : goal.calls::arguments-returns
calls::arguments-returns t c =
    arguing_all (setting c.args.ctx.now) c.args.e.now c.loop-i.e (types_of c.args.wanted) c.args.nodes.now c.loop-i.held c.loop-i.i (as_many_length (types_of c.args.wanted) c.args.nodes.now c.requires.as_many) c.loop-i-test.false c.loop-i.invariant

pub calls::ready-fitted-requires-clause-as_many : goal.calls::ready-fitted-requires-clause-as_many
calls::ready-fitted-requires-clause-as_many t c =
    rw c.as_slice.ensures (held_length (setting c.args.ctx.now) c.args.e.now c.arguments.new.e (types_of c.args.wanted) (trees (map tree c.args.nodes.now)) c.in_ok-held.held c.requires.as_many c.in_ok-held.ensures)

pub calls::primitive_call-ready-requires : goal.calls::primitive_call-ready-requires
calls::primitive_call-ready-requires t c =
    let ns = trees (map tree c.args.nodes.now) in
    (omega arith, (primitive_parameters c.args.p, (c.requires.as_many, c.requires.expressions)))

pub calls::ready-returns : goal.calls::ready-returns
calls::ready-returns t c =
    let w = setting c.args.ctx.now in
    IfOk-weaker c.local_args.result _ _
    (λ args args_are. ready_from w c.args.e.now c.arguments.new.e c.fitted.new.e (types_of c.args.wanted) (trees (map tree c.args.nodes.now)) c.in_ok-held.held c.in_ok-made.made args
    c.in_ok-held.ensures (rw (sym c.as_slice.ensures) c.in_ok-made.ensures) (rw (sym c.as_slice-2.ensures) args_are))
    c.local_args.ensures

-- Calls -------------------------------------------------------------------------------------

pub calls::function_call-arguments-requires : goal.calls::function_call-arguments-requires
calls::function_call-arguments-requires t c =
    (omega arith, (subst (λ ts. AsMany ts (trees (map tree c.args.nodes.now))) (sym (objects_are c.args.nodes.now)) (objects_as_many (trees (map tree c.args.nodes.now))), c.requires.expressions))

pub calls::function_call-returns-then-nodes-called : goal.calls::function_call-returns-then-nodes-called
calls::function_call-returns-then-nodes-called t c =
    let w = setting c.args.ctx.now in
    let f = callee_in c.callee-called.result in
    let ns = trees (map tree c.args.nodes.now) in
    call_miscounted w c.args.e.now c.arguments.new.e c.put.new.self c.args.g f ns c.in_ok-arguments.field-0 c.in_ok-raise.raise c.callee-called.ensures (wrong_count f c.args.nodes.now c.if-nodes-called.true)
    (subst (λ ts. AreArguments w c.args.e.now c.arguments.new.e ts ns c.in_ok-arguments.field-0) (objects_are c.args.nodes.now) c.in_ok-arguments.ensures)
    c.in_ok-raise.ensures c.in_ok-put.ensures

pub calls::function_call-ready-requires : goal.calls::function_call-ready-requires
calls::function_call-ready-requires t c = (
  omega arith,
  (word_parameters (length c.args.nodes.now), (subst (λ ts. AsMany ts (trees (map tree c.args.nodes.now))) (sym (objects_are c.args.nodes.now)) (objects_as_many (trees (map tree c.args.nodes.now))), c.requires.expressions)),
)

pub calls::function_call-returns : goal.calls::function_call-returns
calls::function_call-returns t c =
    let w = setting c.args.ctx.now in
    let f = callee_in c.callee-called.result in
    let ns = trees (map tree c.args.nodes.now) in
    call_counted w c.args.e.now c.ready.new.e c.args.g f ns c.in_ok-name.name c.in_ok-args.args c.callee-called.ensures
    (right_count f c.args.nodes.now c.if-nodes-called.false)
    (subst (λ ts. IsReady w c.args.e.now c.ready.new.e ts ns c.in_ok-args.args) (objects_are c.args.nodes.now) c.in_ok-args.ensures)
    c.in_ok-name.ensures

-- Values ------------------------------------------------------------------------------------

pub nodes::value-function_call-requires : goal.nodes::value-function_call-requires
nodes::value-function_call-requires t c =
    let parts = call_parts (setting c.args.ctx.now) c.args.node.now c.in-Call.g c.in-Call.nodes c.as_slice.result.now c.in-Call.is c.as_slice.ensures c.requires in
    let less = weight-Call c.args.node.now c.in-Call.g c.in-Call.nodes c.as_slice.result.now c.in-Call.is c.as_slice.ensures in
    (omega (arith, less), (parts.0, parts.1))

pub nodes::value-primitive_call-requires : goal.nodes::value-primitive_call-requires
nodes::value-primitive_call-requires t c =
    let parts = primitive_parts (setting c.args.ctx.now) c.args.node.now c.in-Primitive.p c.in-Primitive.nodes c.as_slice-in-Primitive.result.now c.in-Primitive.is c.as_slice-in-Primitive.ensures c.requires in
    let less = weight-Primitive c.args.node.now c.in-Primitive.p c.in-Primitive.nodes c.as_slice-in-Primitive.result.now c.in-Primitive.is c.as_slice-in-Primitive.ensures in
    (omega (arith, less), (parts.0, parts.1))

pub nodes::value-returns-in_ok-value-in-Constant : goal.nodes::value-returns-in_ok-value-in-Constant
nodes::value-returns-in_ok-value-in-Constant t c =
    let w = setting c.args.ctx.now in
    IfOk-weaker c.store.result _ _
    (λ held stored. subst (λ (n : Tree). IsValue w c.args.e.now c.store.new.self n c.args.wanted held) (sym (ap tree c.in-Constant.is ∙ tree-Constant c.in-Constant.c))
    (value_constant w c.args.e.now c.store.new.self c.in-Constant.c c.args.wanted c.constant_rep.result c.in_ok-value-in-Constant.value held c.in_ok-value-in-Constant.ensures c.constant_rep.ensures stored))
    c.store.ensures

pub nodes::value-returns-in_ok-delivered-in-If : goal.nodes::value-returns-in_ok-delivered-in-If
nodes::value-returns-in_ok-delivered-in-If t c =
    let w = setting c.args.ctx.now in
    let a = c.in-If.field-0 in
    let b = c.in-If.field-1 in
    let d = c.in-If.field-2 in
    let is = ap tree c.in-If.is ∙ tree-If a b d in
    subst (λ (n : Tree). IsValue w c.args.e.now c.delivered.new.e n c.args.wanted c.in_ok-held-in-If.held) (sym is)
    (value_chosen w c.args.e.now c.unset.new.self c.delivered.new.e (tree a) (tree b) (tree d) c.args.wanted c.in_ok-held-in-If.held c.in_ok-held-in-If.ensures
    (subst (λ (n : Tree). IsDelivered w c.unset.new.self c.delivered.new.e n (Into c.in_ok-held-in-If.held.local)) is c.in_ok-delivered-in-If.ensures))

pub nodes::value-returns-in_ok-word-in-Variable : goal.nodes::value-returns-in_ok-word-in-Variable
nodes::value-returns-in_ok-word-in-Variable t c =
    let w = setting c.args.ctx.now in
    IfOk-weaker c.store-in-Variable.result _ _
    (λ held stored. subst (λ (n : Tree). IsValue w c.args.e.now c.store-in-Variable.new.self n c.args.wanted held) (sym (ap tree c.in-Variable.is ∙ tree-Variable c.in-Variable.x))
    (value_variable w c.args.e.now c.store-in-Variable.new.self c.in-Variable.x c.local_of.result c.args.wanted c.in_ok-word-in-Variable.word held c.local_of.ensures c.in_ok-word-in-Variable.ensures stored))
    c.store-in-Variable.ensures

pub nodes::value-returns-in-Some : goal.nodes::value-returns-in-Some
nodes::value-returns-in-Some t c =
    let w = setting c.args.ctx.now in
    let ns = c.in-Call.nodes in
    let called : IsFunctionCall w c.args.e.now c.function_call.new.e c.in-Call.g (trees (map tree ns)) (Some c.in-Some.call) =
    subst (λ (ms : List Node). IsFunctionCall w c.args.e.now c.function_call.new.e c.in-Call.g (trees (map tree ms)) (Some c.in-Some.call)) c.as_slice.ensures (rw c.in-Some.is at c.in_ok-call-in-Call.ensures) in
    IfOk-weaker c.store-in-Some.result _ _
    (λ held stored. subst (λ (n : Tree). IsValue w c.args.e.now c.store-in-Some.new.self n c.args.wanted held) (sym (ap tree c.in-Call.is ∙ tree-Call c.in-Call.g ns))
    (value_counted w c.args.e.now c.function_call.new.e c.store-in-Some.new.self c.in-Call.g (trees (map tree ns)) c.args.wanted c.in-Some.call held called stored))
    c.store-in-Some.ensures

pub nodes::value-returns-in-None : goal.nodes::value-returns-in-None
nodes::value-returns-in-None t c =
    let w = setting c.args.ctx.now in
    let ns = c.in-Call.nodes in
    let called : IsFunctionCall w c.args.e.now c.function_call.new.e c.in-Call.g (trees (map tree ns)) None =
    subst (λ (ms : List Node). IsFunctionCall w c.args.e.now c.function_call.new.e c.in-Call.g (trees (map tree ms)) None) c.as_slice.ensures (rw c.in-None.is at c.in_ok-call-in-Call.ensures) in
    IfOk-weaker c.unset-in-None.result _ _
    (λ held unset. subst (λ (n : Tree). IsValue w c.args.e.now c.unset-in-None.new.self n c.args.wanted held) (sym (ap tree c.in-Call.is ∙ tree-Call c.in-Call.g ns))
    (value_miscounted w c.args.e.now c.function_call.new.e c.unset-in-None.new.self c.in-Call.g (trees (map tree ns)) c.args.wanted held called unset))
    c.unset-in-None.ensures

pub nodes::value-returns-in_ok-call-in-Primitive : goal.nodes::value-returns-in_ok-call-in-Primitive
nodes::value-returns-in_ok-call-in-Primitive t c =
    let w = setting c.args.ctx.now in
    let p = c.in-Primitive.p in
    let ns = c.in-Primitive.nodes in
    let called = subst (λ (ms : List Node). IsPrimitiveCall w c.args.e.now c.primitive_call.new.e p (trees (map tree ms)) c.in_ok-call-in-Primitive.call) c.as_slice-in-Primitive.ensures c.in_ok-call-in-Primitive.ensures in
    IfOk-weaker c.store-in-Primitive.result _ _
    (λ held stored. subst (λ (n : Tree). IsValue w c.args.e.now c.store-in-Primitive.new.self n c.args.wanted held) (sym (ap tree c.in-Primitive.is ∙ tree-Primitive p ns))
    (value_primitive w c.args.e.now c.primitive_call.new.e c.store-in-Primitive.new.self p (trees (map tree ns)) c.args.wanted c.rep.result c.in_ok-call-in-Primitive.call held
    called (c.rep.ensures ∙ ap rep_of c.result.ensures) stored))
    c.store-in-Primitive.ensures

-- Places ------------------------------------------------------------------------------------

pub nodes::delivered-branches-requires : goal.nodes::delivered-branches-requires
nodes::delivered-branches-requires t c =
    let n = c.args.node.now in
    let a = c.in-If.test in
    let b = c.in-If.first in
    let d = c.in-If.second in
    let less = weight_chosen n a b d c.get.result.now c.get-in-If.result.now c.get-in-If-2.result.now c.in-If.is c.get.ensures c.get-in-If.ensures c.get-in-If-2.ensures in
    (omega (arith, less), chosen_parts (setting c.args.ctx.now) n a b d c.get.result.now c.get-in-If.result.now c.get-in-If-2.result.now c.in-If.is c.get.ensures c.get-in-If.ensures c.get-in-If-2.ensures c.requires)

pub nodes::delivered-function_call-requires : goal.nodes::delivered-function_call-requires
nodes::delivered-function_call-requires t c =
    let parts = call_parts (setting c.args.ctx.now) c.args.node.now c.in-Call.g c.in-Call.nodes c.as_slice.result.now c.in-Call.is c.as_slice.ensures c.requires in
    let less = weight-Call c.args.node.now c.in-Call.g c.in-Call.nodes c.as_slice.result.now c.in-Call.is c.as_slice.ensures in
    (omega (arith, less), (parts.0, parts.1))

pub nodes::delivered-primitive_call-requires : goal.nodes::delivered-primitive_call-requires
nodes::delivered-primitive_call-requires t c =
    let parts = primitive_parts (setting c.args.ctx.now) c.args.node.now c.in-Primitive.p c.in-Primitive.nodes c.as_slice-in-Primitive.result.now c.in-Primitive.is c.as_slice-in-Primitive.ensures c.requires in
    let less = weight-Primitive c.args.node.now c.in-Primitive.p c.in-Primitive.nodes c.as_slice-in-Primitive.result.now c.in-Primitive.is c.as_slice-in-Primitive.ensures in
    (omega (arith, less), (parts.0, parts.1))

pub nodes::delivered-returns-in_ok-value-in-Constant : goal.nodes::delivered-returns-in_ok-value-in-Constant
nodes::delivered-returns-in_ok-value-in-Constant t c =
    let w = setting c.args.ctx.now in
    on_ok_weaker c.deliver.result
    (λ puts. subst (λ (n : Tree). IsDelivered w c.args.e.now c.deliver.new.self n c.args.target) (sym (ap tree c.in-Constant.is ∙ tree-Constant c.in-Constant.c))
    (delivered_constant w c.args.e.now c.deliver.new.self c.in-Constant.c c.in_ok-value-in-Constant.value c.args.target c.in_ok-value-in-Constant.ensures puts))
    c.deliver.ensures

pub nodes::delivered-returns-in_ok-value-in-Variable : goal.nodes::delivered-returns-in_ok-value-in-Variable
nodes::delivered-returns-in_ok-value-in-Variable t c =
    let w = setting c.args.ctx.now in
    on_ok_weaker c.deliver-in-Variable.result
    (λ puts. subst (λ (n : Tree). IsDelivered w c.args.e.now c.deliver-in-Variable.new.self n c.args.target) (sym (ap tree c.in-Variable.is ∙ tree-Variable c.in-Variable.x))
    (delivered_variable w c.args.e.now c.deliver-in-Variable.new.self c.in-Variable.x c.local_of.result c.in_ok-value-in-Variable.value c.args.target c.local_of.ensures c.in_ok-value-in-Variable.ensures puts))
    c.deliver-in-Variable.ensures

pub nodes::delivered-returns-in-If : goal.nodes::delivered-returns-in-If
nodes::delivered-returns-in-If t c =
    let w = setting c.args.ctx.now in
    on_ok_weaker c.branches.result
    (λ given. subst (λ (n : Tree). IsDelivered w c.args.e.now c.branches.new.e n c.args.target)
    (sym (chosen_tree c.args.node.now c.in-If.test c.in-If.first c.in-If.second c.get.result.now c.get-in-If.result.now c.get-in-If-2.result.now c.in-If.is c.get.ensures c.get-in-If.ensures c.get-in-If-2.ensures)) given)
    c.branches.ensures

pub nodes::delivered-returns-in-Some : goal.nodes::delivered-returns-in-Some
nodes::delivered-returns-in-Some t c =
    let w = setting c.args.ctx.now in
    let ns = c.in-Call.nodes in
    let called : IsFunctionCall w c.args.e.now c.function_call.new.e c.in-Call.g (trees (map tree ns)) (Some c.in-Some.call) =
    subst (λ (ms : List Node). IsFunctionCall w c.args.e.now c.function_call.new.e c.in-Call.g (trees (map tree ms)) (Some c.in-Some.call)) c.as_slice.ensures (rw c.in-Some.is at c.in_ok-call-in-Call.ensures) in
    on_ok_weaker c.deliver-in-Some.result
    (λ puts. subst (λ (n : Tree). IsDelivered w c.args.e.now c.deliver-in-Some.new.self n c.args.target) (sym (ap tree c.in-Call.is ∙ tree-Call c.in-Call.g ns))
    (delivered_counted w c.args.e.now c.function_call.new.e c.deliver-in-Some.new.self c.in-Call.g (trees (map tree ns)) c.in-Some.call c.args.target called puts))
    c.deliver-in-Some.ensures

pub nodes::delivered-returns-in-None : goal.nodes::delivered-returns-in-None
nodes::delivered-returns-in-None t c =
    let w = setting c.args.ctx.now in
    let ns = c.in-Call.nodes in
    let called : IsFunctionCall w c.args.e.now c.function_call.new.e c.in-Call.g (trees (map tree ns)) None =
    subst (λ (ms : List Node). IsFunctionCall w c.args.e.now c.function_call.new.e c.in-Call.g (trees (map tree ms)) None) c.as_slice.ensures (rw c.in-None.is at c.in_ok-call-in-Call.ensures) in
    subst (λ (n : Tree). IsDelivered w c.args.e.now c.function_call.new.e n c.args.target) (sym (ap tree c.in-Call.is ∙ tree-Call c.in-Call.g ns))
    (delivered_miscounted w c.args.e.now c.function_call.new.e c.in-Call.g (trees (map tree ns)) c.args.target called)

pub nodes::delivered-returns-in_ok-call-in-Primitive : goal.nodes::delivered-returns-in_ok-call-in-Primitive
nodes::delivered-returns-in_ok-call-in-Primitive t c =
    let w = setting c.args.ctx.now in
    let p = c.in-Primitive.p in
    let ns = c.in-Primitive.nodes in
    let called = subst (λ (ms : List Node). IsPrimitiveCall w c.args.e.now c.primitive_call.new.e p (trees (map tree ms)) c.in_ok-call-in-Primitive.call) c.as_slice-in-Primitive.ensures c.in_ok-call-in-Primitive.ensures in
    on_ok_weaker c.as_word.result
    (λ gives. subst (λ (n : Tree). IsDelivered w c.args.e.now c.as_word.new.e n c.args.target) (sym (ap tree c.in-Primitive.is ∙ tree-Primitive p ns))
    (delivered_primitive w c.args.e.now c.primitive_call.new.e c.as_word.new.e p (trees (map tree ns)) c.rep.result c.in_ok-call-in-Primitive.call c.args.target
    (c.rep.ensures ∙ ap rep_of c.result.ensures) called gives))
    c.as_word.ensures

-- Branches ----------------------------------------------------------------------------------

pub branches::tested-returns : goal.branches::tested-returns
branches::tested-returns t c =
    IfOk-weaker c.condition.result _ _
    (λ e e_is. is_tested (setting c.args.ctx.now) c.args.e.now c.value.new.e (tree c.args.test.now) c.in_ok-held.held e c.in_ok-held.ensures e_is)
    c.condition.ensures

pub branches::branches-returns : goal.branches::branches-returns
branches::branches-returns t c =
    on_ok_weaker c.put-3.result
    (λ closes. delivered_if (setting c.args.ctx.now) c.args.e.now c.tested.new.e c.put.new.self c.delivered.new.e c.put-2.new.self c.delivered-2.new.e c.put-3.new.self
    (tree c.args.test.now) (tree c.args.first.now) (tree c.args.second.now) c.in_ok-chosen.chosen c.args.target
    c.in_ok-chosen.ensures c.in_ok-put.ensures c.in_ok-delivered.ensures c.in_ok-put-2.ensures c.in_ok-delivered-2.ensures closes)
    c.put-3.ensures

pub branches::tested-value-requires : goal.branches::tested-value-requires
branches::tested-value-requires t c = (omega arith, c.requires)
