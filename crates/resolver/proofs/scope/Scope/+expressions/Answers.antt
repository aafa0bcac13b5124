use Rattle.std.proofs.Common.{ap, sym, ◌∙◌, arith}
use Rattle.std.proofs.lemmas.Result.{err_from_is_err_and}
use Rattle.std.specs.Option.{option_map}
use Rattle.core_tree.specs.Tree.{tree}
use Rattle.resolver.specs.Parts.{node_trees, scope_of, operator_of}
use Rattle.resolver.proofs.Calls.{no_operator, no_arguments, form_tree, so_far_not, so_far_more, so_far_end}
use Rattle.resolver.proofs.scope.Scope.+expressions.Goals as goal

pub expression-returns-in_default-2 : goal.expression-returns-in_default-2
expression-returns-in_default-2 t c =
    rw c.in-List.is (no_operator (scope_of c.args.self.now) c.in-List.field-0 c.in-List.ds _ _ c.as_slice.ensures c.in-len1-up.len_at_least c.first-item.is
    (sym c.in_ok-operator-in-List.ensures ∙ ap (option_map operator_of) c.in_default-2.is))

pub expression-returns-in_default-3 : goal.expression-returns-in_default-3
expression-returns-in_default-3 t c =
    rw c.in-List.is (no_arguments (scope_of c.args.self.now) c.in-List.field-0 c.in-List.ds _ _ c.as_slice.ensures c.in-len1-up.len_at_least c.first-item.is
    (sym c.in_ok-nodes-in-List.ensures ∙ ap (option_map node_trees) c.in_default-3.is))

pub expression-returns-in-Some-2 : goal.expression-returns-in-Some-2
expression-returns-in-Some-2 t c =
    rw c.in-List.is (form_tree (scope_of c.args.self.now) c.in-List.field-0 c.in-List.ds _ _ (operator_of c.in-Some.operator) c.in-Some-2.nodes _
    c.as_slice.ensures c.in-len1-up.len_at_least c.first-item.is
    (sym c.in_ok-operator-in-List.ensures ∙ ap (option_map operator_of) c.in-Some.is)
    (sym c.in_ok-nodes-in-List.ensures ∙ ap (option_map node_trees) c.in-Some-2.is) c.form_of.ensures)

pub expressions-returns-in_default : goal.expressions-returns-in_default
expressions-returns-in_default t c =
    so_far_not (scope_of c.args.self.now) c.args.ds.now c.loop-d.nodes c.loop-d.d-index _ c.loop-d-test.true c.d-item.is c.loop-d.invariant
    (sym (ap (option_map tree) c.in_default.is) ∙ c.in_ok-node.ensures)

pub expressions-loop-d-preserved : goal.expressions-loop-d-preserved
expressions-loop-d-preserved t c =
    so_far_more (scope_of c.args.self.now) c.args.ds.now c.loop-d.nodes c.push.new.self c.loop-d.d-index _ c.in-Some.node c.loop-d-test.true c.d-item.is c.loop-d.invariant
    (sym (ap (option_map tree) c.in-Some.is) ∙ c.in_ok-node.ensures) c.in_ok-push.ensures.ok

pub expressions-returns : goal.expressions-returns
expressions-returns t c = so_far_end (scope_of c.args.self.now) c.args.ds.now c.loop-d.nodes c.loop-d.d-index (omega arith) c.loop-d.invariant

pub expressions-returns-in_err-node : goal.expressions-returns-in_err-node
expressions-returns-in_err-node t c =
    let p = err_from_is_err_and c.from_residual.result c.from_residual.ensures.1 in
    rw (p.1) tt

pub expressions-returns-in_err-push : goal.expressions-returns-in_err-push
expressions-returns-in_err-push t c =
    let p = err_from_is_err_and c.from_residual-in_err-push.result c.from_residual-in_err-push.ensures.1 in
    rw (p.1) tt
