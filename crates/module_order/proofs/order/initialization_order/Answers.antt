use Rattle.std.proofs.Common.{◌<◌, length, sym, ap, ◌∙◌, subst}
use Rattle.meaning.specs.Order.{Imports, IsOrder}
use Rattle.module_order.specs.declared.walk.Walk.{Walk}
use Rattle.module_order.specs.Tasks.{state}
use Rattle.module_order.proofs.Walking.{AreWithin, stands_first, stands_on, gets_less, stands_last}
use Rattle.module_order.proofs.order.initialization_order.Goals as goal

pub loop-task-init : goal.loop-task-init
loop-task-init c =
    let g = c.as_slice-imports.result.now in
    let here : c.args.root < length g = rw c.as_slice-imports.ensures c.requires.root_is_one in
    stands_first g c.args.root (state c.in_ok-walk.walk) here (c.in_ok-walk.ensures {u = tt})

pub loop-task-preserved : goal.loop-task-preserved
loop-task-preserved c =
    let g = c.as_slice-imports.result.now in
    stands_on g c.args.root c.in-Some.task (state c.loop-task.walk) (state c.next.new.self) (state c.follow.new.self)
    (subst AreWithin (sym c.as_slice-imports.ensures) c.requires.within) c.in-Some.ensures (c.in_ok-follow.ensures {u = tt}) c.loop-task.invariant

pub loop-task-smaller : goal.loop-task-smaller
loop-task-smaller c =
    gets_less c.as_slice-imports.result.now c.args.root c.in-Some.task (state c.loop-task.walk) (state c.next.new.self) (state c.follow.new.self)
    c.in-Some.ensures (c.in_ok-follow.ensures {u = tt}) c.loop-task.invariant

pub returns : goal.returns
returns c =
    let ends = c.in_default.ensures {u = tt} in
    subst (λ (g : Imports). IsOrder g c.args.root c.into_order.result) c.as_slice-imports.ensures
    (stands_last c.as_slice-imports.result.now c.args.root (state c.loop-task.walk) c.into_order.result ends.0 (c.into_order.ensures ∙ ap (λ (w : Walk). w.order) ends.1) c.loop-task.invariant)
