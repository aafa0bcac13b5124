use Rattle.std.proofs.Common.{sym, ◌∙◌, subst, ap, map, List}
use Rattle.std.proofs.lemmas.Result.{on_ok_weaker}
use Rattle.core_tree.specs.declared.tree.Node.{Node}
use Rattle.core_tree.specs.Tree.{Tree, Sequence, trees, tree}
use Rattle.code_gen.specs.Emission.{IsBodyOf}
use Rattle.code_gen.proofs.Shapes.{tree-Sequence, body_parts, constant_no_body}
use Rattle.code_gen.specs.Settings.{setting}
use Rattle.code_gen.proofs.bodies.body.Goals as goal

pub sequence-requires-clause-some : goal.sequence-requires-clause-some
sequence-requires-clause-some c = (body_parts (setting c.args.ctx.now) c.args.node.now c.in-Sequence.nodes c.as_slice.result.now c.in-Sequence.is c.as_slice.ensures c.requires).0

pub sequence-requires-clause-expressions : goal.sequence-requires-clause-expressions
sequence-requires-clause-expressions c = (body_parts (setting c.args.ctx.now) c.args.node.now c.in-Sequence.nodes c.as_slice.result.now c.in-Sequence.is c.as_slice.ensures c.requires).1

pub returns : goal.returns
returns c = on_ok_weaker c.sequence.result
    (λ all. subst (λ (n : Tree). IsBodyOf (setting c.args.ctx.now) c.args.e.now c.sequence.new.e n) (sym (ap tree c.in-Sequence.is ∙ tree-Sequence c.in-Sequence.nodes))
    (subst (λ (ms : List Node). IsBodyOf (setting c.args.ctx.now) c.args.e.now c.sequence.new.e (Sequence (trees (map tree ms)))) c.as_slice.ensures all))
    c.sequence.ensures

pub unreachable-requires : goal.unreachable-requires
unreachable-requires c = constant_no_body (setting c.args.ctx.now) c.args.node.now _ c.in-Constant.is c.requires
