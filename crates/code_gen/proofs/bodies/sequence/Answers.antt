use Rattle.std.proofs.Common.{◌≡◌, ◌-◌, ◌∙◌, ap, length, get_or, arith}
use Rattle.code_gen.proofs.Shapes.{node_at}
use Rattle.std.proofs.lemmas.Result.{on_ok_weaker}
use Rattle.code_gen.proofs.Walks.{walking_none, walking_one, walking_last}
use Rattle.code_gen.specs.Settings.{setting}
use Rattle.code_gen.proofs.bodies.sequence.Goals as goal

pub loop-i-init : goal.loop-i-init
loop-i-init c = walking_none (setting c.args.ctx.now) c.args.e.now c.args.nodes.now

pub unused-requires : goal.unused-requires
unused-requires c = node_at (setting c.args.ctx.now) c.args.nodes.now c.loop-i.i c.index-nodes-i.result (omega arith) c.index-nodes-i.is c.requires.expressions

pub loop-i-preserved : goal.loop-i-preserved
loop-i-preserved c = walking_one (setting c.args.ctx.now) c.args.e.now c.loop-i.e c.unused.new.e c.args.nodes.now c.loop-i.i c.index-nodes-i.result (omega arith) c.index-nodes-i.is c.loop-i.invariant c.in_ok-unused.ensures

pub delivered-requires : goal.delivered-requires
delivered-requires c = node_at (setting c.args.ctx.now) c.args.nodes.now _ c.index-nodes-last.result (omega arith) c.index-nodes-last.is c.requires.expressions

pub returns : goal.returns
returns c =
    let at : length c.args.nodes.now - 1 ≡ c.loop-i.i = omega arith in
    on_ok_weaker c.delivered.result
    (λ one. walking_last (setting c.args.ctx.now) c.args.e.now c.loop-i.e c.delivered.new.e c.args.nodes.now c.loop-i.i c.index-nodes-last.result (omega arith) (c.index-nodes-last.is ∙ ap (λ i. get_or c.args.nodes.now i c.index-nodes-last.result) at) c.loop-i.invariant one)
    c.delivered.ensures
