use Rattle.std.proofs.Common.{◌+◌, ◌-◌, Some, ap, ◌∙◌, arith}
use Rattle.word_region.specs.Layout.{end_of_first}
use Rattle.word_region.proofs.Laid.{span}
use Rattle.word_region.proofs.Sound.{size_none, size_some}
use Rattle.word_region.proofs.blocks.Region.size.Goals as goal

pub returns-then-a-self : goal.returns-then-a-self
returns-then-a-self c =
    let i = c.self.inside in
    size_none i.words i.starts i.live i.used c.args.a.0 c.args.self.now.blocks (ap (λ r. r.blocks) c.self.view_is) c.if-a-self.true

pub overflow_sub-result : goal.overflow_sub-result
overflow_sub-result c =
    let i = c.self.inside in
    let s = span i.starts i.live i.used c.args.a.0 c.self.invariant.laid c.if-a-self.false in
    omega (arith, s.from)

pub overflow_cast-result : goal.overflow_cast-result
overflow_cast-result c =
    let i = c.self.inside in
    let s = span i.starts i.live i.used c.args.a.0 c.self.invariant.laid c.if-a-self.false in
    omega (arith, s.short)

pub returns : goal.returns
returns c =
    let i = c.self.inside in
    ap (λ k. Some (k - c.get.result)) c.end_of-end.ensures
    ∙ ap (λ k. Some (end_of_first i.starts i.live i.used (c.args.a.0 + 1) - k)) c.get.ensures
    ∙ size_some i.words i.starts i.live i.used i.spare c.args.a.0 c.args.self.now.blocks c.self.invariant (ap (λ r. r.blocks) c.self.view_is) c.if-a-self.false
