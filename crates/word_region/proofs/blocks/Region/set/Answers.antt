use Rattle.std.proofs.Common.{◌+◌, set, ap, ◌∙◌, arith}
use Rattle.word_region.specs.Layout.{blocks_of}
use Rattle.word_region.proofs.Sound.{place, set_word}
use Rattle.word_region.proofs.blocks.Region.set.Goals as goal

pub get-requires : goal.get-requires
get-requires c =
    let i = c.self.inside in
    (place i.words i.starts i.live i.used i.spare c.args.a.0 c.args.i c.args.self.now.blocks c.self.invariant (ap (λ r. r.blocks) c.self.view_is) c.requires.live c.requires.within).started

pub overflow_add-at : goal.overflow_add-at
overflow_add-at c =
    let i = c.self.inside in
    let p = place i.words i.starts i.live i.used i.spare c.args.a.0 c.args.i c.args.self.now.blocks c.self.invariant (ap (λ r. r.blocks) c.self.view_is) c.requires.live c.requires.within in
    omega (arith, p.small)

pub set-requires : goal.set-requires
set-requires c =
    let i = c.self.inside in
    let p = place i.words i.starts i.live i.used i.spare c.args.a.0 c.args.i c.args.self.now.blocks c.self.invariant (ap (λ r. r.blocks) c.self.view_is) c.requires.live c.requires.within in
    omega (arith, p.there)

pub returns-clause-blocks : goal.returns-clause-blocks
returns-clause-blocks c =
    let i = c.self.inside in
    let p = place i.words i.starts i.live i.used i.spare c.args.a.0 c.args.i c.args.self.now.blocks c.self.invariant (ap (λ r. r.blocks) c.self.view_is) c.requires.live c.requires.within in
    ap (λ ws. blocks_of ws i.starts i.live i.used) (c.set.ensures ∙ ap (λ s. set i.words (s + c.args.i) c.args.w) c.get.ensures)
    ∙ set_word i.words i.starts i.live i.used i.spare c.args.a.0 c.args.i c.args.w c.args.self.now.blocks c.self.invariant (ap (λ r. r.blocks) c.self.view_is) p
