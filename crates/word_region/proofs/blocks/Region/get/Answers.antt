use Rattle.std.proofs.Common.{◌+◌, get_or, sym, ap, ◌∙◌, arith}
use Rattle.word_region.proofs.Sound.{place}
use Rattle.word_region.proofs.blocks.Region.get.Goals as goal

pub get-requires : goal.get-requires
get-requires c =
    let i = c.self.inside in
    (place i.words i.starts i.live i.used i.spare c.args.a.0 c.args.i c.args.self.now.blocks c.self.invariant (ap (λ r. r.blocks) c.self.view_is) c.requires.live c.requires.within).started

pub overflow_add-get : goal.overflow_add-get
overflow_add-get c =
    let i = c.self.inside in
    let p = place i.words i.starts i.live i.used i.spare c.args.a.0 c.args.i c.args.self.now.blocks c.self.invariant (ap (λ r. r.blocks) c.self.view_is) c.requires.live c.requires.within in
    omega (arith, p.small)

pub get-requires-2 : goal.get-requires-2
get-requires-2 c =
    let i = c.self.inside in
    let p = place i.words i.starts i.live i.used i.spare c.args.a.0 c.args.i c.args.self.now.blocks c.self.invariant (ap (λ r. r.blocks) c.self.view_is) c.requires.live c.requires.within in
    omega (arith, p.there)

pub returns : goal.returns
returns c =
    let i = c.self.inside in
    let p = place i.words i.starts i.live i.used i.spare c.args.a.0 c.args.i c.args.self.now.blocks c.self.invariant (ap (λ r. r.blocks) c.self.view_is) c.requires.live c.requires.within in
    c.get-2.ensures ∙ ap (λ s. get_or i.words (s + c.args.i) 0) c.get.ensures ∙ sym p.word
