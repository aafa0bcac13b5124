use Rattle.std.proofs.Common.{◌+◌, ◌^◌, ◌<◌, ap, sym, subst}
use Rattle.word_region.specs.Regions.{taken}
use Rattle.word_region.proofs.Sound.{live_count, taken_bounded}
use Rattle.word_region.proofs.blocks.Region.mark.Goals as goal

pub returns-clause-count : goal.returns-clause-count
returns-clause-count c =
    let i = c.self.inside in
    sym (live_count i.words i.starts i.live i.used c.args.self.now.blocks (ap (λ r. r.blocks) c.self.view_is))

pub returns-clause-bounded : goal.returns-clause-bounded
returns-clause-bounded c =
    let i = c.self.inside in
    subst (λ s. taken c.args.self.now.blocks + s < 2 ^ 60) (ap (λ r. r.spare) c.self.view_is)
    (taken_bounded i.words i.starts i.live i.used i.spare c.args.self.now.blocks c.self.invariant (ap (λ r. r.blocks) c.self.view_is))
