use Rattle.std.proofs.Common.{ap}
use Rattle.std.specs.Option.{option_copied}
use Rattle.word_region.proofs.Sound.{shows_words}
use Rattle.word_region.proofs.blocks.Region.segment.Goals as goal

pub returns : goal.returns
returns c =
    let i = c.self.inside in
    shows_words (option_copied c.segment.result) i.words i.starts i.live i.used i.spare c.args.k c.args.self.now.blocks c.self.invariant (ap (λ r. r.blocks) c.self.view_is) c.segment.ensures
