use Rattle.std.proofs.Common.{◌≡◌, ◌+◌, ◌++◌, ◌∷◌, [], ap, ◌∙◌}
use Rattle.word_region.specs.Regions.{taken, zeros}
use Rattle.word_region.proofs.Sound.{grown_by_block}
use Rattle.word_region.proofs.blocks.Region.alloc.Goals as goal

pub returns-clause-grown : goal.returns-clause-grown
returns-clause-grown c l =
    let e : c.place.new.self.blocks ≡ c.args.self.now.blocks ++ zeros c.args.size ∷ [] = c.place.ensures.blocks ∙ ap (λ b. b ++ zeros c.args.size ∷ []) c.reserve.ensures.blocks in
    grown_by_block c.args.self.now.blocks c.place.new.self.blocks c.args.size c.place.new.self.spare e
    (ap (λ s. taken c.args.self.now.blocks + s) c.place.ensures.spare ∙ c.in_ok-reserve.ensures.grown l)
