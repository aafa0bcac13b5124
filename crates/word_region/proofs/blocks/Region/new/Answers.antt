use Rattle.std.proofs.Common.{refl, ap, length, arith}
use Rattle.word_region.specs.Layout.{blocks_of, IsLaid}
use Rattle.word_region.proofs.blocks.Region.new.Goals as goal

pub invariant_of-result : goal.invariant_of-result
unfolding IsLaid
invariant_of-result c =
    record { laid = refl; words_fit = ap length c.new.ensures; starts_fit = ap length c.new-2.ensures; bounded = omega arith }

pub returns-clause-blocks : goal.returns-clause-blocks
unfolding blocks_of
returns-clause-blocks c = refl
