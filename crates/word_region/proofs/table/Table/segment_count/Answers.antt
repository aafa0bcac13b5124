use Rattle.std.proofs.Common.{arith}
use Rattle.word_region.proofs.Joined.{length_of_segments}
use Rattle.word_region.proofs.table.Table.segment_count.Goals as goal

pub returns : goal.returns
returns c =
    let e = length_of_segments c.self.inside.segments.items c.args.self.now c.self.invariant c.self.view_is in
    omega (arith, e)
