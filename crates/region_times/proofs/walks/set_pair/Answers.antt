use Rattle.std.proofs.Common.{lit<}
use Rattle.region_times.specs.Pairs.{HasPairs}
use Rattle.region_times.proofs.Kept.{within_pair, HasPairs-set}
use Rattle.region_times.proofs.walks.set_pair.Goals as goal

pub set-requires-clause-within : goal.set-requires-clause-within
set-requires-clause-within c = within_pair 4194304 c.args.region.now.blocks c.args.pair 0 c.requires.pairs c.requires.live (lit< tt)

pub set-requires-2-clause-within : goal.set-requires-2-clause-within
set-requires-2-clause-within c =
    let kept : HasPairs 4194304 c.set.new.self.blocks = rw c.set.ensures.blocks (HasPairs-set 4194304 c.args.region.now.blocks c.args.pair 0 c.args.first c.requires.pairs) in
    within_pair 4194304 c.set.new.self.blocks c.args.pair 1 kept c.requires.live (lit< tt)

pub returns : goal.returns
returns c =
    let kept : HasPairs 4194304 c.set.new.self.blocks = rw c.set.ensures.blocks (HasPairs-set 4194304 c.args.region.now.blocks c.args.pair 0 c.args.first c.requires.pairs) in
    rw c.set-2.ensures.blocks (HasPairs-set 4194304 c.set.new.self.blocks c.args.pair 1 c.args.second kept)
