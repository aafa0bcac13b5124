use Rattle.std.proofs.Common.{lit<}
use Rattle.region_times.proofs.Kept.{within_pair}
use Rattle.region_times.proofs.walks.get_pair.Goals as goal

pub get-first-requires-clause-within : goal.get-first-requires-clause-within
get-first-requires-clause-within c = within_pair 4194304 c.args.region.now.blocks c.args.pair 0 c.requires.pairs c.requires.live (lit< tt)

pub get-requires-clause-within : goal.get-requires-clause-within
get-requires-clause-within c = within_pair 4194304 c.args.region.now.blocks c.args.pair 1 c.requires.pairs c.requires.live (lit< tt)
