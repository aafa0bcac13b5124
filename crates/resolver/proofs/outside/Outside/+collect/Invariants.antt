use Rattle.resolver.proofs.FirstSight.{AreCollected}
use Rattle.resolver.proofs.outside.Outside.+collect.Given as goal

abbrev pub invariant-collect_all-loop-d : goal.invariant-collect_all-loop-d
invariant-collect_all-loop-d l = AreCollected l.self.imported.now l.self.functions.now l.self.params.now l.fn.names l.names l.ds l.d-index
