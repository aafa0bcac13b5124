use Rattle.resolver.proofs.DefinedForms.{AreBuilt}
use Rattle.resolver.proofs.functions.Functions.all.Given as goal

abbrev pub invariant-loop-top : goal.invariant-loop-top
invariant-loop-top l = AreBuilt l.self.names.now l.self.outside.now l.self.head.now.main l.tops l.built l.first l.top-index
