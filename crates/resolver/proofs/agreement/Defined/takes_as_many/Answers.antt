use Rattle.std.proofs.Common.{sym, map, ◌∙◌}
use Rattle.resolver.specs.Drafts.{definitions_in}
use Rattle.resolver.specs.Parts.{top_of}
use Rattle.resolver.proofs.Agreements.{taken_here, taken_nowhere}
use Rattle.resolver.proofs.agreement.Defined.takes_as_many.Goals as goal

pub returns-in-None : goal.returns-in-None
returns-in-None c =
    taken_nowhere c.args.count c.args.self.now.names.now (definitions_in (map top_of c.args.self.now.tops.now)) c.args.name.now c.args.self.now.listed (sym c.in-None.is ∙ c.position.ensures)

pub returns-in-Some : goal.returns-in-Some
returns-in-Some c =
    taken_here c.args.count c.in-Some.place c.args.self.now.names.now c.args.self.now.counts.now (definitions_in (map top_of c.args.self.now.tops.now)) c.args.name.now
    c.args.self.now.listed c.args.self.now.counted (sym c.in-Some.is ∙ c.position.ensures)
