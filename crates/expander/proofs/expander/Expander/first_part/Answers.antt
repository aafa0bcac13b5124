use Rattle.expansion_steps.specs.Heads.{macros_of}
use Rattle.expander.proofs.FirstWalks.{count_fits}
use Rattle.expander.proofs.EntryWalks.{is_inside}
use Rattle.expander.proofs.expander.Expander.first_part.Goals as goal

pub overflow_sub-inside : goal.overflow_sub-inside
overflow_sub-inside c = count_fits c.args.room c.count.result c.args.parts.now c.pop.new.self c.in-Some.field-0 c.requires.fits c.in-Some.ensures c.count.ensures.count

pub returns-in_ok-entry-in-Some-clause-leads : goal.returns-in_ok-entry-in-Some-clause-leads
returns-in_ok-entry-in-Some-clause-leads c = is_inside (macros_of c.args.self.now.macros) c.args.room c.count.result c.args.self.now.scope c.args.self.now.counts c.args.parts.now c.pop.new.self c.in-Some.field-0 c.in_ok-entry-in-Some.entry c.entry.new.self.counts c.in-Some.ensures c.count.ensures.count c.in_ok-entry-in-Some.ensures.leads
