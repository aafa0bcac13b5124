use Rattle.scheme_read.proofs.Kept.{closed_low, put_low}
use Rattle.scheme_read.proofs.reader.Reader.step.Goals as goal

pub returns-in-Close-clause-low : goal.returns-in-Close-clause-low
returns-in-Close-clause-low c = closed_low c.args.self.now c.args.token.at _ c.close.new.self c.close.ensures

pub returns-in-Atom-clause-low : goal.returns-in-Atom-clause-low
returns-in-Atom-clause-low c = put_low c.args.self.now c.args.token.at c.simple_datum.result _ c.put.new.self c.put.ensures
