use Rattle.std.proofs.Common.{refl, arith}
use Rattle.scheme_data.specs.Forms.{form}
use Rattle.expansion_steps.proofs.MacroUses.{too-many, too-deep, fits-well, rest-fits}
use Rattle.expansion_steps.proofs.uses.counted.Goals as goal

pub returns-in_default : goal.returns-in_default
returns-in_default c = (too-many c.args.left c.args.counts.now (form c.args.datum) c.in_default.ensures, refl)

pub returns-then-not-nests_within : goal.returns-then-not-nests_within
returns-then-not-nests_within c = (too-deep c.args.left c.in-Some.left c.args.counts.now (form c.args.datum) c.in-Some.ensures c.if-not-nests_within.ensures, refl)

pub overflow_sub-counts : goal.overflow_sub-counts
overflow_sub-counts c = omega (arith, c.requires.rest, rest-fits c.args.left c.in-Some.left (form c.args.datum) c.in-Some.ensures)

pub returns : goal.returns
returns c = fits-well c.args.left c.in-Some.left c.args.counts.now (form c.args.datum) c.in-Some.ensures c.if-not-nests_within.ensures c.requires.rest
