use Rattle.std.proofs.Common.{sym, ◌∙◌}
use Rattle.word_region.proofs.Laid.{end_of_inner, end_of_all}
use Rattle.word_region.proofs.blocks.end_of.Goals as goal

pub returns-then-count-live : goal.returns-then-count-live
returns-then-count-live c = c.get.ensures ∙ sym (end_of_inner c.args.starts.now c.args.live c.args.used c.args.count c.if-count-live.true)

pub returns-else-count-live : goal.returns-else-count-live
returns-else-count-live c = sym (end_of_all c.args.starts.now c.args.live c.args.used c.args.count c.if-count-live.false)
