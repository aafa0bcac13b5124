use Rattle.std.proofs.Common.{◌∙◌, sym, arith}
use Rattle.marked_names.proofs.CountLemmas.{count_less}
use Rattle.marked_names.proofs.counts.Counts.remove.Goals as goal

pub returns-in-Some : goal.returns-in-Some
returns-in-Some c k some =
    count_less k c.args.key.now c.args.self.now.keys c.args.self.now.counts.items c.in-Some.place c.saturating_sub.result c.index.result.now
    (sym c.position.ensures ∙ c.in-Some.is) c.args.self.now.as_long (omega (arith, c.saturating_sub.ensures, c.index.ensures)) some
