use Rattle.std.proofs.Common.{◌∙◌, ap, arith, cond, ◌+◌}
use Rattle.scheme_data.specs.Names.{is_same}
use Rattle.marked_names.proofs.CountLemmas.{count_more}
use Rattle.marked_names.proofs.counts.Counts.add.Goals as goal

pub returns-clause-ok : goal.returns-clause-ok
returns-clause-ok c k =
    count_more k c.args.key.now c.place.new.self.keys c.place.new.self.counts.items c.in_ok-place.place c.in-Some.count c.index.result.now
    c.in_ok-place.ensures.place c.place.new.self.as_long (omega (arith, c.in-Some.ensures, c.index.ensures))
    ∙ ap (λ n. cond (is_same k c.args.key.now) 1 0 + n) (c.place.ensures.same k)
