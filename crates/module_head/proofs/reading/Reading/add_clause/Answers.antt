use Rattle.std.proofs.Common.{subst}
use Rattle.module_head.specs.Steps.{Follows, take_all}
use Rattle.module_head.proofs.ClauseSteps.{items_are}
use Rattle.module_head.proofs.reading.Reading.add_clause.Goals as goal

pub returns-in-Some-kind_of : goal.returns-in-Some-kind_of
returns-in-Some-kind_of c =
    subst (λ ps. Follows (take_all ps c.args.self.now) c.add_items.result c.add_items.new.self)
    (items_are _ c.in-Some.ds.now _ c.in-Some-kind_of.kind c.in-Some.ensures c.in-len1-up.len_at_least c.word-item.is c.in-Some-kind_of.ensures)
    c.add_items.ensures
