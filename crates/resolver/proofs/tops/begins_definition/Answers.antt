use Rattle.resolver.proofs.Beginnings.{no_list_begins, none_begins, first_begins}
use Rattle.resolver.proofs.tops.begins_definition.Goals as goal

pub returns-in_default : goal.returns-in_default
returns-in_default c = no_list_begins _ c.in_default.ensures

pub returns-in_default-ds : goal.returns-in_default-ds
returns-in_default-ds c = none_begins _ c.in-Some.ds.now c.in-Some.ensures c.in_default-ds.len_below

pub returns : goal.returns
returns c = first_begins _ c.in-Some.ds.now c.word-item.result _ c.in-Some.ensures c.in-len1-up.len_at_least c.word-item.is c.is_symbol.ensures
