use Rattle.std.proofs.Common.{codes, sym, ◌∙◌}
use Rattle.expander.proofs.WrittenForms.{nothing_declared, name_declares, word_declares}
use Rattle.expander.proofs.scanning.declares_begin.Goals as goal

pub returns-in_default-as_slice : goal.returns-in_default-as_slice
returns-in_default-as_slice c = rw c.in-List.is (nothing_declared (codes "begin") c.in-List.field-0 c.in-List.ds _ c.as_slice.ensures c.in_default-as_slice.len_below)

pub returns-then-says : goal.returns-then-says
returns-then-says c =
    rw c.in-List.is (name_declares (codes "begin") c.in-List.field-0 c.in-List.ds _ c.word-item.result c.name-item.result _ c.as_slice.ensures c.in-len2-up.len_at_least c.word-item.is c.name-item.is
    (sym c.says.ensures ∙ c.if-says.true) c.says-then-says.ensures)

pub returns-else-says : goal.returns-else-says
returns-else-says c =
    rw (c.if-says.false, c.in-List.is) (word_declares (codes "begin") c.in-List.field-0 c.in-List.ds _ c.word-item.result c.name-item.result c.as_slice.ensures c.in-len2-up.len_at_least
    c.word-item.is c.name-item.is (sym c.says.ensures ∙ c.if-says.false))
