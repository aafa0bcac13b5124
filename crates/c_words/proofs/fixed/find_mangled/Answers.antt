use Rattle.std.proofs.Common.{rules, ◌∙◌}
use Rattle.c_words.proofs.MangledRows.{row_on, row_at_end, no_row_at_cut, no_row}
use Rattle.c_words.proofs.fixed.find_mangled.Goals as goal

pub bytes-preserved : goal.bytes-preserved
bytes-preserved g c =
    let is = c.in-Byte.ensures {u = tt} in
    record {
      order = c.narrow.ensures.order;
      asked = row_on g.T.Named.spelled c.bytes.search.depth c.narrow.new.self.depth c.bytes.search.rows.now c.narrow.new.self.rows.now c.bytes.cursor.left c.next_spelled.new.cursor.left c.in-Byte.byte (search rules) is.0 c.narrow.ensures.rest ∙ c.bytes.invariant.asked;
      whole = is.1 ∙ c.bytes.invariant.whole;
    }

pub returns-in-End-clause-row : goal.returns-in-End-clause-row
returns-in-End-clause-row g c =
    c.found.ensures ∙ row_at_end g.T.Named.spelled c.bytes.search.depth c.bytes.search.rows.now c.bytes.cursor.left c.in-End.ensures.0 ∙ c.bytes.invariant.asked

pub returns-in-Cut-clause-row : goal.returns-in-Cut-clause-row
returns-in-Cut-clause-row g c =
    no_row_at_cut g.T.Named.spelled c.bytes.search.depth c.bytes.search.rows.now c.bytes.cursor.left c.next_spelled.new.cursor.left c.in-Cut.ensures.0 ∙ c.bytes.invariant.asked

pub returns-in-Wrong-clause-row : goal.returns-in-Wrong-clause-row
returns-in-Wrong-clause-row g c =
    no_row g.T.Named.spelled c.bytes.search.depth c.bytes.search.rows.now c.bytes.cursor.left c.in-Wrong.ensures.0 ∙ c.bytes.invariant.asked
