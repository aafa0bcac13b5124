use Rattle.std.proofs.Common.{◌∙◌, ap, length, arith}
use Rattle.c_words.proofs.Narrowing.{found_first, found_none, found_nothing}
use Rattle.c_words.proofs.search.Search.found.Goals as goal

pub returns-in_err-row : goal.returns-in_err-row
returns-in_err-row g c = c.from_residual.ensures ∙ found_nothing g.T.Named.spelled c.args.self.now.depth c.args.self.now.rows.now c.in_err-row.ensures.value

pub returns-then-name-self : goal.returns-then-name-self
returns-then-name-self g c =
    let same = ap length c.name.ensures in
    found_first g.T.Named.spelled c.args.self.now.depth c.args.self.now.rows.now c.in_ok-row.field-0.now c.in_ok-row.ensures.value (omega (arith, c.if-name-self.true))

pub returns-else-name-self : goal.returns-else-name-self
returns-else-name-self g c =
    let same = ap length c.name.ensures in
    found_none g.T.Named.spelled c.args.self.now.depth c.args.self.now.rows.now c.in_ok-row.field-0.now c.requires c.in_ok-row.ensures.value (omega (arith, c.if-name-self.false))
