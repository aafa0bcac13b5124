use Rattle.std.proofs.Common.{ap, length, arith}
use Rattle.c_words.proofs.Narrowing.{none_left, one_on, is_longer}
use Rattle.c_words.proofs.search.Search.narrow.Goals as goal

pub returns-in_default-clause-rest : goal.returns-in_default-clause-rest
returns-in_default-clause-rest g c =
    (none_left g.T.Named.spelled c.args.self.now.depth c.args.byte c.args.self.now.rows.now c.rows_with-self.result.now c.rows_with-self.ensures c.in_default.ensures.value).rest

pub returns-then-self-name-clause-order : goal.returns-then-self-name-clause-order
returns-then-self-name-clause-order g c =
    (one_on g.T.Named.spelled c.args.self.now.depth c.args.byte _ c.args.self.now.rows.now c.rows_with-self.result.now (omega arith) c.requires c.rows_with-self.ensures).order

pub returns-then-self-name-clause-rest : goal.returns-then-self-name-clause-rest
returns-then-self-name-clause-rest g c =
    (one_on g.T.Named.spelled c.args.self.now.depth c.args.byte _ c.args.self.now.rows.now c.rows_with-self.result.now (omega arith) c.requires c.rows_with-self.ensures).rest

pub returns-else-self-name : goal.returns-else-self-name
returns-else-self-name g c =
    let same = ap length c.name.ensures in
    let longer = is_longer g.T.Named.spelled c.args.self.now.depth c.args.byte c.args.self.now.rows.now c.rows_with-self.result.now c.in-Some.row.now c.rows_with-self.ensures c.in-Some.ensures.value in
    absurd (omega (arith, c.if-self-name.false))
