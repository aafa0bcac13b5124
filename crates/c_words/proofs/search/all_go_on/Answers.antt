use Rattle.c_words.proofs.Narrowing.{all_told}
use Rattle.c_words.proofs.search.all_go_on.Goals as goal

pub returns : goal.returns
returns g c = λ all.
    all_told g.T.Named.spelled c.args.depth c.args.byte c.args.rows.now c.in-Some.first.now c.in-Some-last.last.now c.name.result.now c.name-2.result.now c.goes_on.result c.goes_on-2.result
    c.requires c.in-Some.ensures.value c.in-Some-last.ensures.value c.name.ensures c.name-2.ensures c.goes_on.ensures c.goes_on-2.ensures c.if-not-goes_on.false all
