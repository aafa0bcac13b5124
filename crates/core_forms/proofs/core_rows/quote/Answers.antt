use Rattle.std.proofs.Common.{ap}
use Rattle.core_forms.specs.Code.{data_of}
use Rattle.core_forms.specs.Table.{core_turn}
use Rattle.core_forms.specs.declared.words.Keyword.TheVariants.{Quote}
use Rattle.core_forms.proofs.Rows.{quote-wrong, quote-is}
use Rattle.core_forms.proofs.core_rows.quote.Goals as goal

pub returns-then-len-ne1 : goal.returns-then-len-ne1
returns-then-len-ne1 c = λ n. quote-wrong n c.args.at c.args.forms c.len.result c.len.ensures c.if-len-ne1.true

pub returns-in-Some : goal.returns-in-Some
returns-in-Some c = λ n. quote-is n c.args.at c.args.forms c.pop.new.self c.in-Some.datum c.len.result c.in-Some.ensures c.len.ensures c.if-len-ne1.false

pub returns : goal.returns
returns c = λ n. ap (λ ds. core_turn n c.args.at Quote (data_of ds)) (c.in-None.ensures {u = tt}).0
