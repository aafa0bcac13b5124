use Rattle.std.proofs.Common.{arith, sym, ◌∙◌}
use Rattle.syntax_rules.proofs.RuleParts.{no_rules, another_word, listed_is, same_macro}
use Rattle.syntax_rules.proofs.reading.read_rules.Goals as goal

pub returns-then-ds-lt2 : goal.returns-then-ds-lt2
returns-then-ds-lt2 c = no_rules c.args.name.now _ c.in-Some.ds.now c.in-Some.ensures c.if-ds-lt2.true

pub returns-then-not-says : goal.returns-then-not-says
returns-then-not-says c = another_word c.args.name.now _ c.in-Some.ds.now _ c.in-Some.ensures (omega arith) c.index-ds-0.is (sym c.says.ensures ∙ c.if-not-says.true)

pub returns : goal.returns
returns c =
    same_macro c.read_listed.result _ _
    (listed_is c.args.name.now _ c.in-Some.ds.now c.in-Some-parts.words.now _ _ c.in-Some.ensures (omega arith) c.index-ds-0.is c.index-ds-1.is (sym c.says.ensures ∙ c.if-not-says.false) c.in-Some-parts.ensures)
    c.read_listed.ensures
