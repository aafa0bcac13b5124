use Rattle.std.proofs.Common.{arith, ◌∙◌}
use Rattle.scheme_data.specs.Forms.{form}
use Rattle.core_forms.specs.Code.{data_of}
use Rattle.syntax_rules.proofs.Places.{same_place}
use Rattle.expansion_steps.proofs.Decisions.{begin_none, begin_short, begin_splices}
use Rattle.expansion_steps.proofs.looking.begin.Goals as goal

pub returns-in_default : goal.returns-in_default
returns-in_default c = λ ks s n h. begin_none ks s n (form c.args.datum) c.place-at.result h (c.place-at.ensures ∙ same_place c.args.datum) (data_of c.args.others) c.in_default.ensures

pub returns-then-len-lt2 : goal.returns-then-len-lt2
returns-then-len-lt2 c = λ ks s n h. begin_short ks s n (form c.args.datum) c.place-at.result h (c.place-at.ensures ∙ same_place c.args.datum) (data_of c.args.others) c.in-Some.items c.in-Some.ensures (omega arith)

pub returns : goal.returns
returns c = λ ks s n h. begin_splices ks s n (form c.args.datum) c.place-at.result h (c.place-at.ensures ∙ same_place c.args.datum) c.in-Some.items c.args.others c.put_in_front.new.stack c.pop.new.self c.pop.result c.in-Some.ensures (λ l. absurd (omega arith)) (c.in_ok-put_in_front.ensures {u = tt}) c.pop.ensures
