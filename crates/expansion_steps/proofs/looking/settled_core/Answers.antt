use Rattle.std.proofs.Common.{refl, ap, ◌∙◌}
use Rattle.scheme_data.specs.Forms.{form, next, listed}
use Rattle.core_forms.specs.Code.{data_of}
use Rattle.core_forms.specs.Bodies.{is_core}
use Rattle.expansion_steps.proofs.Decisions.{lambda_now, other_now, core_other}
use Rattle.expansion_steps.proofs.looking.settled_core.Goals as goal

pub returns-in-Lambda : goal.returns-in-Lambda
returns-in-Lambda c = λ ks s n h. lambda_now ks s n n (listed c.args.at (next (form c.args.word) (data_of c.args.others))) c.args.at c.args.others refl (h ∙ ap is_core c.in-Lambda.is) refl refl

pub returns-in_ok-whole-in_default : goal.returns-in_ok-whole-in_default
returns-in_ok-whole-in_default c = λ ks s n h. other_now ks s n n (listed c.args.at (next (form c.args.word) (data_of c.args.others))) (form c.in_ok-whole-in_default.whole) refl (core_other ks s n (listed c.args.at (next (form c.args.word) (data_of c.args.others))) c.args.keyword h c.in_default.not-Lambda) c.in_ok-whole-in_default.ensures
