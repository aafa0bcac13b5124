use Rattle.std.proofs.Common.{refl, ap, ◌∙◌}
use Rattle.core_forms.specs.Code.{data_of, spelling}
use Rattle.core_forms.specs.Bodies.{is_core}
use Rattle.core_forms.specs.Table.{core}
use Rattle.expansion_steps.proofs.Decisions.{lambda_now, other_now, core_other}
use Rattle.expansion_steps.proofs.looking.settled_row.Goals as goal

pub returns-in-Lambda : goal.returns-in-Lambda
returns-in-Lambda c = λ ks s n h. lambda_now ks s n n (core c.args.at (spelling c.args.keyword) (data_of c.args.others)) c.args.at c.args.others refl (h ∙ ap is_core c.in-Lambda.is) refl refl

pub returns-in_default : goal.returns-in_default
returns-in_default c = λ ks s n h. other_now ks s n n (core c.args.at (spelling c.args.keyword) (data_of c.args.others)) (core c.args.at (spelling c.args.keyword) (data_of c.args.others)) refl (core_other ks s n (core c.args.at (spelling c.args.keyword) (data_of c.args.others)) c.args.keyword h c.in_default.not-Lambda) refl
